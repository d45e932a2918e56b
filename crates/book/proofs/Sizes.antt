-- What the first two tests say: a number of stops, and the lengths of tables. Assumes nothing.
use Prim.Native.Nat.{ℕ, ◌*◌, ◌<◌, ◌≤◌}
use mathlib.Core.Path.{◌≡◌}
use mathlib.Core.Bool.{Bool, true, and-eq-true_iff}
use mathlib.Core.List.{List}
use lib.Dec.{eqb, leb}
use lib.ListN.{length}
use borrow.Author.Tests.{eqb-true, eq-eqb, leb-true}
use Rattle.book.specs.Hall.{Tables, most_stops, up_to, sized}

-- a number of stops
pub stops : (n : ℕ) → up_to most_stops n ≡ true → (0 < n) × (n ≤ 64)
stops n e = let (low, high) = (and-eq-true_iff (leb 1 n) (leb n most_stops)).0 e in (leb-true 1 n low, leb-true n most_stops high)

-- the lengths of tables that have them
pub record Lengths (n : ℕ) (t : Tables) : Type 0 where
  pub costs : length t.layout.cost ≡ n * n
  pub passings : length t.layout.passing ≡ n
  pub times : length t.time ≡ n * n
  pub counts : length t.ways ≡ n * n
  pub shares : length t.share ≡ n * n
  pub scores : length t.score ≡ n

pub lengths : (n : ℕ) (t : Tables) → sized n t ≡ true → Lengths n t
unfolding sized
lengths n t e =
    let square : List ℕ → Bool = λ l. eqb (length l) (n * n) in
    let (a, e₀) = (and-eq-true_iff (square t.layout.cost) _).0 e in
    let (p, e₁) = (and-eq-true_iff (eqb (length t.layout.passing) n) _).0 e₀ in
    let (b, e₂) = (and-eq-true_iff (square t.time) _).0 e₁ in
    let (c, e₃) = (and-eq-true_iff (square t.ways) _).0 e₂ in
    let (d, f) = (and-eq-true_iff (square t.share) (eqb (length t.score) n)).0 e₃ in
    record { costs = eqb-true _ _ a; passings = eqb-true _ _ p; times = eqb-true _ _ b; counts = eqb-true _ _ c; shares = eqb-true _ _ d; scores = eqb-true _ _ f }

-- passing times that a call is lent and brings have their length where the lent tables have theirs
pub passing-fits : (n : ℕ) (t : Tables) → sized n t ≡ true → eqb (length t.layout.passing) n ≡ true
passing-fits n t e = eq-eqb _ _ (lengths n t e).passings
