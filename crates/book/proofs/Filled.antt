-- The tables of a hall's layout: their lengths, and that the audit's test passes them and no others. Assumes nothing.
use Prim.Native.Nat.{ℕ, ◌*◌}
use mathlib.Core.Path.{◌≡◌, refl, sym, ◌∙◌, ap}
use mathlib.Core.Bool.{Bool, true, false, ◌&&◌, and-false, and-eq-true_iff}
use mathlib.Core.List.{List}
use lib.Dec.{eqb}
use lib.ListN.{length}
use borrow.Author.Tests.{eqb-true, eqb-false, eq-eqb, ne_eqb}
use Rattle.routes.specs.Route.{same}
use Rattle.routes.proofs.Lists.{same_refl, same_true}
use Rattle.routes.proofs.Rows.{length-list_to}
use Rattle.book.specs.Hall.{Layout, laid, Tables, filled, sized, valid_costs, right}
use Rattle.book.specs.Call.{with_layout}
use Rattle.book.proofs.Sizes.{lengths}
use Rattle.book.proofs.Tables.{length-table}

-- tables of N stops beside any layout have the lengths for n stops exactly where n is N and the layout has its lengths
pub sized-beside : (L m n N : ℕ) (lay there : Layout) →
    sized n (with_layout there (filled L m N lay)) ≡ (eqb (length there.cost) (n * n) && (eqb (length there.passing) n && eqb n N))
unfolding sized filled
sized-beside L m n N lay there =
    rw (length-table N, length-table N, length-table N, length-list_to N)
    (ap (λ b. eqb (length there.cost) (n * n) && (eqb (length there.passing) n && b)) (go (eqb n N) refl))
  where
    go : (b : Bool) → eqb n N ≡ b → (eqb (N * N) (n * n) && (eqb (N * N) (n * n) && (eqb (N * N) (n * n) && eqb N n))) ≡ b
    go true h = rw (eqb-true n N h, eq-eqb (N * N) (N * N) refl, eq-eqb N N refl)
    go false h = rw (ne_eqb N n (λ p. eqb-false n N h (sym p))) (simp and-false)

-- beside costs of N stops
pub sized-costs : (L m n N : ℕ) (lay : Layout) (passing : List ℕ) → length lay.cost ≡ N * N →
    sized n (with_layout (laid lay.cost passing) (filled L m N lay)) ≡ (eqb (length passing) n && eqb n N)
sized-costs L m n N lay passing e = sized-beside L m n N lay (laid lay.cost passing) ∙ rw e (go (eqb n N) refl)
  where
    go : (b : Bool) → eqb n N ≡ b → (eqb (N * N) (n * n) && (eqb (length passing) n && b)) ≡ (eqb (length passing) n && b)
    go true h = rw (eqb-true n N h, eq-eqb (N * N) (N * N) refl)
    go false h = rw (and-false (eqb (length passing) n), and-false (eqb (N * N) (n * n)))

-- so the tables of N stops do exactly where n is N
pub sized-filled : (L m n N : ℕ) (lay : Layout) → length lay.cost ≡ N * N → length lay.passing ≡ N → sized n (filled L m N lay) ≡ eqb n N
unfolding filled
sized-filled L m n N lay e f = sized-costs L m n N lay lay.passing e ∙ rw f (go (eqb n N) refl)
  where
    go : (b : Bool) → eqb n N ≡ b → (eqb N n && b) ≡ b
    go true h = rw (eq-eqb N n (sym (eqb-true n N h)))
    go false h = and-false (eqb N n)

-- and a cost table and passing times of their lengths
pub sized-cost : (n : ℕ) (t : Tables) → sized n t ≡ true → length t.layout.cost ≡ n * n
sized-cost n t e = (lengths n t e).costs

pub sized-passing : (n : ℕ) (t : Tables) → sized n t ≡ true → length t.layout.passing ≡ n
sized-passing n t e = (lengths n t e).passings

-- the tables of valid costs are right
pub right-filled : (L m n : ℕ) (lay : Layout) → valid_costs n lay.cost ≡ true → right L m n (filled L m n lay) ≡ true
unfolding right filled
right-filled L m n lay v = rw (v, same_refl, same_refl, same_refl, same_refl)

-- right tables are those of their layout, whose costs are valid
pub right-true : (L m n : ℕ) (t : Tables) → right L m n t ≡ true → (valid_costs n t.layout.cost ≡ true) × (filled L m n t.layout ≡ t)
unfolding right filled
right-true L m n t e =
    let f : Tables = filled L m n t.layout in
    let (valid, e₁) = (and-eq-true_iff (valid_costs n t.layout.cost) _).0 e in
    let (time, e₂) = (and-eq-true_iff (same t.time f.time) _).0 e₁ in
    let (ways, e₃) = (and-eq-true_iff (same t.ways f.ways) _).0 e₂ in
    let (share, score) = (and-eq-true_iff (same t.share f.share) (same t.score f.score)).0 e₃ in (
      valid,
      sym λ i.
          record {
            layout = t.layout;
            time = same_true t.time f.time time i;
            ways = same_true t.ways f.ways ways i;
            share = same_true t.share f.share share i;
            score = same_true t.score f.score score i;
          },
    )
