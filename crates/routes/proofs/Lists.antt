-- Laws of `same`, the test that two lists are equal, and of joined lists. Assumes nothing.
use Prim.Native.Nat.{ℕ, zero, suc, ◌+◌, ◌-◌, ◌<◌, ◌≤◌}
use native.Mathlib.Omega.{arith}
use mathlib.Core.Path.{◌≡◌, refl, ap₂}
use mathlib.Core.Bool.{true, false≢true, and-eq-true_iff}
use mathlib.Core.List.{List, [], ◌∷◌, ◌++◌}
use lib.Dec.{eqb}
use lib.ListN.{take, replicate, length-replicate, replicate-append-replicate}
use lib.Seq.{take_at}
use borrow.Author.Tests.{eqb-true, eq-eqb}
use Rattle.routes.specs.Route.{join_to, same}

-- a list is the same as itself, and lists that are the same are equal
pub same_refl : (l : List ℕ) → same l l ≡ true
unfolding same
same_refl [] = refl
same_refl (x ∷ l) = (and-eq-true_iff (eqb x x) (same l l)).1 (eq-eqb x x refl, same_refl l)

pub same_true : (l m : List ℕ) → same l m ≡ true → l ≡ m
unfolding same
same_true [] [] e = refl
same_true [] (y ∷ m) e = absurd (false≢true e)
same_true (x ∷ l) [] e = absurd (false≢true e)
same_true (x ∷ l) (y ∷ m) e =
    let (h, t) = (and-eq-true_iff (eqb x y) (same l m)).0 e in
    ap₂ {C = List ℕ} ◌∷◌ (eqb-true x y h) (same_true l m t)

-- parts that agree join to the same list
pub join_to-cong : {A : Type 0} (n : ℕ) {f g : ℕ → List A} → ((i : ℕ) → i < n → f i ≡ g i) → join_to n f ≡ join_to n g
unfolding join_to
join_to-cong zero h = refl
join_to-cong (suc n) h = ap₂ ◌++◌ (join_to-cong n (λ i l. h i (omega arith))) (h n (omega arith))

-- the front of a list of one number
pub take-replicate : (k n x : ℕ) → k ≤ n → take k (replicate n x) ≡ replicate k x
take-replicate k n x h =
    let split : k + (n - k) ≡ n = omega arith in
    rw (← split, ← replicate-append-replicate k (n - k) x) (take_at (replicate k x) (replicate (n - k) x) k (length-replicate k x))
