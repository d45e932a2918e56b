-- Tests of whole lists, place by place, and the tests of a loop. Assumes nothing.
use Prim.Native.Nat.{ℕ, zero, suc, ◌+◌, ◌*◌, ◌≤◌}
use mathlib.Core.Path.{◌≡◌, refl, sym, ◌∙◌, ap}
use mathlib.Core.Bool.{Bool, true, false, not, ◌&&◌, ◌||◌, and_assoc, and-true}
use native.Mathlib.Nat.{add-zero, add-suc, zero-mul, suc-mul}
use native.Mathlib.Numerals.{add-one}
use native.Mathlib.Omega.{arith}
use lib.Dec.{ltb, leb}
use borrow.Author.Tests.{le-leb, lt-leb, ltb-true, ltb-false}
use Rattle.routes.specs.Route.{all_to}
use Rattle.routes.proofs.Bits.{split}

-- a test of m rows of n places, one after another
all-add : (m n : ℕ) (p : ℕ → Bool) → all_to (m + n) p ≡ (all_to m p && all_to n (λ t. p (m + t)))
unfolding all_to
all-add m zero p = rw add-zero (sym (and-true (all_to m p)))
all-add m (suc n) p = rw (add-suc, all-add m n p) (and_assoc (all_to m p) _ _)

pub all-flat : (m n : ℕ) (p : ℕ → Bool) → all_to (m * n) p ≡ all_to m (λ s. all_to n (λ t. p (s * n + t)))
unfolding all_to
all-flat zero n p = rw zero-mul
all-flat (suc m) n p = rw (suc-mul, all-add (m * n) n p, all-flat m n p)

-- one more test of a loop that collects what fails
pub all_more : (i : ℕ) (p : ℕ → Bool) (bad fails : Bool) → not bad ≡ all_to i p → not fails ≡ p i → not (bad || fails) ≡ all_to (i + 1) p
unfolding all_to
all_more i p bad fails e f = rw (add-one, ← e, ← f) (neither bad)
  where
    neither : (b : Bool) → not (b || fails) ≡ (not b && not fails)
    neither true = refl
    neither false = refl

-- one more test of a loop that collects what passes
pub all-next : (i : ℕ) (p : ℕ → Bool) {good passes : Bool} → good ≡ all_to i p → passes ≡ p i → (good && passes) ≡ all_to (i + 1) p
unfolding all_to
all-next i p e f = rw (add-one, e, f)

-- at the end all are tested
pub all_end : (i n : ℕ) (p : ℕ → Bool) {b : Bool} → i ≤ n → n ≤ i → b ≡ all_to i p → b ≡ all_to n p
all_end i n p l m e = let same : i ≡ n = omega arith in e ∙ ap (λ k. all_to k p) same

-- a number is not above a limit where it is at most the limit
pub not-above : (m x : ℕ) → not (ltb m x) ≡ leb x m
not-above m x = split (ltb m x) (λ e. rw e (sym (lt-leb x m (ltb-true m x e)))) (λ e. rw e (sym (le-leb x m (ltb-false m x e))))
