-- Numbers that are written one by one. Assumes nothing.
use mathlib.Core.Path.{◌≡◌, refl, ◌∙◌}
use mathlib.Core.Bool.{Bool, true, false}
use mathlib.Core.List.{List}
use Prim.Native.Nat.{ℕ, ◌+◌, ◌<◌}
use native.Mathlib.Omega.{arith}
use lib.ListN.{length, get_or, set}
use lib.Dec.{eqb}
use lib.Seq.{get_or-set_other}
use Rattle.std.proofs.lemmas.Grind.{get_or-set_at}
use borrow.Author.Tests.{eqb-true, eqb-false}

-- one more is the number that f gives for its place
pub one-more : (f : ℕ → ℕ) (l : List ℕ) (i x : ℕ) → i < length l → x ≡ f i → ((k : ℕ) → k < i → get_or l k 0 ≡ f k) →
    (k : ℕ) → k < i + 1 → get_or (set l i x) k 0 ≡ f k
one-more f l i x room e before k h = go (eqb k i) refl
  where
    go : (b : Bool) → eqb k i ≡ b → get_or (set l i x) k 0 ≡ f k
    go true s = rw (eqb-true k i s) (get_or-set_at l i i x 0 refl room ∙ e)
    go false s = get_or-set_other l i k x 0 (eqb-false k i s) ∙ before k (omega (arith, eqb-false k i s))
