-- The loop that stores a mask for every stop: what holds between two turns. Assumes nothing.
use Prim.Native.Nat.{ℕ, ◌+◌, ◌<◌, ◌≤◌}
use mathlib.Core.Path.{◌≡◌, ◌∙◌, ap}
use mathlib.Core.Bool.{Bool}
use mathlib.Core.List.{List}
use native.Mathlib.Numerals.{add-one}
use native.Mathlib.Omega.{arith}
use lib.Dec.{ltb}
use lib.ListN.{length, get_or, set, length-set, get_or-eq_default}
use lib.Seq.{get_or-set_same, get_or-set_other}
use borrow.Author.Tests.{ltb-true, ltb-false}
use Rattle.routes.specs.Route.{has}
use Rattle.routes.proofs.Sums.{below_suc}
use Rattle.routes.proofs.Bits.{split}
use Rattle.links.proofs.Gathering.{mask-none}
use Rattle.links.specs.Masks.{Mask}

-- a loop that stores masks: those below i stand
pub record Masking (n i : ℕ) (p : ℕ → ℕ → Bool) (out : List ℕ) : Type 0 where
  pub long : length out ≡ 64
  pub masks : (u : ℕ) → u < i → Mask n p u (get_or out u 0)

module _ (n : ℕ) (p : ℕ → ℕ → Bool) where
  pub masking-goes : (a : ℕ) {i : ℕ} {out : List ℕ} → i < 64 → Masking n i p out → Mask n p i a → Masking n (i + 1) p (set out i a)
  masking-goes a {i} {out} l m h = record {
    long = length-set out i a ∙ m.long;
    masks = rw add-one (below_suc {P = λ u. Mask n p u (get_or (set out i a) u 0)} i
        (λ u k t. ap (λ x. has x t) (get_or-set_other out i u a 0 (omega arith)) ∙ m.masks u k t)
        (λ t. ap (λ x. has x t) (get_or-set_same out i a 0 (omega (arith, m.long))) ∙ h t));
  }

  pub masking-ends : {i : ℕ} {out : List ℕ} → n ≤ 64 → 64 ≤ i → Masking n i p out → (u : ℕ) → Mask n p u (get_or out u 0)
  masking-ends {i} {out} l g m u = split (ltb u 64)
      (λ h. m.masks u (omega (arith, ltb-true u 64 h)))
      (λ h. let far = ltb-false u 64 h in rw (get_or-eq_default out 0 {n = u} (omega (arith, m.long))) (mask-none n u p (omega arith)))
