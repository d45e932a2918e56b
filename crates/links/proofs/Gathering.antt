-- The loop that gathers the links of one stop: what holds between two turns. Assumes nothing.
use Prim.Native.Nat.{ℕ, ◌+◌, ◌^◌, ◌<◌, ◌≤◌}
use mathlib.Core.Path.{◌≡◌, sym, ◌∙◌, ap, ap₂}
use mathlib.Core.Bool.{Bool, true, false, cond, ◌&&◌, ◌||◌, and-true, and-false, or-false}
use mathlib.Core.List.{List}
use native.Mathlib.Nat.{le_antisymm}
use native.Mathlib.Omega.{arith}
use lib.Bits.{bit_or}
use lib.Dec.{eqb, ltb}
use lib.ListN.{get_or}
use borrow.Author.Tests.{eqb-true, eqb-false, ltb-true, le-ltb, lt-ltb}
use Rattle.routes.specs.Route.{has}
use Rattle.routes.proofs.Booleans.{bool_iff}
use Rattle.routes.proofs.Bits.{split, has-none, has-or, has-pow}
use Rattle.links.specs.Masks.{Mask, Singles}
use Rattle.links.specs.Picked.{Picked}

-- a loop that gathers the stops with p: those below i are in the set
pub record Gathering (n i : ℕ) (p : ℕ → Bool) (a : ℕ) : Type 0 where
  pub within : i ≤ n
  pub bits : (t : ℕ) → has a t ≡ (ltb t i && p t)

module _ (n : ℕ) (p : ℕ → Bool) where
  pub gathering-starts : Gathering n 0 p 0
  gathering-starts = record { within = omega arith; bits = λ t. has-none t ∙ sym (ap (λ b. b && p t) (le-ltb t 0 (omega arith))) }

  -- the set of i alone stands in a list
  pub gathering-goes : {i a x : ℕ} {singles : List ℕ} → n ≤ 64 → i < n → Singles singles → Gathering n i p a → Picked (p i) (get_or singles i 0) 0 x
      → Gathering n (i + 1) p (bit_or a x)
  gathering-goes {i} {a} {x} most l m g e = record {
    within = omega arith;
    bits = λ t. has-or a x t ∙ ap₂ ◌||◌ (g.bits t) (ap (λ x. has x t) (e.is ∙ ap (λ y. cond (p i) y 0) (m.alone i (omega arith))) ∙ one (p i) t) ∙ more t;
  }
    where
      one : (b : Bool) (t : ℕ) → has (cond b (2 ^ i) 0) t ≡ (b && eqb t i)
      one true t = has-pow i t
      one false t = has-none t

      more : (t : ℕ) → ((ltb t i && p t) || (p i && eqb t i)) ≡ (ltb t (i + 1) && p t)
      more t =
          split (eqb t i)
          (λ h. let here = eqb-true t i h in rw (h, le-ltb t i (omega arith), lt-ltb t (i + 1) (omega arith), and-true (p i)) (ap p (sym here)))
          (λ h. let other = eqb-false t i h in rw (h, and-false (p i), or-false) (ap (λ b. b && p t) (bool_iff (ltb t i) (ltb t (i + 1))
          (λ k. lt-ltb t (i + 1) (omega (arith, ltb-true t i k)))
          (λ k. lt-ltb t i (omega (arith, ltb-true t (i + 1) k))))))

-- a stop has the stops gathered below n, and no stop has none
module _ (n u : ℕ) (p : ℕ → ℕ → Bool) where
  pub mask-none : n ≤ u → Mask n p u 0
  mask-none l t = has-none t ∙ sym (ap (λ b. b && (ltb t n && p u t)) (le-ltb u n l))

  pub mask-ends : {i a : ℕ} → u < n → n ≤ i → Gathering n i (p u) a → Mask n p u a
  mask-ends l g h t = h.bits t ∙ ap (λ k. ltb t k && p u t) (le_antisymm h.within g) ∙ sym (ap (λ b. b && (ltb t n && p u t)) (lt-ltb u n l))
