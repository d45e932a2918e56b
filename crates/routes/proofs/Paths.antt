-- The number of paths of tight links between two stops, by the last link and by the first. Assumes nothing.
use Prim.Native.Nat.{ℕ, zero, suc, ◌+◌, ◌<◌, ◌≤◌}
use mathlib.Core.Path.{◌≡◌, refl, sym, ◌∙◌, ap, ap₂}
use mathlib.Core.Logic.{◌≢◌}
use mathlib.Core.Bool.{Bool, true, false, cond}
use native.Mathlib.Omega.{arith}
use lib.Dec.{eqb}
use borrow.Author.Tests.{eq-eqb, ne_eqb, eqb-true, eqb-false}
use Rattle.routes.specs.Route.{Costs}
use Rattle.routes.specs.Equations.{tight, inflow, outflow}
use Rattle.routes.proofs.Sums.{sum_to-cong, flow-add, flow-swap, flow-pick, cond-true, cond-false}
use Rattle.routes.proofs.Tight.{inflow-zero, outflow-zero, inflow-cong}

-- 1 for a stop and itself
abbrev pub itself : ℕ → ℕ → ℕ
itself v t = cond (eqb v t) 1 0

-- 0 for two other stops, and it does not matter which comes first
pub other : (v t : ℕ) → v ≢ t → itself v t ≡ 0
other v t h = cond-false 1 0 (ne_eqb v t h)

pub itself-comm : (v t : ℕ) → itself v t ≡ itself t v
itself-comm v t = go (eqb t v) refl
  where
    go : (b : Bool) → eqb t v ≡ b → itself v t ≡ cond b 1 0
    go true e = cond-true 1 0 (eq-eqb v t (sym (eqb-true t v e)))
    go false e = other v t (λ p. eqb-false t v e (sym p))

module _ (W : Costs) (n : ℕ) (d : ℕ → ℕ) where
  -- the paths of at most k tight links from v to t, by the last link
  pub paths_up_to : ℕ → ℕ → ℕ → ℕ
  paths_up_to zero v t = itself v t
  paths_up_to (suc k) v t = itself v t + inflow W n d (paths_up_to k v) t

  -- a path of one link, by either end
  one_link-told : (v t : ℕ) → v < n → t < n → inflow W n d (itself v) t ≡ outflow W n d (λ w. itself w t) v
  one_link-told v t l m =
      sum_to-cong n (λ u h. ap (λ x. cond (tight W d u t) x 0) (itself-comm v u))
      ∙ flow-pick n v (λ u. tight W d u t) l
      ∙ sym (flow-pick n t (λ w. tight W d v w) m)

  -- the paths of one link more, by the first link
  first-link : (k v t : ℕ) → v < n → t < n → paths_up_to (suc k) v t ≡ itself v t + outflow W n d (λ w. paths_up_to k w t) v
  unfolding paths_up_to
  first-link zero v t l m = ap (λ x. itself v t + x) (one_link-told v t l m)
  first-link (suc k) v t l m =
      ap
      (λ x. itself v t + x)
      (sum_to-cong n (λ u h. ap (λ x. cond (tight W d u t) x 0) (first-link k v u l h))
      ∙ flow-add n (λ u. tight W d u t) _ _
      ∙ ap₂
      ◌+◌
      (one_link-told v t l m)
      (flow-swap n n (λ u. tight W d u t) (λ w. tight W d v w) (λ u w. paths_up_to k w u))
      ∙ sym (flow-add n (λ w. tight W d v w) _ _))

  -- no more than d t links lead to t
  long-enough : (k v t : ℕ) → t < n → d t ≤ k → paths_up_to (suc k) v t ≡ paths_up_to k v t
  unfolding paths_up_to
  long-enough zero v t l h = omega (arith, inflow-zero W n d (itself v) t (λ u k r. absurd (omega arith)))
  long-enough (suc k) v t l h =
      ap
      (λ x. itself v t + x)
      (inflow-cong
      W
      d
      W
      d
      n
      (λ u t k l. refl)
      (paths_up_to (suc k) v)
      (paths_up_to k v)
      t
      l
      (λ u m r. long-enough k v u m (omega arith)))

  -- stops of different times are different
  apart : (v t : ℕ) → d t < d v → v ≢ t
  apart v t h e = omega (arith, ap d e)

  -- no tight path leads to a lower time
  pub none-down : (k v t : ℕ) → t < n → d t < d v → paths_up_to k v t ≡ 0
  unfolding paths_up_to
  none-down zero v t l h = other v t (apart v t h)
  none-down (suc k) v t l h =
      omega (
        arith,
        other v t (apart v t h),
        inflow-zero W n d (paths_up_to k v) t (λ u m r. none-down k v u m (omega arith)),
      )

  -- paths by the last link, and by the first
  pub paths-last : (m v t : ℕ) → t < n → d t ≤ m → paths_up_to m v t ≡ itself v t + inflow W n d (paths_up_to m v) t
  unfolding paths_up_to
  paths-last m v t l h = sym (long-enough m v t l h)

  pub paths-first : (m v t : ℕ) → v < n → t < n → d t ≤ m → paths_up_to m v t ≡ itself v t + outflow W n d (λ w. paths_up_to m w t) v
  paths-first m v t k l h = sym (long-enough m v t l h) ∙ first-link m v t k l

  -- one path, of no links, leads from a stop to itself
  pub paths-own : (m v : ℕ) → v < n → d v ≤ m → paths_up_to m v v ≡ 1
  paths-own m v l h =
      omega (
        arith,
        paths-last m v v l h,
        cond-true {A = ℕ} 1 0 (eq-eqb v v refl),
        inflow-zero W n d (paths_up_to m v) v (λ u k r. none-down m v u k r),
      )

  -- no path leads back to t from the next stops of v, where t is v or before it
  pub outflow-none : (m v t : ℕ) → t < n → d t ≤ d v → outflow W n d (λ w. paths_up_to m w t) v ≡ 0
  outflow-none m v t l h = outflow-zero W n d (λ w. paths_up_to m w t) v (λ w k r. none-down m w t l (omega arith))
