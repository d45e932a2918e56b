-- Bounds of shares, of what flows back and of scores, for sums in 64 bits. Assumes nothing.
use Prim.Native.Nat.{ℕ, suc, ◌+◌, ◌-◌, ◌*◌, ◌/◌, ◌<◌, ◌≤◌}
use mathlib.Core.Path.{◌≡◌, refl, sym, ap, ap₂}
use mathlib.Core.Logic.{◌≢◌}
use mathlib.Core.Bool.{Bool, true, false, cond, ◌||◌}
use native.Mathlib.Nat.{le_trans, le_of_eq, min-le_right, mul-sub, mul_comm, mul_left_comm, mul-le-mul_left, mul-le-mul_right, div-le_of_le-mul, div-mul-le_self, div-le_self}
use native.Mathlib.Decide.{ℕ_discrete}
use native.Mathlib.Omega.{arith}
use lib.Dec.{eqb, ltb}
use borrow.Author.Tests.{eq-eqb, ne_eqb}
use Rattle.routes.specs.Route.{Costs, mark, sum_to, least_time, ways, through, portion, share, score, capped_ways, open_share}
use Rattle.routes.specs.Equations.{tight, quotient}
use Rattle.routes.proofs.Sums.{sum_to-le, sum_to-bound, sum_to-bound-but, sum_to-add, sum_to-pick, sum_to-mul-left, cond-true, cond-false, flow-zero}
use Rattle.routes.proofs.Tight.{tight-true}
use Rattle.routes.proofs.Flows.{Flows}
use Rattle.routes.proofs.Shared.{paths, flow_back, through-le, through-paths, flowing}

-- a quotient times its divisor is at most the scale, and so is the quotient
quotient_le : (limit scale w : ℕ) → quotient limit scale w * w ≤ scale
quotient_le limit scale w = go (ltb limit w)
  where
    go : (b : Bool) → cond b 0 (scale / w) * w ≤ scale
    go true = omega arith
    go false = div-mul-le_self scale w

quotient-small : (limit scale w : ℕ) → quotient limit scale w ≤ scale
quotient-small limit scale w = go (ltb limit w)
  where
    go : (b : Bool) → cond b 0 (scale / w) ≤ scale
    go true = omega arith
    go false = div-le_self scale w

-- room for k more among n is a bound of n - k
but : (x n k c : ℕ) → x + k * c ≤ n * c → x ≤ (n - k) * c
but x n k c h = omega (arith, mul-sub c n k, mul_comm c (n - k), mul_comm c n, mul_comm c k)

module _ (W : Costs) (n s : ℕ) (F : Flows W n s) where
  module _ (limit scale : ℕ) where
    -- ways times what flows back is at most n times the scale
    pub ways-back-le : (v : ℕ) → v < n → ways W n s v * flow_back W n s limit scale v ≤ n * scale
    unfolding flow_back
    ways-back-le v l =
        le_trans
        (le_of_eq (sym (sum_to-mul-left n (ways W n s v) (λ t. quotient limit scale (ways W n s t) * paths W n s v t))))
        (sum_to-bound n scale (λ t k. each t k))
      where
        each : (t : ℕ) → t < n → ways W n s v * (quotient limit scale (ways W n s t) * paths W n s v t) ≤ scale
        each t k =
            let q : ℕ = quotient limit scale (ways W n s t) in
            omega (
              arith,
              mul_left_comm (ways W n s v) q (paths W n s v t),
              ap (λ x. q * x) (through-paths W n s F v t l k),
              mul-le-mul_left q (through-le W n s F v t l k),
              quotient_le limit scale (ways W n s t),
            )

    pub capped-back-le : (v : ℕ) → v < n → capped_ways W n s limit v * flow_back W n s limit scale v ≤ n * scale
    capped-back-le v l =
        le_trans (mul-le-mul_right _ (min-le_right (suc limit) (ways W n s v))) (ways-back-le v l)

    -- and so is what flows back alone
    pub back-le : (v : ℕ) → v < n → flow_back W n s limit scale v ≤ n * scale
    back-le v l = elim (ℕ_discrete (least_time W n s v) mark) [
      | yes p ↦
          omega (
            arith,
            flowing W n s F limit scale v l,
            flow-zero
                n
                (λ w. tight W (least_time W n s) v w)
                (flow_back W n s limit scale)
                (λ w k e. absurd ((tight-true W (least_time W n s) v w e).reached p)),
            quotient-small limit scale (capped_ways W n s limit v),
            mul-le-mul_right {m = 1} {n = n} scale (omega arith),
          )
      | no p ↦
          le_trans
          (omega (arith, mul-le-mul_right (flow_back W n s limit scale v) (F.reached v l p)))
          (ways-back-le v l)
    ]

  module _ (scale : ℕ) where
    -- a pair adds at most the scale
    pub portion-le : (v t : ℕ) → v < n → t < n → portion W n s scale v t ≤ scale
    unfolding portion
    portion-le v t k l = go (eqb t s || eqb t v)
      where
        go : (b : Bool) → cond b 0 (scale * through W n s v t / ways W n s t) ≤ scale
        go true = omega arith
        go false =
            div-le_of_le-mul
            (ways W n s t)
            (omega (arith, mul-le-mul_left scale (through-le W n s F v t k l), mul_comm scale (ways W n s t)))

    -- a share is at most n - 2 times the scale
    pub share-le : (v : ℕ) → s < n → v < n → share W n s scale v ≤ (n - 2) * scale
    unfolding share portion
    share-le v k l = elim (ℕ_discrete v s) [
      | yes p ↦ omega (arith, cond-true 0 (sum_to n (portion W n s scale v)) (eq-eqb v s p))
      | no p ↦
          omega (
            arith,
            cond-false 0 (sum_to n (portion W n s scale v)) (ne_eqb v s p),
            but
                (sum_to n (portion W n s scale v))
                n
                2
                scale
                (omega (
                  arith,
                  sum_to-bound-but
                      n
                      scale
                      v
                      (λ t. portion W n s scale v t + cond (eqb t s) scale 0)
                      l
                      (last p)
                      (λ t m. each t m (eqb t s) refl),
                  sum_to-add n (portion W n s scale v) (λ t. cond (eqb t s) scale 0),
                  sum_to-pick n s (λ t. scale) k,
                )),
          )
    ]
      where
        end : (t : ℕ) → (eqb t s || eqb t v) ≡ true → portion W n s scale v t ≡ 0
        end t e = cond-true 0 (scale * through W n s v t / ways W n s t) e

        last : v ≢ s → portion W n s scale v v + cond (eqb v s) scale 0 ≡ 0
        last p = omega (arith, cond-false scale 0 (ne_eqb v s p), end v (ap₂ ◌||◌ (ne_eqb v s p) (eq-eqb v v refl)))

        each : (t : ℕ) → t < n → (b : Bool) → eqb t s ≡ b → portion W n s scale v t + cond b scale 0 ≤ scale
        each t m true e = omega (arith, end t (ap (λ b. b || eqb t v) e))
        each t m false e = omega (arith, portion-le v t l m)

-- a source has no share
share-own : (W : Costs) (n scale v : ℕ) → share W n v scale v ≡ 0
unfolding share
share-own W n scale v = cond-true 0 (sum_to n (portion W n v scale v)) (eq-eqb v v refl)

-- crowded pairs take nothing but away
pub open-le : (W : Costs) (n s limit scale v : ℕ) → open_share W n s limit scale v ≤ share W n s scale v
unfolding open_share share
open-le W n s limit scale v = go (eqb v s)
  where
    closed : (b : Bool) (x : ℕ) → cond b 0 x ≤ x
    closed true x = omega arith
    closed false x = omega arith

    go : (b : Bool) →
        cond b 0 (sum_to n (λ t. cond (ltb limit (ways W n s t)) 0 (portion W n s scale v t)))
        ≤ cond b 0 (sum_to n (portion W n s scale v))
    go true = omega arith
    go false = sum_to-le n (λ t l. closed (ltb limit (ways W n s t)) (portion W n s scale v t))

-- a score is at most (n - 1) (n - 2) times the scale, whatever the costs on routes from each source
pub score-le : (C : ℕ → Costs) (n limit scale v : ℕ) → v < n → ((s : ℕ) → s < n → Flows (C s) n s) →
    score C n limit scale v ≤ (n - 1) * ((n - 2) * scale)
unfolding score
score-le C n limit scale v l F =
    but
    (sum_to n (λ s. open_share (C s) n s limit scale v))
    n
    1
    ((n - 2) * scale)
    (omega (
      arith,
      sum_to-bound-but
          n
          ((n - 2) * scale)
          v
          (λ s. open_share (C s) n s limit scale v)
          l
          (omega (arith, open-le (C v) n v limit scale v, share-own (C v) n scale v))
          (λ s k. omega (arith, open-le (C s) n s limit scale v, share-le (C s) n s (F s k) scale v k l)),
    ))

-- in a hall of at most 64 stops a score is at most 63 × 62 times the scale
module _ (C : ℕ → Costs) (n limit scale v : ℕ) (small : n ≤ 64) (inside : v < n) where
  pub score-limit : ((s : ℕ) → s < n → Flows (C s) n s) → score C n limit scale v ≤ 3906 * scale
  score-limit F =
      omega (
        arith,
        score-le C n limit scale v inside F,
        mul-le-mul_right {m = n - 2} {n = 62} scale (omega arith),
        mul-le-mul_right {m = n - 1} {n = 63} ((n - 2) * scale) (omega arith),
      )
