-- E3 for the definitions: shares by listing are the shares of the equations, for a scale that each number of ways divides.
-- Assumes nothing.
use Prim.Native.Nat.{ℕ, zero, suc, ◌+◌, ◌*◌, ◌/◌, ◌<◌, ◌≤◌, ◌∣◌, min}
use mathlib.Core.Path.{◌≡◌, refl, sym, ◌∙◌, ap, ap₂}
use mathlib.Core.Logic.{◌≢◌}
use mathlib.Core.Bool.{Bool, true, false, cond, ◌||◌}
use native.Mathlib.Nat.{mul-zero, zero-mul, zero-add, mul-add, mul_assoc, mul_comm, mul-one, mul-suc, div-zero, mul-div_assoc, min-eq_right}
use native.Mathlib.Decide.{ℕ_discrete, dec_le}
use native.Mathlib.Omega.{arith}
use lib.Dec.{eqb, ltb}
use borrow.Author.Tests.{eq-eqb, ne_eqb, lt-ltb, le-ltb, ltb-true, ltb-false}
use Rattle.routes.specs.Route.{Costs, mark, sum_to, least_time, ways, through, portion, share, capped_ways, open_share}
use Rattle.routes.specs.Equations.{Shares, Within, tight, inflow, outflow, quotient}
use Rattle.routes.proofs.Sums.{sum_to-cong, sum_to-zero, sum_to-add, sum_to-pick, sum_to-mul-left, cond-true, cond-false, flow-le, flow-mul, flow-sum}
use Rattle.routes.proofs.Tight.{tight-true, up-ind, inflow-zero, inflow-unique}
use Rattle.routes.proofs.Times.{times}
use Rattle.routes.proofs.Ways.{counts}
use Rattle.routes.proofs.Unique.{Row, row-unique}
use Rattle.routes.proofs.Flows.{Flows, flows}
use Rattle.routes.proofs.Paths.{itself, itself-comm, other, paths_up_to, paths-last, paths-first, paths-own, outflow-none}

-- the number of paths of tight links from v to t, on quickest routes from s
abbrev pub paths : Costs → ℕ → ℕ → ℕ → ℕ → ℕ
paths W n s v t = paths_up_to W n (least_time W n s) mark v t

-- what flows back to v (ψ): the sum over the stops t of the quotient of t times the paths to t
unfoldable pub flow_back : Costs → ℕ → ℕ → ℕ → ℕ → ℕ → ℕ
flow_back W n s limit scale v = sum_to n (λ t. quotient limit scale (ways W n s t) * paths W n s v t)

-- counted up to one more than the limit, ways have the same quotient
quotient-capped : (limit scale w : ℕ) → quotient limit scale (min (suc limit) w) ≡ quotient limit scale w
quotient-capped limit scale w = go (ltb limit w) refl
  where
    go : (b : Bool) → ltb limit w ≡ b → quotient limit scale (min (suc limit) w) ≡ quotient limit scale w
    go true e =
        let h : limit < w = ltb-true limit w e in
        cond-true 0 _ (lt-ltb limit _ (omega arith)) ∙ sym (cond-true 0 _ e)
    go false e =
        let h : w ≤ limit = ltb-false limit w e in
        ap (quotient limit scale) (min-eq_right (omega arith))

-- where ways divide the scale, the part of x of them is x whole quotients
part-exact : (scale x w : ℕ) → (0 < w → w ∣ scale) → scale * x / w ≡ x * (scale / w)
part-exact scale x zero h = div-zero _ ∙ sym (ap (λ y. x * y) (div-zero scale) ∙ mul-zero x)
part-exact scale x (suc w) h = ap (λ y. y / suc w) (mul_comm scale x) ∙ mul-div_assoc (suc w) x (h (omega arith))

-- a number times 1 or 0
unit : (b : Bool) (c : ℕ) → c * cond b 1 0 ≡ cond b c 0
unit true c = mul-one c
unit false c = mul-zero c

module _ (W : Costs) (n s : ℕ) (F : Flows W n s) where
  abbrev D : ℕ → ℕ
  D = least_time W n s

  -- the paths from the next stops of v to t
  abbrev onward : ℕ → ℕ → ℕ
  onward v t = outflow W n D (λ w. paths W n s w t) v

  -- ways through v to t are the ways to v times the paths on to t
  pub through-paths : (v t : ℕ) → v < n → t < n → through W n s v t ≡ ways W n s v * paths W n s v t
  through-paths v t k l =
      inflow-unique
      W
      D
      W
      D
      n
      (λ u t k l. refl)
      (λ t x. x)
      v
      (through W n s v)
      (λ t. ways W n s v * paths W n s v t)
      (F.own v k ∙ sym (ap (λ x. ways W n s v * x) (paths-own W n D mark v k (F.times.bounded v k)) ∙ mul-one _))
      (λ t l h. F.passed v t k l h)
      (λ t l h.
      ap
      (λ x. ways W n s v * x)
      (paths-last W n D mark v t l (F.times.bounded t l)
      ∙ ap (λ x. x + inflow W n D (paths W n s v) t) (other v t (λ e. h (sym e)))
      ∙ zero-add _)
      ∙ sym (flow-mul n (ways W n s v) (λ u. tight W D u t) (paths W n s v)))
      t
      l

  -- ways through a stop are at most all ways
  pub through-le : (v t : ℕ) → v < n → t < n → through W n s v t ≤ ways W n s t
  through-le v t k l = up-ind D n step t l
    where
      step : (t : ℕ) → t < n → ((u : ℕ) → u < n → D u < D t → through W n s v u ≤ ways W n s u) →
          through W n s v t ≤ ways W n s t
      step t l ih =
          elim (ℕ_discrete t v) [
            | yes p ↦ omega (arith, ap (through W n s v) p, F.own v k, ap (ways W n s) p)
            | no p ↦ elim (ℕ_discrete t s) [
              | yes q ↦
                  let none : inflow W n D (through W n s v) t ≡ 0 =
                  inflow-zero W n D (through W n s v) t (λ u h r. absurd (omega (arith, ap D q, F.times.source))) in
                  omega (arith, F.passed v t k l p)
              | no q ↦
                  omega (
                    arith,
                    F.passed v t k l p,
                    F.summed t l q,
                    flow-le
                        n
                        (λ u. tight W D u t)
                        (through W n s v)
                        (ways W n s)
                        (λ u h e. ih u h (tight-true W D u t e).rises),
                  )
            ]
          ]

  module _ (limit scale : ℕ) where
    abbrev Q : ℕ → ℕ
    Q t = quotient limit scale (ways W n s t)

    abbrev ψ : ℕ → ℕ
    ψ = flow_back W n s limit scale

    -- to a crowded stop nothing flows back
    pub crowded-back : (v : ℕ) → v < n → limit < ways W n s v → ψ v ≡ 0
    unfolding flow_back
    crowded-back v l h = sum_to-zero n (λ t k. go t k (ltb limit (ways W n s t)) refl (paths W n s v t) refl)
      where
        go : (t : ℕ) → t < n → (b : Bool) → ltb limit (ways W n s t) ≡ b → (p : ℕ) → paths W n s v t ≡ p → Q t * p ≡ 0
        go t k true e p f = ap (λ x. x * p) (cond-true 0 _ e) ∙ zero-mul p
        go t k false e zero f = mul-zero (Q t)
        go t k false e (suc p) f =
            absurd
            (omega (
              arith,
              ltb-false limit (ways W n s t) e,
              through-le v t l k,
              through-paths v t l k,
              ap (λ x. ways W n s v * x) f,
              mul-suc (ways W n s v) p,
            ))

    -- what flows back to the next stops, by the stops that it comes from
    outflow-back : (v : ℕ) → sum_to n (λ t. Q t * onward v t) ≡ outflow W n D ψ v
    unfolding flow_back
    outflow-back v =
        sum_to-cong n (λ t l. sym (flow-mul n (Q t) (λ w. tight W D v w) (λ w. paths W n s w t)))
        ∙ flow-sum n n (λ w. tight W D v w) (λ w t. Q t * paths W n s w t)

    -- what flows back is the own quotient and what flows back to the next stops
    pub flowing : (v : ℕ) → v < n → ψ v ≡ quotient limit scale (capped_ways W n s limit v) + outflow W n D ψ v
    unfolding flow_back
    flowing v l =
        sum_to-cong n each
        ∙ sum_to-add n (λ t. cond (eqb t v) (Q t) 0) (λ t. Q t * onward v t)
        ∙ ap₂ ◌+◌ (sum_to-pick n v Q l ∙ sym (quotient-capped limit scale (ways W n s v))) (outflow-back v)
      where
        each : (t : ℕ) → t < n → Q t * paths W n s v t ≡ cond (eqb t v) (Q t) 0 + Q t * onward v t
        each t k =
            ap (λ x. Q t * x) (paths-first W n D mark v t l k (F.times.bounded t k))
            ∙ mul-add (Q t) (itself v t) (onward v t)
            ∙ ap (λ x. x + Q t * onward v t) (ap (λ x. Q t * x) (itself-comm v t) ∙ unit (eqb t v) (Q t))

    -- the share by all ways and by ways up to the limit is the same
    capped-back : (v : ℕ) → v < n → ways W n s v * outflow W n D ψ v ≡ capped_ways W n s limit v * outflow W n D ψ v
    capped-back v l =
        elim (dec_le (ways W n s v) limit) [
          | yes h ↦ ap (λ x. x * outflow W n D ψ v) (omega arith)
          | no h ↦
              let none : outflow W n D ψ v ≡ 0 = omega (arith, flowing v l, crowded-back v l (omega arith)) in
              ap (λ x. ways W n s v * x) none
              ∙ mul-zero _
              ∙ sym (ap (λ x. capped_ways W n s limit v * x) none ∙ mul-zero _)
        ]

    module _ (div : (k : ℕ) → 0 < k → k ≤ limit → k ∣ scale) where
      -- what a pair within the limit adds to the share of v
      portion-onward : (v t : ℕ) → v < n → t < n → ways W n s t ≤ limit →
          portion W n s scale v t ≡ ways W n s v * (scale / ways W n s t * onward v t)
      unfolding portion
      portion-onward v t k l h =
          elim (ℕ_discrete t s) [
            | yes p ↦ end (ap (λ b. b || eqb t v) (eq-eqb t s p)) (omega (arith, ap D p, F.times.source))
            | no p ↦ elim (ℕ_discrete t v) [
              | yes q ↦ end (ap₂ ◌||◌ (ne_eqb t s p) (eq-eqb t v q)) (omega (arith, ap D q))
              | no q ↦
                  cond-false 0 _ (ap₂ ◌||◌ (ne_eqb t s p) (ne_eqb t v q))
                  ∙ part-exact scale (through W n s v t) (ways W n s t) (λ r. div _ r h)
                  ∙ ap (λ x. x * quot) (through-paths v t k l ∙ ap (λ x. ways W n s v * x) (beyond q))
                  ∙ mul_assoc (ways W n s v) (onward v t) quot
                  ∙ ap (λ x. ways W n s v * x) (mul_comm (onward v t) quot)
            ]
          ]
        where
          quot : ℕ
          quot = scale / ways W n s t

          beyond : t ≢ v → paths W n s v t ≡ onward v t
          beyond q =
              paths-first W n D mark v t k l (F.times.bounded t l)
              ∙ ap (λ x. x + onward v t) (other v t (λ e. q (sym e)))
              ∙ zero-add _

          end : (eqb t s || eqb t v) ≡ true → D t ≤ D v →
              cond (eqb t s || eqb t v) 0 (scale * through W n s v t / ways W n s t)
              ≡ ways W n s v * (scale / ways W n s t * onward v t)
          end e r =
              cond-true 0 _ e
              ∙ sym
              (ap (λ x. ways W n s v * (quot * x)) (outflow-none W n D mark v t l r)
              ∙ ap (λ x. ways W n s v * x) (mul-zero quot)
              ∙ mul-zero _)

      -- what a pair adds to the open share of v
      open-onward : (v t : ℕ) → v < n → t < n →
          cond (ltb limit (ways W n s t)) 0 (portion W n s scale v t) ≡ ways W n s v * (Q t * onward v t)
      open-onward v t k l = go (ltb limit (ways W n s t)) refl
        where
          go : (b : Bool) → ltb limit (ways W n s t) ≡ b →
              cond b 0 (portion W n s scale v t) ≡ ways W n s v * (cond b 0 (scale / ways W n s t) * onward v t)
          go true e = sym (ap (λ x. ways W n s v * x) (zero-mul _) ∙ mul-zero _)
          go false e = portion-onward v t k l (ltb-false limit _ e)

      -- E3 holds for open shares
      pub shares : Shares W n s limit scale D (capped_ways W n s limit) ψ (open_share W n s limit scale)
      unfolding open_share
      shares = record {
        flowing = flowing;
        source = cond-true 0 _ (eq-eqb s s refl);
        shared =
            λ v l h. cond-false 0 _ (ne_eqb v s h)
            ∙ sum_to-cong n (λ t k. open-onward v t l k)
            ∙ sum_to-mul-left n (ways W n s v) (λ t. Q t * onward v t)
            ∙ ap (λ x. ways W n s v * x) (outflow-back v)
            ∙ capped-back v l;
      }

-- where no pair exceeds the limit, the open share is the share, and all ways are counted
module _ (W : Costs) (n s limit : ℕ) (few : (t : ℕ) → t < n → ways W n s t ≤ limit) where
  pub open-share : (scale v : ℕ) → open_share W n s limit scale v ≡ share W n s scale v
  unfolding open_share share
  open-share scale v =
      ap (λ x. cond (eqb v s) 0 x) (sum_to-cong n (λ t l. cond-false 0 _ (le-ltb limit _ (few t l))))

  pub open-ways : (t : ℕ) → t < n → capped_ways W n s limit t ≡ ways W n s t
  open-ways t l = omega (arith, few t l)

module _
    (W : Costs)
    (n s c limit scale : ℕ)
    (inside : s < n)
    (within : Within W n c)
    (small : n * c < mark)
    (div : (k : ℕ) → 0 < k → k ≤ limit → k ∣ scale)
  where
    -- least times, ways up to the limit and open shares are a row
    pub row : Row W n s limit scale (least_time W n s) (capped_ways W n s limit) (open_share W n s limit scale)
    row = record {
      ψ = flow_back W n s limit scale;
      times = times W n s c inside within small;
      counts = counts W n s c inside within small limit;
      shares = shares W n s (flows W n s c inside within small) limit scale div;
    }

    -- so every row that meets the equations holds them
    pub row-right : (d σ δ : ℕ → ℕ) → Row W n s limit scale d σ δ → (t : ℕ) → t < n →
        (d t ≡ least_time W n s t) × (σ t ≡ capped_ways W n s limit t) × (δ t ≡ open_share W n s limit scale t)
    row-right d σ δ R =
        row-unique
        W
        n
        s
        limit
        scale
        d
        σ
        δ
        (least_time W n s)
        (capped_ways W n s limit)
        (open_share W n s limit scale)
        R
        row
