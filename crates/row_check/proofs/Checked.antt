-- What the check tests of a row, over functions: a row passes exactly if it is the row of the definitions. Assumes nothing.
use Prim.Native.Nat.{ℕ, suc, ◌+◌, ◌*◌, ◌^◌, ◌<◌, ◌≤◌, ◌∣◌, min}
use mathlib.Core.Path.{◌≡◌, refl, sym, ◌∙◌, ap}
use mathlib.Core.Logic.{◌≢◌}
use mathlib.Core.Bool.{Bool, true, false, cond, ◌||◌}
use native.Mathlib.Nat.{le_trans, lt_of_le_of_lt, mul-le-mul_right, sub-le}
use native.Mathlib.Decide.{dec_le, ℕ_discrete}
use native.Mathlib.Omega.{arith}
use lib.Dec.{eqb}
use borrow.Author.Tests.{eqb-true, eqb-false, eq-eqb, ne_eqb, lt-ltb}
use Rattle.routes.specs.Route.{Costs, mark, link, least_time, ways, capped_ways, open_share}
use Rattle.routes.specs.Equations.{Within, Shares, tight, inflow, outflow, quotient}
use Rattle.routes.proofs.Booleans.{bool_iff}
use Rattle.routes.proofs.Sums.{cond-true, cond-false, member-le, sum_to-positive, flow-zero}
use Rattle.routes.proofs.Tight.{tight-true, outflow-cong}
use Rattle.routes.proofs.Times.{ways-reached}
use Rattle.routes.proofs.Flows.{Flows, flows}
use Rattle.routes.proofs.Unique.{Row}
use Rattle.routes.proofs.Shared.{flow_back, crowded-back, shares, row, row-right}
use Rattle.routes.proofs.Bounds.{open-le, share-le}
use Rattle.row_check.proofs.Handing.{handed-exact}
use Rattle.row_check.specs.Handed.{handed_back, handed_by}

-- a row passes
pub record Checked (W : Costs) (n s limit scale : ℕ) (d σ δ : ℕ → ℕ) : Type 0 where
  pub source : d s ≡ 0
  pub one : σ s ≡ 1
  pub none : δ s ≡ 0
  pub bounded : (t : ℕ) → t < n → d t ≤ mark
  pub little : (t : ℕ) → t < n → δ t < 2 ^ 40
  pub reached : (t : ℕ) → t < n → eqb (d t) mark ≡ eqb (σ t) 0
  pub relaxed : (u t : ℕ) → u < n → t < n → link W u t ≡ true → d u ≢ mark → d t ≤ d u + W u t
  pub summed : (t : ℕ) → t < n → t ≢ s → σ t ≡ min (suc limit) (inflow W n d σ t)
  pub shared : (v : ℕ) → v < n → v ≢ s → δ v ≡ σ v * outflow W n d (handed_by s limit scale σ δ) v

-- a row that passes meets the equations
module _ (W : Costs) (n s limit scale : ℕ) (d σ δ : ℕ → ℕ) (C : Checked W n s limit scale d σ δ) where
  abbrev P : ℕ → ℕ
  P = handed_by s limit scale σ δ

  -- no tight link leads to the source
  later : (v w : ℕ) → d v < d w → w ≢ s
  later v w h e = omega (arith, ap d e, C.source)

  -- a stop has at least the ways of each stop before it
  ways-grow : (u t : ℕ) → u < n → t < n → tight W d u t ≡ true → min (suc limit) (σ u) ≤ σ t
  ways-grow u t k l e =
      omega (
        arith,
        C.summed t l (later u t (tight-true W d u t e).rises),
        member-le n (λ x. cond (tight W d x t) (σ x) 0) u k,
        cond-true (σ u) 0 e,
      )

  -- nothing flows back to a stop without ways, and to a crowded one
  none-back : (v : ℕ) → v < n → σ v ≡ 0 → outflow W n d P v ≡ 0
  none-back v l z =
      let unreached = eqb-true (d v) mark (C.reached v l ∙ eq-eqb (σ v) 0 z) in
      flow-zero n (λ w. tight W d v w) P (λ w k e. absurd ((tight-true W d v w e).reached unreached))

  crowded-none : (v : ℕ) → v < n → limit < σ v → outflow W n d P v ≡ 0
  unfolding handed_back
  crowded-none v l h = flow-zero n (λ w. tight W d v w) P (λ w k e. zero (eqb w s) (eqb (σ w) 0) _ (lt-ltb limit (σ w) (omega (arith, ways-grow v w l k e))))
    where
      zero : {c : Bool} (a b : Bool) (x : ℕ) → c ≡ true → cond a 0 (cond (b || c) 0 x) ≡ 0
      zero true b x e = refl
      zero false true x e = refl
      zero false false x e = cond-true 0 x e

  ψ : ℕ → ℕ
  ψ v = quotient limit scale (σ v) + outflow W n d P v

  handed-is : (v : ℕ) → v < n → v ≢ s → P v ≡ ψ v
  unfolding ψ
  handed-is v l h =
      cond-false 0 _ (ne_eqb v s h)
      ∙ ap (handed_back limit scale (σ v)) (C.shared v l h)
      ∙ handed-exact limit scale (σ v) (outflow W n d P v) (none-back v l) (crowded-none v l)

  supported : (t : ℕ) → t < n → t ≢ s → d t ≢ mark → (u : ℕ) × (u < n) × (tight W d u t ≡ true)
  supported t l h r =
      let some = eqb-false (σ t) 0 (sym (C.reached t l) ∙ ne_eqb (d t) mark r) in
      let (u, k, p) = sum_to-positive n (λ u. cond (tight W d u t) (σ u) 0) (omega (arith, C.summed t l h)) in
      (u, k, passes (tight W d u t) (σ u) p)
    where
      passes : (b : Bool) (x : ℕ) → 0 < cond b x 0 → b ≡ true
      passes true x p = refl
      passes false x p = absurd (omega arith)

  checked-row : Row W n s limit scale d σ δ
  unfolding ψ
  checked-row = record {
    ψ = ψ;
    times = record { source = C.source; bounded = C.bounded; relaxed = C.relaxed; supported = supported };
    counts = record { source = C.one; summed = C.summed };
    shares = record {
      flowing = λ v l. ap (λ x. quotient limit scale (σ v) + x) (outflow-cong W d W d n (λ u t a b. refl) P ψ v l (λ w k r. handed-is w k (later v w r)));
      source = C.none;
      shared = λ v l h. C.shared v l h ∙ ap (λ x. σ v * x) (outflow-cong W d W d n (λ u t a b. refl) P ψ v l (λ w k r. handed-is w k (later v w r)));
    };
  }

module _ (W : Costs) (n s c limit scale : ℕ) (inside : s < n) (within : Within W n c) (small : n * c < mark) (div : (k : ℕ) → 0 < k → k ≤ limit → k ∣ scale) where
  -- a row that passes is the row
  pub checked-right : (d σ δ : ℕ → ℕ) → Checked W n s limit scale d σ δ → (t : ℕ) → t < n
      → (d t ≡ least_time W n s t) × (σ t ≡ capped_ways W n s limit t) × (δ t ≡ open_share W n s limit scale t)
  checked-right d σ δ C = row-right W n s c limit scale inside within small div d σ δ (checked-row W n s limit scale d σ δ C)

  -- and the row passes, where its shares are below the bound
  pub right-checked : n * scale < 2 ^ 40 → Checked W n s limit scale (least_time W n s) (capped_ways W n s limit) (open_share W n s limit scale)
  right-checked fine = record {
    source = R.times.source;
    one = R.counts.source;
    none = R.shares.source;
    bounded = R.times.bounded;
    little = λ t l.
        lt_of_le_of_lt
        (le_trans (open-le W n s limit scale t) (le_trans (share-le W n s F scale t inside l) (mul-le-mul_right scale (sub-le n 2))))
        fine;
    reached = λ t l.
        bool_iff
        (eqb (D t) mark)
        (eqb (σ t) 0)
        (λ e. eq-eqb (σ t) 0 (none t l (eqb-true (D t) mark e)))
        (λ e. eq-eqb (D t) mark (unreached t l (eqb-true (σ t) 0 e)));
    relaxed = R.times.relaxed;
    summed = R.counts.summed;
    shared = λ v l h.
        S.shared v l h
        ∙ ap
        (λ x. σ v * x)
        (outflow-cong W D W D n (λ u t a b. refl) (flow_back W n s limit scale) (handed_by s limit scale σ δ) v l
        (λ w k r. back w k (λ e. omega (arith, ap D e, R.times.source))));
  }
    where
      D : ℕ → ℕ
      D = least_time W n s

      σ : ℕ → ℕ
      σ = capped_ways W n s limit

      δ : ℕ → ℕ
      δ = open_share W n s limit scale

      R : Row W n s limit scale D σ δ
      R = row W n s c limit scale inside within small div

      F : Flows W n s
      F = flows W n s c inside within small

      S : Shares W n s limit scale D σ (flow_back W n s limit scale) δ
      S = shares W n s F limit scale div

      none : (t : ℕ) → t < n → D t ≡ mark → σ t ≡ 0
      none t l e =
          elim (dec_le (ways W n s t) 0) [
            | yes z ↦ omega arith
            | no z ↦ absurd ((ways-reached W n s c inside within small t l).0 (omega arith) e)
          ]

      unreached : (t : ℕ) → t < n → σ t ≡ 0 → D t ≡ mark
      unreached t l z =
          elim (ℕ_discrete (D t) mark) [
            | yes p ↦ p
            | no p ↦ absurd (omega (arith, (ways-reached W n s c inside within small t l).1 p))
          ]

      back : (v : ℕ) → v < n → v ≢ s → flow_back W n s limit scale v ≡ handed_by s limit scale σ δ v
      back v l h =
          S.flowing v l
          ∙ sym (handed-exact limit scale (σ v) (outflow W n D (flow_back W n s limit scale) v)
          (λ z. flow-zero n (λ w. tight W D v w) _ (λ w k e. absurd ((tight-true W D v w e).reached (unreached v l z))))
          (λ g. omega (arith, S.flowing v l, crowded-back W n s F limit scale v l (omega arith))))
          ∙ sym (ap (handed_back limit scale (σ v)) (S.shared v l h))
          ∙ sym (cond-false 0 _ (ne_eqb v s h))
