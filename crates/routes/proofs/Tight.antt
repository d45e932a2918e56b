-- Tight links: what one says of times, induction along them, and sums along them. Assumes nothing.
use Prim.Native.Nat.{ℕ, zero, suc, ◌+◌, ◌-◌, ◌<◌, ◌≤◌}
use mathlib.Core.Path.{◌≡◌, sym, ◌∙◌, ap, ap₂}
use mathlib.Core.Logic.{◌≢◌}
use mathlib.Core.Bool.{true, cond, not, ◌&&◌, and-eq-true_iff}
use native.Mathlib.Decide.{ℕ_discrete}
use native.Mathlib.Omega.{arith}
use lib.Dec.{eqb}
use borrow.Author.Tests.{ltb-true, eqb-true, eqb-false, eq-eqb, ne_eqb, not-true}
use Rattle.routes.specs.Route.{Costs, mark, link}
use Rattle.routes.specs.Equations.{tight, inflow, outflow}
use Rattle.routes.proofs.Sums.{sum_to-cong, cond-cong, flow-zero}

-- what a tight link from u to t says of the times
pub record Tight (W : Costs) (d : ℕ → ℕ) (u t : ℕ) : Type 0 where
  pub linked : link W u t ≡ true
  pub reached : d u ≢ mark
  pub exact : d u + W u t ≡ d t
  pub rises : d u < d t

pub tight-true : (W : Costs) (d : ℕ → ℕ) (u t : ℕ) → tight W d u t ≡ true → Tight W d u t
tight-true W d u t h =
    let (l, rest) = (and-eq-true_iff (link W u t) _).0 h in
    let (r, e) = (and-eq-true_iff (not (eqb (d u) mark)) _).0 rest in
    let sum : d u + W u t ≡ d t = eqb-true (d u + W u t) (d t) e in
    record {
      linked = l;
      reached = eqb-false (d u) mark (not-true _ r);
      exact = sum;
      rises = omega (arith, ltb-true 0 (W u t) l);
    }

-- and what makes a link tight
pub true-tight : (W : Costs) (d : ℕ → ℕ) (u t : ℕ) → link W u t ≡ true → d u ≢ mark → d u + W u t ≡ d t →
    tight W d u t ≡ true
true-tight W d u t l r e =
    (and-eq-true_iff (link W u t) _).1
    (l, (and-eq-true_iff (not (eqb (d u) mark)) _).1 (ap not (ne_eqb (d u) mark r), eq-eqb (d u + W u t) (d t) e))

-- induction from low times to high ones
pub up-ind : {P : ℕ → Type 0} (d : ℕ → ℕ) (n : ℕ) →
    ((t : ℕ) → t < n → ((u : ℕ) → u < n → d u < d t → P u) → P t) → (t : ℕ) → t < n → P t
up-ind {P} d n step t l = fuel (suc (d t)) t l (omega arith)
  where
    fuel : (k t : ℕ) → t < n → d t < k → P t
    fuel zero t l h = absurd (omega arith)
    fuel (suc k) t l h = step t l (λ u m r. fuel k u m (omega arith))

-- induction from high times to low ones, all at most m
pub down-ind : {P : ℕ → Type 0} (d : ℕ → ℕ) (n m : ℕ) → ((t : ℕ) → t < n → d t ≤ m) →
    ((v : ℕ) → v < n → ((w : ℕ) → w < n → d v < d w → P w) → P v) → (v : ℕ) → v < n → P v
down-ind d n m top step =
    up-ind (λ t. m - d t) n (λ v l h. step v l (λ w k r. h w k (omega (arith, top v l, top w k))))

-- two rows of times, each with its costs, have the same tight links
abbrev pub SameTight : Costs → (ℕ → ℕ) → Costs → (ℕ → ℕ) → ℕ → Type 0
SameTight W d W' d' n = (u t : ℕ) → u < n → t < n → tight W d u t ≡ tight W' d' u t

-- times that agree have the same tight links
pub same-tight : (W : Costs) (d d' : ℕ → ℕ) (n : ℕ) → ((t : ℕ) → t < n → d t ≡ d' t) → SameTight W d W d' n
same-tight W d d' n e u t k l =
    ap₂ (λ x y. link W u t && (not (eqb x mark) && eqb (x + W u t) y)) (e u k) (e t l)

-- a sum along tight links is zero where the function is zero at their other ends
module _ (W : Costs) (n : ℕ) (d f : ℕ → ℕ) where
  pub inflow-zero : (t : ℕ) → ((u : ℕ) → u < n → d u < d t → f u ≡ 0) → inflow W n d f t ≡ 0
  inflow-zero t h = flow-zero n (λ u. tight W d u t) f (λ u l e. h u l (tight-true W d u t e).rises)

  pub outflow-zero : (v : ℕ) → ((w : ℕ) → w < n → d v < d w → f w ≡ 0) → outflow W n d f v ≡ 0
  outflow-zero v h = flow-zero n (λ w. tight W d v w) f (λ w l e. h w l (tight-true W d v w e).rises)

module _ (W : Costs) (d : ℕ → ℕ) (W' : Costs) (d' : ℕ → ℕ) (n : ℕ) (same : SameTight W d W' d' n) where
  -- a sum over the same tight links, of functions that agree at lower times, is the same
  pub inflow-cong : (f g : ℕ → ℕ) (t : ℕ) → t < n → ((u : ℕ) → u < n → d u < d t → f u ≡ g u) →
      inflow W n d f t ≡ inflow W' n d' g t
  inflow-cong f g t l h =
      sum_to-cong
      n
      (λ u k. cond-cong (tight W d u t) (λ e. h u k (tight-true W d u t e).rises)
      ∙ ap (λ b. cond b (g u) 0) (same u t k l))

  pub outflow-cong : (f g : ℕ → ℕ) (v : ℕ) → v < n → ((w : ℕ) → w < n → d v < d w → f w ≡ g w) →
      outflow W n d f v ≡ outflow W' n d' g v
  outflow-cong f g v l h =
      sum_to-cong
      n
      (λ w k. cond-cong (tight W d v w) (λ e. h w k (tight-true W d v w e).rises)
      ∙ ap (λ b. cond b (g w) 0) (same v w l k))

  -- an equation in the inflow, with the value at s, has one solution
  pub inflow-unique : (F : ℕ → ℕ → ℕ) (s : ℕ) (f g : ℕ → ℕ) → f s ≡ g s →
      ((t : ℕ) → t < n → t ≢ s → f t ≡ F t (inflow W n d f t)) →
      ((t : ℕ) → t < n → t ≢ s → g t ≡ F t (inflow W' n d' g t)) → (t : ℕ) → t < n → f t ≡ g t
  inflow-unique F s f g e hf hg =
      up-ind
      d
      n
      (λ t l ih. elim (ℕ_discrete t s) [
        | yes p ↦ ap f p ∙ e ∙ sym (ap g p)
        | no p ↦ hf t l p ∙ ap (F t) (inflow-cong f g t l ih) ∙ sym (hg t l p)
      ])

  -- an equation in the outflow has one solution
  pub outflow-unique : (F : ℕ → ℕ → ℕ) (f g : ℕ → ℕ) (m : ℕ) → ((t : ℕ) → t < n → d t ≤ m) →
      ((v : ℕ) → v < n → f v ≡ F v (outflow W n d f v)) →
      ((v : ℕ) → v < n → g v ≡ F v (outflow W' n d' g v)) → (v : ℕ) → v < n → f v ≡ g v
  outflow-unique F f g m top hf hg =
      down-ind d n m top (λ v l ih. hf v l ∙ ap (F v) (outflow-cong f g v l ih) ∙ sym (hg v l))
