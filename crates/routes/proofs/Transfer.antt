-- A change of costs at links that are tight neither before nor after leaves a source's row as it is. Assumes nothing.
use Prim.Native.Nat.{ℕ, ◌+◌, ◌*◌, ◌/◌, ◌<◌}
use mathlib.Core.Path.{◌≡◌, sym, ◌∙◌, ap, ap₂}
use mathlib.Core.Logic.{◌≢◌}
use mathlib.Core.Bool.{true, false, cond, not, ◌&&◌, ◌||◌}
use native.Mathlib.Decide.{ℕ_discrete}
use native.Mathlib.Omega.{arith}
use lib.Dec.{eqb, ltb}
use Rattle.routes.specs.Route.{Costs, mark, link, least_time, ways, through, portion, share, open_share}
use Rattle.routes.specs.Equations.{Times, tight}
use Rattle.routes.proofs.Sums.{is_false, sum_to-cong}
use Rattle.routes.proofs.Tight.{Tight, tight-true, SameTight, same-tight, inflow-unique}
use Rattle.routes.proofs.Unique.{times-unique}
use Rattle.routes.proofs.Flows.{Flows}

-- the rows of s by W and by W' are the same
pub record SameRow (W W' : Costs) (n s : ℕ) : Type 0 where
  pub times : (t : ℕ) → t < n → least_time W n s t ≡ least_time W' n s t
  pub counts : (t : ℕ) → t < n → ways W n s t ≡ ways W' n s t
  pub shares : (scale v : ℕ) → v < n → share W n s scale v ≡ share W' n s scale v
  pub open_shares : (limit scale v : ℕ) → v < n → open_share W n s limit scale v ≡ open_share W' n s limit scale v

-- a changed link that is not tight by the times d, and by which W' offers no way that is as quick
abbrev pub Loose : Costs → Costs → (ℕ → ℕ) → ℕ → ℕ → Type 0
Loose W W' d u t = (tight W d u t ≡ false) × (link W' u t ≡ true → d u ≢ mark → d t < d u + W' u t)

-- every link whose cost W' changes is loose
abbrev pub Harmless : Costs → Costs → ℕ → (ℕ → ℕ) → Type 0
Harmless W W' n d = (u t : ℕ) → u < n → t < n → W u t ≢ W' u t → Loose W W' d u t

module _ (W W' : Costs) (n : ℕ) (d : ℕ → ℕ) (harmless : Harmless W W' n d) where
  -- the same links are tight
  pub harmless-tight : SameTight W d W' d n
  harmless-tight u t k l =
      elim (ℕ_discrete (W u t) (W' u t)) [
        | yes p ↦ ap (λ c. ltb 0 c && (not (eqb (d u) mark) && eqb (d u + c) (d t))) p
        | no p ↦
            let (loose, slow) = harmless u t k l p in
            loose ∙ sym (is_false (tight W' d u t) (λ e. strict (tight-true W' d u t e) slow))
      ]
    where
      strict : Tight W' d u t → (link W' u t ≡ true → d u ≢ mark → d t < d u + W' u t) → ⊥
      strict f h = omega (arith, h f.linked f.reached)

  -- the times keep E1
  pub harmless-times : (s : ℕ) → Times W n s d → Times W' n s d
  harmless-times s T = record {
    source = T.source;
    bounded = T.bounded;
    relaxed =
        λ u t k l e r. elim (ℕ_discrete (W u t) (W' u t)) [
          | yes p ↦ omega (arith, T.relaxed u t k l (ap (ltb 0) p ∙ e) r)
          | no p ↦ omega (arith, (harmless u t k l p).1 e r)
        ];
    supported = λ t l h k. let (u, m, e) = T.supported t l h k in (u, m, sym (harmless-tight u t m l) ∙ e);
  }

-- rows with the same times and the same tight links are the same
module _
    (W W' : Costs)
    (n s : ℕ)
    (F : Flows W n s)
    (F' : Flows W' n s)
    (same : SameTight W (least_time W n s) W' (least_time W' n s) n)
  where
    same-ways : (t : ℕ) → t < n → ways W n s t ≡ ways W' n s t
    same-ways =
        inflow-unique
        W
        (least_time W n s)
        W'
        (least_time W' n s)
        n
        same
        (λ t x. x)
        s
        (ways W n s)
        (ways W' n s)
        (F.source ∙ sym F'.source)
        F.summed
        F'.summed

    same-through : (v t : ℕ) → v < n → t < n → through W n s v t ≡ through W' n s v t
    same-through v t k l =
        inflow-unique
        W
        (least_time W n s)
        W'
        (least_time W' n s)
        n
        same
        (λ t x. x)
        v
        (through W n s v)
        (through W' n s v)
        (F.own v k ∙ same-ways v k ∙ sym (F'.own v k))
        (λ t. F.passed v t k)
        (λ t. F'.passed v t k)
        t
        l

    same-portion : (scale v t : ℕ) → v < n → t < n → portion W n s scale v t ≡ portion W' n s scale v t
    unfolding portion
    same-portion scale v t k l =
        ap₂ (λ x y. cond (eqb t s || eqb t v) 0 (scale * x / y)) (same-through v t k l) (same-ways t l)

    pub same_row : ((t : ℕ) → t < n → least_time W n s t ≡ least_time W' n s t) → SameRow W W' n s
    unfolding share open_share
    same_row times = record {
      times = times;
      counts = same-ways;
      shares = λ scale v l. ap (λ x. cond (eqb v s) 0 x) (sum_to-cong n (λ t k. same-portion scale v t l k));
      open_shares =
          λ limit scale v l. ap
          (λ x. cond (eqb v s) 0 x)
          (sum_to-cong
          n
          (λ t k. ap₂ (λ x y. cond (ltb limit x) 0 y) (same-ways t k) (same-portion scale v t l k)));
    }

-- transfer: a harmless change leaves the row
pub transfer : (W W' : Costs) (n s : ℕ) → Flows W n s → Flows W' n s → Harmless W W' n (least_time W n s) →
    SameRow W W' n s
transfer W W' n s F F' h =
    same_row
    W
    W'
    n
    s
    F
    F'
    (λ u t k l. harmless-tight W W' n (least_time W n s) h u t k l
    ∙ same-tight W' (least_time W n s) (least_time W' n s) n times u t k l)
    times
  where
    times : (t : ℕ) → t < n → least_time W n s t ≡ least_time W' n s t
    times =
        times-unique
        W'
        n
        s
        (least_time W n s)
        (least_time W' n s)
        (harmless-times W W' n (least_time W n s) h s F.times)
        F'.times
