-- The ways through a stop are a product: those to it times those on from it, where the times add up, and none elsewhere.
-- Assumes nothing.
use Prim.Native.Nat.{ℕ, ◌+◌, ◌*◌, ◌<◌, ◌≤◌}
use mathlib.Core.Path.{◌≡◌, refl, sym, ◌∙◌, ap}
use mathlib.Core.Logic.{◌≢◌}
use mathlib.Core.Bool.{Bool, true, false, cond, not, ◌&&◌, and-eq-true_iff}
use native.Mathlib.Nat.{mul-one}
use native.Mathlib.Decide.{ℕ_discrete}
use native.Mathlib.Omega.{arith}
use lib.Dec.{eqb}
use borrow.Author.Tests.{eq-eqb, ne_eqb, eqb-true, eqb-false, not-true}
use Rattle.routes.specs.Route.{Costs, mark, least_time, ways, through}
use Rattle.routes.specs.Equations.{Within, tight, inflow}
use Rattle.routes.proofs.Booleans.{bool_iff}
use Rattle.routes.proofs.Sums.{is_false, sum_to-cong, sum_to-zero, cond-true, cond-false, flow-mul}
use Rattle.routes.proofs.Tight.{Tight, tight-true, true-tight, inflow-unique}
use Rattle.routes.proofs.Times.{next-reached, ways-reached}
use Rattle.routes.proofs.Flows.{Flows, flows}
use Rattle.routes.proofs.Triangle.{triangle}

-- the times add up at v: a quickest route from s to v and one from v to t make one from s to t
abbrev pub between : Costs → ℕ → ℕ → ℕ → ℕ → Bool
between W n s v t =
    not (eqb (least_time W n s v) mark)
    && (not (eqb (least_time W n v t) mark) && eqb (least_time W n s v + least_time W n v t) (least_time W n s t))

-- the same as three facts, and both ways between the two
record Between (W : Costs) (n s v t : ℕ) : Type 0 where
  to : least_time W n s v ≢ mark
  on : least_time W n v t ≢ mark
  exact : least_time W n s v + least_time W n v t ≡ least_time W n s t

between-true : (W : Costs) (n s v t : ℕ) → between W n s v t ≡ true → Between W n s v t
between-true W n s v t h =
    let (x, rest) = (and-eq-true_iff (not (eqb (least_time W n s v) mark)) _).0 h in
    let (y, z) = (and-eq-true_iff (not (eqb (least_time W n v t) mark)) _).0 rest in
    record {
      to = eqb-false (least_time W n s v) mark (not-true _ x);
      on = eqb-false (least_time W n v t) mark (not-true _ y);
      exact = eqb-true (least_time W n s v + least_time W n v t) (least_time W n s t) z;
    }

true-between : (W : Costs) (n s v t : ℕ) → Between W n s v t → between W n s v t ≡ true
true-between W n s v t B =
    (and-eq-true_iff (not (eqb (least_time W n s v) mark)) _).1 (
      ap not (ne_eqb (least_time W n s v) mark B.to),
      (and-eq-true_iff (not (eqb (least_time W n v t) mark)) _).1 (
        ap not (ne_eqb (least_time W n v t) mark B.on),
        eq-eqb (least_time W n s v + least_time W n v t) (least_time W n s t) B.exact,
      ),
    )

module _
    (W : Costs)
    (n s v c : ℕ)
    (inside : s < n)
    (stop : v < n)
    (within : Within W n c)
    (small : n * c < mark) where
  abbrev d : ℕ → ℕ
  d = least_time W n s

  abbrev e : ℕ → ℕ
  e = least_time W n v

  abbrev F : Flows W n s
  F = flows W n s c inside within small

  abbrev G : Flows W n v
  G = flows W n v c stop within small

  -- after v, where the times add up, the tight links of the routes from s are those of the routes from v
  onward : (a t : ℕ) → a < n → t < n → (tight W d a t && between W n s v a) ≡ (between W n s v t && tight W e a t)
  onward a t k l =
      bool_iff (tight W d a t && between W n s v a) (between W n s v t && tight W e a t) f g
    where
      f : (tight W d a t && between W n s v a) ≡ true → (between W n s v t && tight W e a t) ≡ true
      f h =
          let (x, y) = (and-eq-true_iff (tight W d a t) _).0 h in
          let T : Tight W d a t = tight-true W d a t x in
          let B : Between W n s v a = between-true W n s v a y in
          let p : e t ≤ e a + W a t = G.times.relaxed a t k l T.linked B.on in
          let q : d t ≤ d v + e t = triangle W n s v d e F.times G.times t l in
          (and-eq-true_iff (between W n s v t) _).1 (
            true-between W n s v t (record { to = B.to; on = omega (arith, next-reached W n v c stop within small a t k l B.on); exact = omega arith }),
            true-tight W e a t T.linked B.on (omega arith),
          )

      g : (between W n s v t && tight W e a t) ≡ true → (tight W d a t && between W n s v a) ≡ true
      g h =
          let (x, y) = (and-eq-true_iff (between W n s v t) _).0 h in
          let B : Between W n s v t = between-true W n s v t x in
          let T : Tight W e a t = tight-true W e a t y in
          let p : d a ≤ d v + e a = triangle W n s v d e F.times G.times a k in
          let r : d a ≢ mark = omega (arith, F.times.bounded t l) in
          let q : d t ≤ d a + W a t = F.times.relaxed a t k l T.linked r in
          (and-eq-true_iff (tight W d a t) _).1 (
            true-tight W d a t T.linked r (omega arith),
            true-between W n s v a (record { to = B.to; on = T.reached; exact = omega arith }),
          )

  -- the product, where the times add up: it starts at v and flows as the ways through v do
  abbrev joined : ℕ → ℕ
  joined t = cond (between W n s v t) (ways W n s v * ways W n v t) 0

  -- a choice in a choice is one by both tests
  cond-and : (p q : Bool) (x : ℕ) → cond p (cond q x 0) 0 ≡ cond (p && q) x 0
  cond-and true q x = refl
  cond-and false q x = refl

  own : through W n s v v ≡ joined v
  own = F.own v stop ∙ elim (ℕ_discrete (d v) mark) [
    | yes p ↦
        let none : ¬ (0 < ways W n s v) = λ h. (ways-reached W n s c inside within small v stop).0 h p in
        let unreached : between W n s v v ≡ false = is_false (between W n s v v) (λ h. (between-true W n s v v h).to p) in
        omega (arith, cond-false (ways W n s v * ways W n v v) 0 unreached)
    | no p ↦
        sym
        (cond-true (ways W n s v * ways W n v v) 0
        (true-between W n s v v (record { to = p; on = omega (arith, G.times.source); exact = omega (arith, G.times.source) }))
        ∙ ap (λ x. ways W n s v * x) G.source
        ∙ mul-one (ways W n s v))
  ]

  passed : (t : ℕ) → t < n → t ≢ v → joined t ≡ inflow W n d joined t
  passed t l h = go (between W n s v t) refl
    where
      each : (b : Bool) → between W n s v t ≡ b → (a : ℕ) → a < n →
          cond (tight W d a t) (joined a) 0 ≡ cond (b && tight W e a t) (ways W n s v * ways W n v a) 0
      each b j a k =
          cond-and (tight W d a t) (between W n s v a) (ways W n s v * ways W n v a)
          ∙ ap (λ x. cond x (ways W n s v * ways W n v a) 0) (onward a t k l ∙ ap (λ x. x && tight W e a t) j)

      go : (b : Bool) → between W n s v t ≡ b → cond b (ways W n s v * ways W n v t) 0 ≡ inflow W n d joined t
      go true j =
          ap (λ x. ways W n s v * x) (G.summed t l h)
          ∙ sym (flow-mul n (ways W n s v) (λ a. tight W e a t) (ways W n v))
          ∙ sym (sum_to-cong n (each true j))
      go false j = sym (sum_to-zero n (each false j))

  -- the ways through v
  pub product : (t : ℕ) → t < n → through W n s v t ≡ cond (between W n s v t) (ways W n s v * ways W n v t) 0
  product =
      inflow-unique
      W
      d
      W
      d
      n
      (λ a t k l. refl)
      (λ t x. x)
      v
      (through W n s v)
      joined
      own
      (λ t. F.passed v t stop)
      passed
