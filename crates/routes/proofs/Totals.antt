-- How many ways a row has in all. Taken from near to far, a stop has no more ways than all nearer ones together, so at most
-- 1, 1, 2, 4, 8, 16, and from then on 23, one more than the largest limit of a task: 1,366 in all, which is below 63 × 22. Assumes nothing.
use Prim.Native.Nat.{ℕ, zero, suc, ◌+◌, ◌-◌, ◌*◌, ◌<◌, ◌≤◌, min}
use mathlib.Core.Path.{◌≡◌, refl, ◌∙◌, ap}
use mathlib.Core.Logic.{◌≢◌}
use mathlib.Core.Bool.{Bool, true, false, cond}
use native.Mathlib.Nat.{mul-le-mul_left, suc-mul, mul_comm, zero-add, suc-add, sub-add_cancel, add_comm}
use native.Mathlib.Omega.{arith}
use lib.Dec.{eqb, ltb}
use borrow.Author.Tests.{eqb-true, eqb-false, ltb-true, ltb-false, lt-ltb, le-ltb, eq-eqb}
use Rattle.routes.specs.Route.{Costs, mark, sum_to}
use Rattle.routes.specs.Equations.{Counts, tight}
use Rattle.routes.proofs.Sums.{flow, flow-add, flow-le, flow-mul, flow-pick, flow-zero, sum_to-add, sum_to-cong, sum_to-le, sum_to-bound-but, cond-true, cond-false}
use Rattle.routes.proofs.Tight.{tight-true}

-- the most ways that k stops beside the source have in all: each at most those of the source and of the stops before it, and 23
most : ℕ → ℕ
most zero = 0
most (suc k) = most k + min 23 (suc (most k))

-- k more stops, each with at most the ways of the source and of the first m
most-more : (k m : ℕ) → most m + k * min 23 (suc (most m)) ≤ most (k + m)
unfolding most
most-more zero m = omega (arith, ap most (zero-add m))
most-more (suc k) m = omega (arith, most-more k m, suc-mul k (min 23 (suc (most m))), ap most (suc-add k m))

-- 63 stops
most-all : (k : ℕ) → k ≤ 63 → most k ≤ 1365
unfolding most
most-all k l = let e : most 63 ≡ 1365 = refl in omega (arith, most-more (63 - k) k, ap most (sub-add_cancel l))

module _ (W : Costs) (n s limit : ℕ) (d σ : ℕ → ℕ) (inside : s < n) (few : limit ≤ 22) (C : Counts W n s limit d σ) where
  -- the ways of a stop beside the source, and how many such stops there are
  others : ℕ → ℕ
  others t = cond (eqb t s) 0 (σ t)

  each : ℕ → ℕ
  each t = cond (eqb t s) 0 1

  -- what the stops nearer than x come to
  nearer : ℕ → (ℕ → ℕ) → ℕ
  nearer x f = flow n (λ u. ltb (d u) x) f

  -- those of time x join them
  nearer-more : (x : ℕ) (f : ℕ → ℕ) → nearer (suc x) f ≡ nearer x f + flow n (λ u. eqb (d u) x) f
  unfolding nearer
  nearer-more x f =
      sum_to-cong n (λ u l. part (d u) (f u))
      ∙ sum_to-add n (λ u. cond (ltb (d u) x) (f u) 0) (λ u. cond (eqb (d u) x) (f u) 0)
    where
      part : (a y : ℕ) → cond (ltb a (suc x)) y 0 ≡ cond (ltb a x) y 0 + cond (eqb a x) y 0
      part a y = go (ltb a x) refl (eqb a x) refl
        where
          go : (p : Bool) → ltb a x ≡ p → (q : Bool) → eqb a x ≡ q → cond (ltb a (suc x)) y 0 ≡ cond p y 0 + cond q y 0
          go true p true q = absurd (omega (arith, ltb-true a x p, eqb-true a x q))
          go true p false q = omega (arith, cond-true y 0 (lt-ltb a (suc x) (omega (arith, ltb-true a x p))))
          go false p true q = omega (arith, cond-true y 0 (lt-ltb a (suc x) (omega (arith, eqb-true a x q))))
          go false p false q = cond-false y 0 (le-ltb a (suc x) (omega (arith, ltb-false a x p, eqb-false a x q)))

  -- ways over any stops are at most those of the source, one, and of the others
  one_more : (p : ℕ → Bool) (f : ℕ → ℕ) → ((u : ℕ) → u < n → f u ≤ cond (p u) (σ u) 0) → sum_to n f ≤ suc (flow n p others)
  unfolding others
  one_more p f h =
      omega (
        arith,
        sum_to-le n h,
        flow-le n p σ (λ u. others u + cond (eqb u s) 1 0) (λ u _ _. parted u (eqb u s) refl),
        flow-add n p others (λ u. cond (eqb u s) 1 0),
        flow-pick n s p inside,
        one (p s),
      )
    where
      one : (b : Bool) → cond b 1 0 ≤ 1
      one true = omega arith
      one false = omega arith

      parted : (u : ℕ) (b : Bool) → eqb u s ≡ b → σ u ≤ cond b 0 (σ u) + cond b 1 0
      parted u true e = omega (arith, ap σ (eqb-true u s e), C.source)
      parted u false e = omega arith

  -- a stop beside the source has no more ways than the source and all nearer stops
  ways-from : (t : ℕ) → t < n → t ≢ s → σ t ≤ min 23 (suc (nearer (d t) others))
  unfolding nearer
  ways-from t l h = omega (arith, C.summed t l h, one_more (λ u. ltb (d u) (d t)) (λ u. cond (tight W d u t) (σ u) 0) (λ u _. near u (tight W d u t) refl))
    where
      near : (u : ℕ) (b : Bool) → tight W d u t ≡ b → cond b (σ u) 0 ≤ cond (ltb (d u) (d t)) (σ u) 0
      near u true e = omega (arith, cond-true (σ u) 0 (lt-ltb (d u) (d t) (tight-true W d u t e).rises))
      near u false e = omega arith

  -- those of time x have together at most that, each
  level : (x : ℕ) → flow n (λ u. eqb (d u) x) others ≤ min 23 (suc (nearer x others)) * flow n (λ u. eqb (d u) x) each
  unfolding others each
  level x =
      let c : ℕ = min 23 (suc (nearer x others)) in
      omega (
        arith,
        flow-le n (λ u. eqb (d u) x) others (λ u. c * each u) (λ u l e. at u l (eqb-true (d u) x e) (eqb u s) refl),
        flow-mul n c (λ u. eqb (d u) x) each,
      )
    where
      at : (u : ℕ) → u < n → d u ≡ x → (b : Bool) → eqb u s ≡ b → cond b 0 (σ u) ≤ min 23 (suc (nearer x others)) * cond b 0 1
      at u l e true g = omega arith
      at u l e false g = omega (arith, ways-from u l (eqb-false u s g), ap (λ y. nearer y others) e)

  -- so the number of nearer stops bounds their ways
  nearer-most : (x : ℕ) → nearer x others ≤ most (nearer x each)
  unfolding nearer
  nearer-most zero = omega (arith, flow-zero n (λ u. ltb (d u) 0) others (λ u l e. absurd (omega (arith, ltb-true (d u) 0 e))))
  nearer-most (suc x) =
      let now : nearer x others ≤ most (nearer x each) = nearer-most x in
      let k : ℕ = flow n (λ u. eqb (d u) x) each in
      let grown : min 23 (suc (nearer x others)) ≤ min 23 (suc (most (nearer x each))) = omega (arith, now) in
      omega (
        arith,
        level x,
        nearer-more x others,
        mul_comm k (min 23 (suc (nearer x others))),
        mul-le-mul_left k grown,
        most-more k (nearer x each),
        ap most (nearer-more x each ∙ add_comm (nearer x each) k),
      )

  -- all ways of a row
  pub ways-in-all : n ≤ 64 → ((t : ℕ) → t < n → d t ≤ mark) → sum_to n σ ≤ 1366
  unfolding nearer each
  ways-in-all m b =
      omega (
        arith,
        one_more (λ u. ltb (d u) (suc mark)) σ (λ u l. omega (arith, cond-true (σ u) 0 (lt-ltb (d u) (suc mark) (omega (arith, b u l))))),
        nearer-most (suc mark),
        most-all (nearer (suc mark) each) (omega (arith, stops)),
      )
    where
      stops : nearer (suc mark) each + 1 ≤ n * 1
      stops =
          sum_to-bound-but n 1 s (λ u. cond (ltb (d u) (suc mark)) (each u) 0) inside
          (none (ltb (d s) (suc mark)) (cond-true 0 1 (eq-eqb s s refl)))
          (λ u l. least (ltb (d u) (suc mark)) (eqb u s))
        where
          none : {x : ℕ} (b : Bool) → x ≡ 0 → cond b x 0 ≡ 0
          none true e = e
          none false e = refl

          least : (a b : Bool) → cond a (cond b 0 1) 0 ≤ 1
          least true true = omega arith
          least true false = omega arith
          least false b = omega arith
