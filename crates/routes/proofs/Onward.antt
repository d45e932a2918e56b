-- The walk over quickest routes step by step, as code takes it: at its end, on to the links of a stop, and on to the next link.
-- Assumes nothing.
use Prim.Native.Nat.{ℕ, zero, suc, ◌+◌, ◌-◌, ◌<◌, ◌≤◌}
use native.Mathlib.Nat.{zero-add, add-zero, sub-zero, le_refl}
use native.Mathlib.Omega.{arith}
use mathlib.Core.Path.{◌≡◌, refl, sym, ◌∙◌, ap, fun_ext}
use mathlib.Core.Logic.{◌≢◌}
use mathlib.Core.Bool.{Bool, true, false, cond}
use mathlib.Core.List.{List, [], ◌∷◌, ◌++◌, append_assoc, append-nil}
use lib.Dec.{eqb, ltb}
use borrow.Author.Tests.{eqb-true, eq-eqb, ne_eqb, lt-ltb, le-ltb, ltb-true}
use Rattle.routes.specs.Route.{Costs, sum_to, join_to}
use Rattle.routes.specs.Walk.{earlier_than, leads, walk, walk_from}
use Rattle.routes.proofs.Sums.{sum_to-add, sum_to-le, sum_to-bound, sum_to-pick}
use Rattle.routes.proofs.Counting.{test-le}

-- a joined list by its first part
join_to-first : {A : Type 0} (k : ℕ) (g : ℕ → List A) → join_to (suc k) g ≡ g 0 ++ join_to k (λ i. g (suc i))
unfolding join_to
join_to-first zero g = sym (append-nil (g 0))
join_to-first (suc k) g = ap (λ l. l ++ g (suc k)) (join_to-first k g) ∙ append_assoc (g 0) (join_to k (λ i. g (suc i))) (g (suc k))

module _ (W : Costs) (n : ℕ) (near far : ℕ → ℕ) (t : ℕ) where
  -- at the last stop the route is whole
  pub walk_end : (m : ℕ) (p : List ℕ) (u : ℕ) → u ≡ t → walk W n near far t (suc m) p u ≡ (p ++ (u ∷ [])) ∷ []
  unfolding walk
  walk_end m p u e = rw (eq-eqb u t e)

  -- elsewhere the walk takes the links from the first one on
  pub walk-on : (m : ℕ) (p : List ℕ) (u : ℕ) → u ≢ t → walk W n near far t (suc m) p u ≡ walk_from W n near far t m (p ++ (u ∷ [])) u 0
  unfolding walk walk_from
  walk-on m p u e =
      rw (ne_eqb u t e, sub-zero) (ap (join_to n) (fun_ext (λ y. ap (λ i. cond (leads W n near far t u i) (walk W n near far t m (p ++ (u ∷ [])) i) []) (sym (zero-add y)))))

  module _ (m : ℕ) (p : List ℕ) (u : ℕ) where
    -- the part of the link to y
    abbrev part : ℕ → List (List ℕ)
    part y = cond (leads W n near far t u y) (walk W n near far t m p y) []

    one_more : (from : ℕ) → from < n → walk_from W n near far t m p u from ≡ part from ++ walk_from W n near far t m p u (suc from)
    unfolding walk_from
    one_more from l =
        let e : n - from ≡ suc (n - suc from) = omega arith in
        let shifted : join_to (n - suc from) (λ i. part (from + suc i)) ≡ join_to (n - suc from) (λ i. part (suc from + i)) =
        ap (join_to (n - suc from)) (fun_ext (λ i. ap part (next i))) in
        ap (λ k. join_to k (λ i. part (from + i))) e
        ∙ join_to-first (n - suc from) (λ i. part (from + i))
        ∙ ap (λ l. part (from + 0) ++ l) shifted
        ∙ ap (λ x. part x ++ join_to (n - suc from) (λ i. part (suc from + i))) (add-zero from)
      where
        next : (i : ℕ) → from + suc i ≡ suc from + i
        next i = omega arith

    -- no link is left
    pub walk-past : walk_from W n near far t m p u n ≡ []
    unfolding walk_from join_to
    walk-past = let e : n - n ≡ 0 = omega arith in rw e

    -- links that do not lead on are passed over
    pub walk-skip : (k from : ℕ) → k + from ≤ n → ((i : ℕ) → from ≤ i → i < k + from → leads W n near far t u i ≡ false) →
        walk_from W n near far t m p u from ≡ walk_from W n near far t m p u (k + from)
    walk-skip zero from l h = rw zero-add
    walk-skip (suc k) from l h =
        let z : suc k + from ≡ k + suc from = omega arith in
        one_more from (omega arith)
        ∙ rw (h from (le_refl from) (omega arith), z) (walk-skip k (suc from) (omega arith) (λ i a b. h i (omega arith) (omega arith)))

    -- the next one that leads on is taken
    pub walk-next : (y : ℕ) → y < n → leads W n near far t u y ≡ true →
        walk_from W n near far t m p u y ≡ walk W n near far t m p y ++ walk_from W n near far t m p u (suc y)
    walk-next y l e = one_more y l ∙ rw e

-- the stops with a lower number than u: fewer than n, and more for a higher number
module _ (n : ℕ) (d : ℕ → ℕ) where
  pub earlier-few : (u : ℕ) → u < n → earlier_than n d u < n
  earlier-few u l = omega (
    arith,
    sum_to-add n (λ x. cond (ltb (d x) (d u)) 1 0) (λ x. cond (eqb x u) 1 0),
    sum_to-pick n u (λ x. 1) l,
    sum_to-bound n 1 {f = λ x. cond (ltb (d x) (d u)) 1 0 + cond (eqb x u) 1 0} (λ x k. one x (eqb x u) refl),
  )
    where
      one : (x : ℕ) (b : Bool) → eqb x u ≡ b → cond (ltb (d x) (d u)) 1 0 + cond b 1 0 ≤ 1
      one x true e = rw (eqb-true x u e, le-ltb (d u) (d u) (le_refl (d u))) (le_refl 1)
      one x false e = omega (arith, test-le (ltb (d x) (d u)))

  pub earlier_more : (u y : ℕ) → u < n → d u < d y → earlier_than n d u < earlier_than n d y
  earlier_more u y l h = omega (
    arith,
    sum_to-add n (λ x. cond (ltb (d x) (d u)) 1 0) (λ x. cond (eqb x u) 1 0),
    sum_to-pick n u (λ x. 1) l,
    sum_to-le n {f = λ x. cond (ltb (d x) (d u)) 1 0 + cond (eqb x u) 1 0} {g = λ x. cond (ltb (d x) (d y)) 1 0} (λ x k. one x (eqb x u) refl (ltb (d x) (d u)) refl),
  )
    where
      one : (x : ℕ) (b : Bool) → eqb x u ≡ b → (a : Bool) → ltb (d x) (d u) ≡ a → cond a 1 0 + cond b 1 0 ≤ cond (ltb (d x) (d y)) 1 0
      one x true e true f = absurd (omega (arith, ltb-true (d x) (d u) f, ap d (eqb-true x u e)))
      one x true e false f = rw (eqb-true x u e, lt-ltb (d u) (d y) h) (le_refl 1)
      one x false e true f = let z : d x < d y = omega (arith, ltb-true (d x) (d u) f) in rw (lt-ltb (d x) (d y) z) (le_refl 1)
      one x false e false f = omega arith
