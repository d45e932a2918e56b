-- The listing `routes` holds exactly the routes of document 01, each once. Assumes nothing.
use Prim.Native.Nat.{ℕ, zero, suc, pred, ◌+◌, ◌*◌, ◌-◌, ◌<◌, ◌≤◌}
use native.Mathlib.Nat.{suc_inj, add-zero, suc-mul, mul-le-mul_right}
use native.Mathlib.Omega.{arith}
use mathlib.Core.Path.{◌≡◌, refl, sym, ◌∙◌, ap}
use mathlib.Core.Bool.{Bool, true, false, cond, not, ◌&&◌, ◌||◌, and-true, and-false, and_comm, and-eq-true_iff, false≢true}
use mathlib.Core.List.{List, [], ◌∷◌}
use lib.Dec.{eqb, ltb, eqb-suc-suc}
use lib.ListN.{length}
use borrow.Author.Tests.{eqb-true, eq-eqb, ne_eqb, ltb-true, lt-ltb, not-true}
use Rattle.routes.specs.Route.{Costs, link, time, sum_to, count, same, visits, extend, hops, routes}
use Rattle.routes.specs.Equations.{Within}
use Rattle.routes.proofs.Booleans.{bool_iff}
use Rattle.routes.proofs.Sums.{cond-false, sum_to-cong, sum_to-zero, sum_to-add, sum_to-bound, sum_to-pick}
use Rattle.routes.proofs.Lists.{same_true}
use Rattle.routes.proofs.Counting.{count-join, count-cond, count-extend, count-cong, count-when, count_none, cond-and, cond_same, test-true, test-le, sum_to-test}

-- all stops are different
unfoldable pub different : List ℕ → Bool
different [] = true
different (x ∷ r) = not (visits x r) && different r

-- all stops are below n
unfoldable pub below : ℕ → List ℕ → Bool
below n [] = true
below n (x ∷ r) = ltb x n && below n r

-- each stop has a link to the next one
unfoldable pub linked : Costs → List ℕ → Bool
linked W [] = true
linked W (t ∷ []) = true
linked W (t ∷ (u ∷ r)) = link W u t && linked W (u ∷ r)

-- the first stop, kept last, is s
unfoldable pub starts_at : ℕ → List ℕ → Bool
starts_at s [] = false
starts_at s (x ∷ []) = eqb x s
starts_at s (x ∷ (y ∷ r)) = starts_at s (y ∷ r)

-- the last stop, kept first, is t
unfoldable pub ends_at : ℕ → List ℕ → Bool
ends_at t [] = false
ends_at t (x ∷ r) = eqb x t

-- r is a route from s to t: different stops below n from s to t, each with a link to the next
unfoldable pub is_route : Costs → ℕ → ℕ → ℕ → List ℕ → Bool
is_route W n s t r = ends_at t r && (starts_at s r && (below n r && (different r && linked W r)))

-- each stop below n is counted once in the length
length-count : (n : ℕ) (r : List ℕ) → below n r ≡ true → length r ≡ sum_to n (λ x. count (eqb x) r)
unfolding below count
length-count n [] e = sym (sum_to-zero n (λ x l. refl))
length-count n (y ∷ r) e =
    let (a, b) = (and-eq-true_iff (ltb y n) (below n r)).0 e in
    omega (arith, length-count n r b, sum_to-add n (λ x. cond (eqb x y) 1 0) (λ x. count (eqb x) r), sum_to-pick n y (λ x. 1) (ltb-true y n a))

-- a list of different stops has each stop at most once
different-count : (x : ℕ) (r : List ℕ) → different r ≡ true → count (eqb x) r ≡ cond (visits x r) 1 0
unfolding different count visits
different-count x [] e = refl
different-count x (y ∷ r) e =
    let (a, b) = (and-eq-true_iff (not (visits y r)) (different r)).0 e in
    go (not-true (visits y r) a) (different-count x r b) (eqb x y) refl
  where
    go : visits y r ≡ false → count (eqb x) r ≡ cond (visits x r) 1 0
        → (b : Bool) → eqb x y ≡ b → cond b 1 0 + count (eqb x) r ≡ cond (b || visits x r) 1 0
    go v h true f = omega (arith, h ∙ cond-false {A = ℕ} {b = visits x r} 1 0 (rw (eqb-true x y f) v))
    go v h false f = omega arith

-- pigeonhole: there are at most n different stops below n
pub pigeonhole : (n : ℕ) (r : List ℕ) → below n r ≡ true → different r ≡ true → length r ≤ n
pigeonhole n r b d =
    omega (arith, length-count n r b, sum_to-bound n 1 {f = λ x. count (eqb x) r} (λ x l. rw (different-count x r d) (test-le (visits x r))))

module _ (W : Costs) (n s : ℕ) where
  -- a route of one stop
  route-one : (t x : ℕ) → is_route W n s t (x ∷ []) ≡ (eqb x t && (eqb x s && ltb x n))
  unfolding is_route ends_at starts_at below different linked visits
  route-one t x = simp and-true

  -- a route is led on by its last link
  pub route-cons : (t u : ℕ) (r : List ℕ)
      → is_route W n s t (t ∷ (u ∷ r)) ≡ (ltb t n && (link W u t && not (visits t (u ∷ r))) && is_route W n s u (u ∷ r))
  unfolding is_route ends_at starts_at below different linked
  route-cons t u r =
      rw (eq-eqb t t refl, eq-eqb u u refl)
      (go (ltb t n) (link W u t) (not (visits t (u ∷ r))) (starts_at s (u ∷ r)) (below n (u ∷ r)) (different (u ∷ r)) (linked W (u ∷ r)))
    where
      go : (a b c d e f g : Bool) → (d && (a && e && (c && f && (b && g)))) ≡ (a && (b && c) && (d && (e && (f && g))))
      go true true true d e f g = refl
      go true true false d e f g = simp and-false
      go true false c d e f g = simp and-false
      go false b c d e f g = simp and-false

  -- a route by its links: it starts at s, and each step takes a link to a stop that is not yet visited
  pub data Route : List ℕ → Type 0 where
    start : s < n → Route (s ∷ [])
    step : {t u : ℕ} {r : List ℕ} → t < n → link W u t ≡ true → visits t (u ∷ r) ≡ false → Route (u ∷ r) → Route (t ∷ (u ∷ r))

  -- the last stop of a route to t is t, and a list with another one is none
  route-ends : (t x : ℕ) (r : List ℕ) → is_route W n s t (x ∷ r) ≡ true → x ≡ t
  unfolding is_route ends_at
  route-ends t x r e = eqb-true x t ((and-eq-true_iff (eqb x t) _).0 e).0

  route-other : (t x : ℕ) (r : List ℕ) → eqb x t ≡ false → is_route W n s t (x ∷ r) ≡ false
  unfolding is_route ends_at
  route-other t x r e = rw e

  -- a list that passes the test is such a route to t, and each such route passes it
  pub route-of : (t : ℕ) (r : List ℕ) → is_route W n s t r ≡ true → (q : List ℕ) × (r ≡ t ∷ q) × Route (t ∷ q)
  unfolding is_route ends_at
  route-of t [] e = absurd (false≢true e)
  route-of t (x ∷ []) e =
      let (last, rest) = (and-eq-true_iff (eqb x t) _).0 (rw route-one at e) in
      let (first, inside) = (and-eq-true_iff (eqb x s) _).0 rest in
      let h : s ≡ t = sym (eqb-true x s first) ∙ eqb-true x t last in
      ([], ap {B = List ℕ} (λ x. x ∷ []) (eqb-true x t last), rw (← h) (start (rw (← eqb-true x s first) (ltb-true x n inside))))
  route-of t (x ∷ (u ∷ r)) e =
      let h : x ≡ t = route-ends t x (u ∷ r) e in
      let (new, old) = (and-eq-true_iff (ltb t n && (link W u t && not (visits t (u ∷ r)))) _).0 (sym (route-cons t u r) ∙ (rw h at e)) in
      let (inside, way) = (and-eq-true_iff (ltb t n) _).0 new in
      let (l, v) = (and-eq-true_iff (link W u t) _).0 way in
      let (q, f, R) = route-of u (u ∷ r) old in
      (u ∷ r, ap {B = List ℕ} (λ x. x ∷ (u ∷ r)) h, step (ltb-true t n inside) l (not-true _ v) (rw (← f) at R))

  pub is-route : {t : ℕ} {q : List ℕ} → Route (t ∷ q) → is_route W n s t (t ∷ q) ≡ true
  is-route (start l) = route-one s s ∙ rw (eq-eqb s s refl) (lt-ltb s n l)
  is-route (step {t} {u} {r} l k v R) = route-cons t u r ∙ rw (lt-ltb t n l, k, v) (is-route R)

  -- the last stop of a route is below n
  pub route-below : {t : ℕ} {q : List ℕ} → Route (t ∷ q) → t < n
  route-below (start l) = l
  route-below (step l k v R) = l

  -- what the routes of one link more count, by the last link
  pub count-hops : (p : List ℕ → Bool) (k t : ℕ)
      → count p (hops W n s (suc k) t) ≡ sum_to n (λ u. cond (link W u t) (count (λ r. not (visits t r) && p (t ∷ r)) (hops W n s k u)) 0)
  unfolding hops
  count-hops p k t =
      count-join p n (λ u. cond (link W u t) (extend t (hops W n s k u)) [])
      ∙ sum_to-cong n {f = λ u. count p (cond (link W u t) (extend t (hops W n s k u)) [])} (λ u l.
      count-cond p (link W u t) (extend t (hops W n s k u))
      ∙ ap (λ c. cond (link W u t) c 0) (count-extend p t (hops W n s k u)))

  -- the test of a route of no link
  none-test : (t : ℕ) → t < n → (r : List ℕ) → (eqb t s && same r (s ∷ [])) ≡ (is_route W n s t r && eqb (length r) 1)
  unfolding same is_route ends_at
  none-test t l [] = and-false (eqb t s)
  none-test t l (x ∷ []) = simp and-true (bool_iff (eqb t s && eqb x s) (is_route W n s t (x ∷ [])) f g)
    where
      f : (eqb t s && eqb x s) ≡ true → is_route W n s t (x ∷ []) ≡ true
      f e =
          let (a, b) = (and-eq-true_iff (eqb t s) _).0 e in
          rw (eqb-true t s a, eqb-true x s b) (is-route (start (rw (← eqb-true t s a) l)))

      g : is_route W n s t (x ∷ []) ≡ true → (eqb t s && eqb x s) ≡ true
      g e =
          let (a, b) = (and-eq-true_iff (eqb x t) _).0 (rw route-one at e) in
          let (c, d) = (and-eq-true_iff (eqb x s) _).0 b in
          (and-eq-true_iff (eqb t s) (eqb x s)).1 (rw (← eqb-true x t a) c, c)
  none-test t l (x ∷ (u ∷ q)) =
      rw (ne_eqb (suc (suc (length q))) 1 (omega arith)) (simp and-false)

  -- the test of a route of one link more: only the stop before the last can be u
  last-test : (k t x u : ℕ) (q : List ℕ) → t < n
      → (ltb u n && (link W u t && (eqb x t && not (visits t (u ∷ q)) && (is_route W n s u (u ∷ q) && eqb (suc (length q)) (suc k)))))
      ≡ (is_route W n s t (x ∷ (u ∷ q)) && eqb (suc (suc (length q))) (suc (suc k)))
  last-test k t x u q l = go (eqb x t) refl
    where
      shuffle : (a b c d e : Bool) → (d ≡ true → a ≡ true) → (a && (b && (c && (d && e)))) ≡ (b && c && d && e)
      shuffle a true true true e h = rw (h refl)
      shuffle a true true false e h = and-false a
      shuffle a true false d e h = and-false a
      shuffle a false c d e h = and-false a

      go : (b : Bool) → eqb x t ≡ b → (ltb u n && (link W u t && (b && not (visits t (u ∷ q)) && (is_route W n s u (u ∷ q) && eqb (suc (length q)) (suc k)))))
          ≡ (is_route W n s t (x ∷ (u ∷ q)) && eqb (suc (suc (length q))) (suc (suc k)))
      go true e = rw (eqb-true x t e, route-cons t u q, lt-ltb t n l, eqb-suc-suc (suc (length q)) (suc k))
          (shuffle (ltb u n) (link W u t) (not (visits t (u ∷ q))) (is_route W n s u (u ∷ q)) _ (λ h. let (_, _, R) = route-of u (u ∷ q) h in lt-ltb u n (route-below R)))
      go false e = rw (route-other t x (u ∷ q) e) (simp and-false)

  -- the listing of k links holds each route of k links once and nothing else
  pub hops-once : (k t : ℕ) → t < n → (r : List ℕ)
      → count (same r) (hops W n s k t) ≡ cond (is_route W n s t r && eqb (length r) (suc k)) 1 0
  unfolding hops count same is_route ends_at
  hops-once zero t l r =
      count-cond (same r) (eqb t s) ((s ∷ []) ∷ [])
      ∙ rw (add-zero, cond-and) (ap (λ b. cond b 1 0) (none-test t l r))
  hops-once (suc k) t l [] =
      count-hops (same []) k t
      ∙ sum_to-zero n (λ u l.
      ap (λ c. cond (link W u t) c 0)
      (count_none (λ r. not (visits t r) && false) (hops W n s k u) (λ r m. and-false (not (visits t r))))
      ∙ cond_same (link W u t) 0)
  hops-once (suc k) t l (x ∷ q) =
      count-hops (same (x ∷ q)) k t
      ∙ sum_to-cong n (λ u m.
      ap (λ c. cond (link W u t) c 0)
      (count-cong (hops W n s k u) (λ r m. part r)
      ∙ count-when (eqb x t && not (visits t q)) (same q) (hops W n s k u)
      ∙ ap (λ c. cond (eqb x t && not (visits t q)) c 0) (hops-once k u m q)
      ∙ cond-and (eqb x t && not (visits t q)) (is_route W n s u q && eqb (length q) (suc k)) 1 0)
      ∙ cond-and (link W u t) (eqb x t && not (visits t q) && (is_route W n s u q && eqb (length q) (suc k))) 1 0)
      ∙ last q
    where
      part : (r : List ℕ) → (not (visits t r) && same (x ∷ q) (t ∷ r)) ≡ (eqb x t && not (visits t q) && same q r)
      part r = go (same q r) refl
        where
          go : (b : Bool) → same q r ≡ b → (not (visits t r) && (eqb x t && b)) ≡ (eqb x t && not (visits t q) && b)
          go true e = rw (same_true q r e) (simp and-true (and_comm (not (visits t r)) (eqb x t)))
          go false e = simp and-false

      last : (q : List ℕ) → sum_to n (λ u. cond (link W u t && (eqb x t && not (visits t q) && (is_route W n s u q && eqb (length q) (suc k)))) 1 0) ≡ cond (is_route W n s t (x ∷ q) && eqb (suc (length q)) (suc (suc k))) 1 0
      last [] = sum_to-zero n (λ u l. simp and-false) ∙ rw (ne_eqb 1 (suc (suc k)) (omega arith)) (simp and-false)
      last (u ∷ q) =
          sum_to-test n u (λ v. link W v t && (eqb x t && not (visits t (u ∷ q)) && (is_route W n s v (u ∷ q) && eqb (suc (length q)) (suc k)))) (λ v e.
          let (_, a) = (and-eq-true_iff (link W v t) _).0 e in
          let (_, b) = (and-eq-true_iff (eqb x t && not (visits t (u ∷ q))) _).0 a in
          let (c, _) = (and-eq-true_iff (is_route W n s v (u ∷ q)) _).0 b in
          sym (route-ends v u q c)) ∙ ap (λ b. cond b 1 0) (last-test k t x u q l)

  -- a route's stops are below n and different
  route-stops : {t : ℕ} {q : List ℕ} → Route (t ∷ q) → (below n (t ∷ q) ≡ true) × (different (t ∷ q) ≡ true)
  unfolding is_route
  route-stops {t} {q} R =
      let (_, a) = (and-eq-true_iff (ends_at t (t ∷ q)) _).0 (is-route R) in
      let (_, b) = (and-eq-true_iff (starts_at s (t ∷ q)) _).0 a in
      let (c, d) = (and-eq-true_iff (below n (t ∷ q)) _).0 b in
      let (e, _) = (and-eq-true_iff (different (t ∷ q)) _).0 d in
      (c, e)

  -- a route has at most n stops
  pub route-length : {t : ℕ} {q : List ℕ} → Route (t ∷ q) → length (t ∷ q) ≤ n
  route-length {t} {q} R = let (c, e) = route-stops R in pigeonhole n (t ∷ q) c e

  -- and as many as it visits
  pub route-visits : {t : ℕ} {q : List ℕ} → Route (t ∷ q) → length (t ∷ q) ≡ sum_to n (λ v. cond (visits v (t ∷ q)) 1 0)
  route-visits {t} {q} R =
      let (c, e) = route-stops R in
      length-count n (t ∷ q) c ∙ sum_to-cong n (λ v l. different-count v (t ∷ q) e)

  -- the listing holds each route to a stop t below n once, and nothing else
  pub routes-once : (t : ℕ) → t < n → (r : List ℕ) → count (same r) (routes W n s t) ≡ cond (is_route W n s t r) 1 0
  unfolding routes
  routes-once t l r =
      count-join (same r) n (λ k. hops W n s k t)
      ∙ sum_to-cong n (λ k m. hops-once k t l r)
      ∙ sum_to-test n (pred (length r)) (λ k. is_route W n s t r && eqb (length r) (suc k)) (λ k e.
      let (_, a) = (and-eq-true_iff (is_route W n s t r) _).0 e in omega (arith, eqb-true (length r) (suc k) a))
      ∙ ap (λ b. cond b 1 0) (bool_iff (ltb (pred (length r)) n && (is_route W n s t r && eqb (length r) (suc (pred (length r))))) (is_route W n s t r) f g)
    where
      f : (ltb (pred (length r)) n && (is_route W n s t r && eqb (length r) (suc (pred (length r))))) ≡ true → is_route W n s t r ≡ true
      f e = ((and-eq-true_iff (is_route W n s t r) _).0 ((and-eq-true_iff (ltb (pred (length r)) n) _).0 e).1).0

      g : is_route W n s t r ≡ true → (ltb (pred (length r)) n && (is_route W n s t r && eqb (length r) (suc (pred (length r))))) ≡ true
      g e =
          let (q, h, R) = route-of t r e in
          let m : length r ≤ n = rw h (route-length R) in
          let z : length r ≡ suc (length q) = ap length h in
          rw (e, lt-ltb (pred (length r)) n (omega arith)) (eq-eqb (length r) (suc (pred (length r))) (omega arith))

  -- membership: what is listed is a route, and each route is listed
  pub hop-found : (k t : ℕ) → t < n → (r : List ℕ) → 0 < count (same r) (hops W n s k t)
      → (q : List ℕ) × (r ≡ t ∷ q) × Route (t ∷ q) × (length q ≡ k)
  hop-found k t l r h =
      let (a, b) = (and-eq-true_iff (is_route W n s t r) _).0 (test-true (is_route W n s t r && eqb (length r) (suc k)) (rw hops-once at h)) in
      let (q, e, R) = route-of t r a in
      (q, e, R, suc_inj (sym (ap length e) ∙ eqb-true (length r) (suc k) b))

  pub found : (t : ℕ) → t < n → (r : List ℕ) → 0 < count (same r) (routes W n s t) → (q : List ℕ) × (r ≡ t ∷ q) × Route (t ∷ q)
  found t l r h = route-of t r (test-true (is_route W n s t r) (rw routes-once at h))

  pub listed : {t : ℕ} {q : List ℕ} → Route (t ∷ q) → 0 < count (same (t ∷ q)) (routes W n s t)
  listed {t} {q} R = rw (routes-once t (route-below R) (t ∷ q), is-route R) (omega arith)

  -- no route has n links
  pub hops-none : (p : List ℕ → Bool) (t : ℕ) → t < n → count p (hops W n s n t) ≡ 0
  hops-none p t l = count_none p (hops W n s n t) (λ r h.
      let (q, _, R, e) = hop-found n t l r h in absurd (omega (arith, route-length R)))

  module _ (c : ℕ) (within : Within W n c) where
    -- a time is at most the number of links, so at most n - 1, times the greatest cost
    route-time : {t : ℕ} {q : List ℕ} → Route (t ∷ q) → time W (t ∷ q) ≤ length q * c
    unfolding time
    route-time (start l) = omega arith
    route-time (step {t} {u} {r} l k v R) =
        omega (arith, route-time R, within u t (route-below R) l, suc-mul (length r) c)

    pub time-bound : {t : ℕ} {q : List ℕ} → Route (t ∷ q) → time W (t ∷ q) ≤ (n - 1) * c
    time-bound {t} {q} R =
        let h : length q ≤ n - 1 = omega (arith, route-length R) in
        omega (arith, route-time R, mul-le-mul_right c h)

-- no time in a hall of up to 64 stops with costs up to 65535 exceeds 63 times 65535
pub time-limit : (W : Costs) (n s : ℕ) → n ≤ 64 → Within W n 65535 → {t : ℕ} {q : List ℕ} → Route W n s (t ∷ q) → time W (t ∷ q) ≤ 4128705
time-limit W n s h within R = omega (arith, time-bound W n s 65535 within R)
