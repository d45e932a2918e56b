-- The least times satisfy E1, and where there is a route. Assumes nothing.
use Prim.Native.Nat.{ℕ, suc, ◌+◌, ◌*◌, ◌-◌, ◌<◌, ◌≤◌, min}
use native.Mathlib.Nat.{lt_irrefl, suc-mul, mul-le-mul_right}
use native.Mathlib.Omega.{arith}
use mathlib.Core.Path.{◌≡◌, refl, sym, ◌∙◌, ap}
use mathlib.Core.Logic.{◌≢◌, ◌↔◌}
use mathlib.Core.Bool.{Bool, true, false, cond, ◌&&◌, ◌||◌, or-true, or-false, and-true}
use mathlib.Core.List.{List, [], ◌∷◌}
use lib.Dec.{eqb, leb}
use borrow.Author.Tests.{eqb-true, eq-eqb, leb-true, leb-false}
use Rattle.routes.specs.Route.{Costs, mark, link, time, least, count, same, visits, routes, least_time, quickest, ways}
use Rattle.routes.specs.Equations.{Within, tight, Times}
use Rattle.routes.proofs.Booleans.{both}
use Rattle.routes.proofs.Sums.{is_false}
use Rattle.routes.proofs.Tight.{true-tight}
use Rattle.routes.proofs.Lists.{same_refl}
use Rattle.routes.proofs.Counting.{here, there, each, count-cong, count-when, count-positive, positive-count}
use Rattle.routes.proofs.Listing.{Route, start, step, is-route, route-below, routes-once, found, listed, time-bound}

module _ (W : Costs) where
  -- the least time of a listing is at most the time of each member and at most the mark, and other than the mark it is a member's
  least-le : (l : List (List ℕ)) (r : List ℕ) → 0 < count (same r) l → least W l ≤ time W r
  unfolding count least
  least-le [] r m = absurd (lt_irrefl 0 m)
  least-le (a ∷ l) r m =
      each {P = λ r. min (time W a) (least W l) ≤ time W r} a l (omega arith) (λ r m. omega (arith, least-le l r m)) r m

  least-mark : (l : List (List ℕ)) → least W l ≤ mark
  unfolding least
  least-mark [] = omega arith
  least-mark (a ∷ l) = omega (arith, least-mark l)

  least_at : (l : List (List ℕ)) → least W l ≢ mark → (r : List ℕ) × (0 < count (same r) l) × (time W r ≡ least W l)
  unfolding least
  least_at [] h = absurd (h refl)
  least_at (a ∷ l) h = go (leb (time W a) (least W l)) refl (λ h. least_at l h)
    where
      go : (b : Bool) → leb (time W a) (least W l) ≡ b
          → (least W l ≢ mark → (r : List ℕ) × (0 < count (same r) l) × (time W r ≡ least W l))
          → (r : List ℕ) × (0 < count (same r) (a ∷ l)) × (time W r ≡ min (time W a) (least W l))
      go true e f = (a, here a l, omega (arith, leb-true (time W a) (least W l) e))
      go false e f =
          let m : least W l < time W a = leb-false (time W a) (least W l) e in
          let (r, k, q) = f (λ z. h (omega arith)) in
          (r, there r a l k, omega arith)

module _ (W : Costs) (n s : ℕ) where
  -- cut: a route that visits t holds a route to t, no slower
  pub cut : (t : ℕ) {r : List ℕ} → Route W n s r → visits t r ≡ true → (q : List ℕ) × Route W n s (t ∷ q) × (time W (t ∷ q) ≤ time W r)
  unfolding visits time
  cut t (start l) v =
      let h : t ≡ s = eqb-true t s (sym (or-false (eqb t s)) ∙ v) in
      ([], rw h (start l), omega arith)
  cut t (step {t = x} {u} {r} l k w R) v = go (eqb t x) refl v (λ v. cut t R v)
    where
      go : (b : Bool) → eqb t x ≡ b → (b || visits t (u ∷ r)) ≡ true
          → (visits t (u ∷ r) ≡ true → (q : List ℕ) × Route W n s (t ∷ q) × (time W (t ∷ q) ≤ time W (u ∷ r)))
          → (q : List ℕ) × Route W n s (t ∷ q) × (time W (t ∷ q) ≤ time W (x ∷ (u ∷ r)))
      go true e v f = let h : t ≡ x = eqb-true t x e in (u ∷ r, rw h (step l k w R), rw h (omega arith))
      go false e v f = let (q, Q, m) = f v in (q, Q, omega (arith, m))

  -- every route visits s, so that the only one to s has no link
  visits-source : {r : List ℕ} → Route W n s r → visits s r ≡ true
  unfolding visits
  visits-source (start l) = rw (eq-eqb s s refl)
  visits-source (step {t} {u} {r} l k v R) = rw (visits-source R) (or-true (eqb s t))

  source-only-at : {t : ℕ} {r : List ℕ} → Route W n s (t ∷ r) → t ≡ s → r ≡ []
  source-only-at (start l) e = refl
  source-only-at (step {t} {u} {r} l k v R) e = absurd (both (visits-source R) (sym (ap (λ x. visits x (u ∷ r)) e) ∙ v))

  pub source-only : {r : List ℕ} → Route W n s (s ∷ r) → r ≡ []
  source-only R = source-only-at R refl

  -- and one with a link ends at another stop
  pub source-apart : {t u : ℕ} {r : List ℕ} → Route W n s (t ∷ (u ∷ r)) → eqb t s ≡ false
  source-apart (step {t} {u} {r} l k v R) = is_false (eqb t s) (λ e. both (visits-source R) (sym (ap (λ x. visits x (u ∷ r)) (eqb-true t s e)) ∙ v))

  -- the least time is at most the time of each route, and other than the mark it is a route's
  pub least-of : {t : ℕ} {q : List ℕ} → Route W n s (t ∷ q) → least_time W n s t ≤ time W (t ∷ q)
  unfolding least_time
  least-of {t} {q} R = least-le W (routes W n s t) (t ∷ q) (listed W n s R)

  pub route-at : (t : ℕ) → t < n → least_time W n s t ≢ mark → (q : List ℕ) × Route W n s (t ∷ q) × (time W (t ∷ q) ≡ least_time W n s t)
  unfolding least_time
  route-at t l h =
      let (r, m, e) = least_at W (routes W n s t) h in
      let (q, z, R) = found W n s t l r m in
      (q, R, sym (ap (time W) z) ∙ e)

module _ (W : Costs) (n s c : ℕ) (inside : s < n) (within : Within W n c) (small : n * c < mark) where
  -- where there is a route, the least time is not the mark: it is at most (n - 1) times the greatest cost
  pub reached : {t : ℕ} {q : List ℕ} → Route W n s (t ∷ q) → least_time W n s t ≤ (n - 1) * c
  reached R = omega (arith, least-of W n s R, time-bound W n s c within R)

  pub reachable : {t : ℕ} {q : List ℕ} → Route W n s (t ∷ q) → least_time W n s t ≢ mark
  reachable R =
      let h : n - 1 ≤ n = omega arith in
      λ e. omega (arith, reached R, mul-le-mul_right c h)

  pub least-bound : (t : ℕ) → t < n → least_time W n s t ≢ mark → least_time W n s t ≤ (n - 1) * c
  least-bound t l h = let (q, R, e) = route-at W n s t l h in reached R

  -- the time of the source is 0
  pub least-source : least_time W n s s ≡ 0
  unfolding time
  least-source = omega (arith, least-of W n s (start inside))

  -- triangle: no link improves a least time
  triangle : (u t : ℕ) → u < n → t < n → link W u t ≡ true → least_time W n s u ≢ mark → least_time W n s t ≤ least_time W n s u + W u t
  unfolding time
  triangle u t l m k h =
      let (q, R, e) = route-at W n s u l h in
      go R e (visits t (u ∷ q)) refl
    where
      go : {q : List ℕ} → Route W n s (u ∷ q) → time W (u ∷ q) ≡ least_time W n s u → (b : Bool) → visits t (u ∷ q) ≡ b
          → least_time W n s t ≤ least_time W n s u + W u t
      go R e true v = let (p, P, z) = cut W n s t R v in omega (arith, least-of W n s P)
      go R e false v = omega (arith, least-of W n s (step m k v R))

  -- a link from a stop that is reached leads on below the mark, so where a route leads on the stop is reached too
  pub next-reached : (a t : ℕ) → a < n → t < n → least_time W n s a ≢ mark → least_time W n s a + W a t < mark
  next-reached a t k l h =
      let z : suc (n - 1) ≡ n = omega arith in
      omega (arith, least-bound a k h, within a t k l, suc-mul (n - 1) c, ap (λ x. x * c) z)

  pub reached-on : {u t : ℕ} {q : List ℕ} → Route W n u (t ∷ q) → least_time W n s u ≢ mark → least_time W n s t ≢ mark
  reached-on (start l) h = h
  reached-on {u} (step {t} {u = a} l k v R) h =
      let near : least_time W n s a ≢ mark = reached-on R h in
      let j : a < n = route-below W n u R in
      λ e. omega (arith, triangle a t j l k near, next-reached a t j l near)

  -- the last link of a quickest route is tight
  pub last-tight : {t u : ℕ} {r : List ℕ} → Route W n s (t ∷ (u ∷ r)) → time W (t ∷ (u ∷ r)) ≡ least_time W n s t
      → tight W (least_time W n s) u t ≡ true
  unfolding time
  last-tight (step {t} {u} {r} l k v R) e =
      let a : least_time W n s t ≤ least_time W n s u + W u t = triangle u t (route-below W n s R) l k (reachable R) in
      true-tight W (least_time W n s) u t k (reachable R) (omega (arith, least-of W n s R))

  -- support: a stop other than s that has a route has a tight link into it
  support : (t : ℕ) → t < n → t ≢ s → least_time W n s t ≢ mark → (u : ℕ) × (u < n) × (tight W (least_time W n s) u t ≡ true)
  support t l h m = let (q, R, e) = route-at W n s t l m in go R e h
    where
      go : {t : ℕ} {q : List ℕ} → Route W n s (t ∷ q) → time W (t ∷ q) ≡ least_time W n s t → t ≢ s → (u : ℕ) × (u < n) × (tight W (least_time W n s) u t ≡ true)
      go (start l) e h = absurd (h refl)
      go (step {u} l k v R) e h = (u, route-below W n s R, last-tight (step l k v R) e)

  -- E1 holds for the least times
  pub times : Times W n s (least_time W n s)
  unfolding least_time
  times = record {
    source = least-source;
    bounded = λ t l. least-mark W (routes W n s t);
    relaxed = triangle;
    supported = support;
  }

  -- a stop has ways exactly where its least time is not the mark
  pub ways-reached : (t : ℕ) → t < n → (0 < ways W n s t) ↔ (least_time W n s t ≢ mark)
  unfolding ways quickest
  ways-reached t l = (f, g)
    where
      f : 0 < ways W n s t → least_time W n s t ≢ mark
      f h =
          let (r, m, e) = positive-count (λ r. eqb (time W r) (least_time W n s t) && true) (routes W n s t) h in
          let (q, z, R) = found W n s t l r m in
          reachable R

      g : least_time W n s t ≢ mark → 0 < ways W n s t
      g h =
          let (q, R, e) = route-at W n s t l h in
          count-positive (λ r. eqb (time W r) (least_time W n s t) && true) (routes W n s t) (t ∷ q) (listed W n s R) (rw (eq-eqb _ _ e))

  -- the source has one route, the one with no link, and it is quickest
  pub quickest-source : (p : List ℕ → Bool) → quickest W n s p s ≡ cond (p (s ∷ [])) 1 0
  unfolding quickest time
  quickest-source p =
      count-cong (routes W n s s) {p = λ r. eqb (time W r) (least_time W n s s) && p r} (λ r m. one r m)
      ∙ count-when (p (s ∷ [])) (same (s ∷ [])) (routes W n s s)
      ∙ ap (λ k. cond (p (s ∷ [])) k 0) (routes-once W n s s inside (s ∷ []) ∙ ap (λ b. cond b 1 0) (is-route W n s (start inside)))
    where
      one : (r : List ℕ) → 0 < count (same r) (routes W n s s) → (eqb (time W r) (least_time W n s s) && p r) ≡ (p (s ∷ []) && same (s ∷ []) r)
      one r m =
          let (q, z, R) = found W n s s inside r m in
          let h : r ≡ s ∷ [] = z ∙ ap {B = List ℕ} (λ q. s ∷ q) (source-only W n s R) in
          rw (h, same_refl (s ∷ []), eq-eqb 0 (least_time W n s s) (sym least-source)) (sym (and-true (p (s ∷ []))))

  -- the source has one way
  pub ways-source : ways W n s s ≡ 1
  unfolding ways
  ways-source = quickest-source (λ r. true)
