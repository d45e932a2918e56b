-- Time spent passing stops: a route from s takes the costs of its links and the passing times of the stops strictly between its ends.
-- So times, ways and shares by `costs_from W p s` are those of the same routes, timed so. Assumes nothing.
use Prim.Native.Nat.{ℕ, zero, suc, ◌+◌, ◌*◌, ◌/◌, ◌-◌, ◌<◌, ◌≤◌, min}
use native.Mathlib.Nat.{suc-mul, mul-le-mul_right}
use native.Mathlib.Omega.{arith}
use mathlib.Core.Path.{◌≡◌, refl, sym, ◌∙◌, ap, ap₂, fun_ext}
use mathlib.Core.Logic.{◌≢◌}
use mathlib.Core.Bool.{Bool, true, false, cond, ◌&&◌, ◌||◌, and-true}
use mathlib.Core.List.{List, [], ◌∷◌, map, reverse}
use lib.Dec.{eqb, ltb}
use lib.ListN.{length}
use borrow.Author.Tests.{eqb-true, eq-eqb, lt-ltb, ltb-true, ltb-false}
use Rattle.routes.specs.Route.{Costs, mark, link, time, passed, costs_from, least, join_to, count, chosen, same, in_order, extend, visits, hops, routes, least_time, quickest, ways, through, portion, open_share, quickest_routes, route_time, used, uses, sum_to}
use Rattle.routes.specs.Equations.{Within}
use Rattle.routes.proofs.Sums.{cond-true, cond-false, sum_to-cong}
use Rattle.routes.proofs.Counting.{here, there, count-cong, count-le, count-agree}
use Rattle.routes.proofs.Listing.{Route, start, step, route-length, found, time-bound}
use Rattle.routes.proofs.Times.{source-apart, least-of, route-at}
use Rattle.routes.proofs.Cheaper.{Cheaper}

-- costs with the same links have the same routes
module _ (W' W : Costs) (n s : ℕ) (links : (u v : ℕ) → link W' u v ≡ link W u v) where
  hops-links : (k t : ℕ) → hops W' n s k t ≡ hops W n s k t
  unfolding hops
  hops-links zero t = refl
  hops-links (suc k) t = ap (join_to n) (fun_ext (λ u. ap₂ (λ b l. cond b (extend t l) []) (links u t) (hops-links k u)))

  pub routes-links : (t : ℕ) → routes W' n s t ≡ routes W n s t
  unfolding routes
  routes-links t = ap (join_to n) (fun_ext (λ k. hops-links k t))

  pub route-links : {r : List ℕ} → Route W' n s r → Route W n s r
  route-links (start l) = start l
  route-links (step {t} {u} l k v R) = step l (sym (links u t) ∙ k) v (route-links R)

-- a link's cost w and x more, where there is a link
abbrev pub more : ℕ → ℕ → ℕ
more w x = cond (ltb 0 w) (w + x) 0

pub more-link : (w x : ℕ) → ltb 0 (more w x) ≡ ltb 0 w
more-link w x = go (ltb 0 w) refl
  where
    go : (b : Bool) → ltb 0 w ≡ b → ltb 0 (cond b (w + x) 0) ≡ b
    go true e = lt-ltb 0 (w + x) (omega (arith, ltb-true 0 w e))
    go false e = refl

pub more-le : (w x : ℕ) → more w x ≤ w + x
more-le w x = go (ltb 0 w)
  where
    go : (b : Bool) → cond b (w + x) 0 ≤ w + x
    go true = omega arith
    go false = omega arith

pub more-linked : (w x : ℕ) → 0 < w → more w x ≡ w + x
more-linked w x h = cond-true (w + x) 0 (lt-ltb 0 w h)

-- two costs are equal where they are with x more
more_same : (w w' x : ℕ) → more w x ≡ more w' x → w ≡ w'
more_same w w' x = go (ltb 0 w) refl (ltb 0 w') refl
  where
    go : (a : Bool) → ltb 0 w ≡ a → (b : Bool) → ltb 0 w' ≡ b → cond a (w + x) 0 ≡ cond b (w' + x) 0 → w ≡ w'
    go true d true e h = omega arith
    go true d false e h = omega (arith, ltb-true 0 w d)
    go false d true e h = omega (arith, ltb-true 0 w' e)
    go false d false e h = omega (arith, ltb-false 0 w d, ltb-false 0 w' e)

-- a passing time or nothing is at most the passing time
pub but-le : (b : Bool) (x : ℕ) → cond b 0 x ≤ x
but-le true x = omega arith
but-le false x = omega arith

-- the least of a measure of routes over a list, the mark where it is empty
unfoldable pub least_by : (List ℕ → ℕ) → List (List ℕ) → ℕ
least_by f [] = mark
least_by f (r ∷ rs) = min (f r) (least_by f rs)

least_by-told : (W' : Costs) (f : List ℕ → ℕ) (l : List (List ℕ)) → ((r : List ℕ) → 0 < count (same r) l → time W' r ≡ f r) → least W' l ≡ least_by f l
unfolding least least_by
least_by-told W' f [] h = refl
least_by-told W' f (a ∷ l) h = ap₂ min (h a (here a l)) (least_by-told W' f l (λ r m. h r (there r a l m)))

-- properties that agree on the members choose alike
pub chosen-cong : (l : List (List ℕ)) {p q : List ℕ → Bool} → ((r : List ℕ) → 0 < count (same r) l → p r ≡ q r) → chosen p l ≡ chosen q l
unfolding chosen
chosen-cong [] h = refl
chosen-cong (a ∷ l) h = ap₂ (λ b m. cond b (a ∷ m) m) (h a (here a l)) (chosen-cong l (λ r m. h r (there r a l m)))

-- the ways are the routes that take the least time
ways-count : (W : Costs) (n s t : ℕ) → ways W n s t ≡ count (λ r. eqb (time W r) (least_time W n s t)) (routes W n s t)
unfolding ways quickest
ways-count W n s t = count-cong (routes W n s t) (λ r m. and-true _)

module _ (W : Costs) (p : ℕ → ℕ) (s : ℕ) where
  -- the links are those of W
  pub link-from : (u v : ℕ) → link (costs_from W p s) u v ≡ link W u v
  link-from u v = more-link (W u v) _

  -- a link costs what W says and what it takes to pass the stop that it leaves: nothing at s itself
  pub linked-from : (u v : ℕ) → 0 < W u v → costs_from W p s u v ≡ W u v + cond (eqb u s) 0 (p u)
  linked-from u v = more-linked (W u v) _

  pub own-from : (v : ℕ) → 0 < W s v → costs_from W p s s v ≡ W s v
  own-from v h = omega (arith, linked-from s v h, cond-true 0 (p s) (eq-eqb s s refl))

  module _ (n : ℕ) where
    -- the routes are those of the links, whatever the passing times
    pub routes-from : (t : ℕ) → routes (costs_from W p s) n s t ≡ routes W n s t
    routes-from t = routes-links (costs_from W p s) W n s link-from t

    -- a route led on by one link passes the stop where it ended, if that is not the first
    pub passed-step : {u : ℕ} {r : List ℕ} → Route W n s (u ∷ r) → (t : ℕ) → passed p (t ∷ (u ∷ r)) ≡ passed p (u ∷ r) + cond (eqb u s) 0 (p u)
    unfolding passed
    passed-step (start l) t = omega (arith, cond-true 0 (p s) (eq-eqb s s refl))
    passed-step (step {t = u} l k v R) t = omega (arith, cond-false 0 (p u) (source-apart W n s (step l k v R)))

    -- a route's time: the costs of its links and the passing times of the stops strictly between its ends
    pub time-from : {r : List ℕ} → Route W n s r → time (costs_from W p s) r ≡ route_time W p r
    unfolding time passed
    time-from (start l) = refl
    time-from (step {t} {u} {r} l k v R) = omega (arith, time-from R, passed-step R t, cond-true (W u t + cond (eqb u s) 0 (p u)) 0 k)

    -- the same of each route in the listing
    listed-from : (t : ℕ) → t < n → (r : List ℕ) → 0 < count (same r) (routes W n s t) → time (costs_from W p s) r ≡ route_time W p r
    listed-from t l r m = let (q, e, R) = found W n s t l r m in rw e (time-from R)

    -- the least time from s to t is the least of these times over the routes
    pub least-from : (t : ℕ) → t < n → least_time (costs_from W p s) n s t ≡ least_by (λ r. route_time W p r) (routes W n s t)
    unfolding least_time
    least-from t l = ap (least (costs_from W p s)) (routes-from t) ∙ least_by-told (costs_from W p s) (λ r. route_time W p r) (routes W n s t) (listed-from t l)

    -- the quickest routes are those that take the least time
    pub quickest-from : (P : List ℕ → Bool) (t : ℕ) → t < n →
        quickest (costs_from W p s) n s P t ≡ count (λ r. eqb (route_time W p r) (least_time (costs_from W p s) n s t) && P r) (routes W n s t)
    unfolding quickest
    quickest-from P t l =
        ap (count (λ r. eqb (time (costs_from W p s) r) (least_time (costs_from W p s) n s t) && P r)) (routes-from t)
        ∙ count-cong (routes W n s t) (λ r m. ap (λ x. eqb x (least_time (costs_from W p s) n s t) && P r) (listed-from t l r m))

    pub ways-from : (t : ℕ) → t < n →
        ways (costs_from W p s) n s t ≡ count (λ r. eqb (route_time W p r) (least_time (costs_from W p s) n s t)) (routes W n s t)
    unfolding ways
    ways-from t l = quickest-from (λ r. true) t l ∙ count-cong (routes W n s t) (λ r m. and-true _)

    -- so are those that pass a stop, which make the shares, and a link is used where one of them uses it, which makes the touched sets
    pub through-from : (v t : ℕ) → t < n →
        through (costs_from W p s) n s v t ≡ count (λ r. eqb (route_time W p r) (least_time (costs_from W p s) n s t) && visits v r) (routes W n s t)
    unfolding through
    through-from v t l = quickest-from (visits v) t l

    pub used-from : (u v : ℕ) →
        used (costs_from W p s) n s u v ≡ ltb 0 (sum_to n (λ t. count (λ r. eqb (route_time W p r) (least_time (costs_from W p s) n s t) && uses u v r) (routes W n s t)))
    unfolding used
    used-from u v = ap (ltb 0) (sum_to-cong n (λ t l. quickest-from (uses u v) t l))

    pub quickest_routes-from : (t : ℕ) → t < n →
        quickest_routes (costs_from W p s) n s t ≡ in_order (map reverse (chosen (λ r. eqb (route_time W p r) (least_time (costs_from W p s) n s t)) (routes W n s t)))
    unfolding quickest_routes
    quickest_routes-from t l =
        ap (λ l. in_order (map reverse l))
        (ap (chosen (λ r. eqb (time (costs_from W p s) r) (least_time (costs_from W p s) n s t))) (routes-from t)
        ∙ chosen-cong (routes W n s t) (λ r m. ap (λ x. eqb x (least_time (costs_from W p s) n s t)) (listed-from t l r m)))

    -- no route takes less than without passing times. So where the least time is as without, each quickest route is one without them
    still : (t : ℕ) → t < n → least_time (costs_from W p s) n s t ≡ least_time W n s t → (r : List ℕ) → 0 < count (same r) (routes W n s t) →
        eqb (route_time W p r) (least_time (costs_from W p s) n s t) ≡ true → eqb (time W r) (least_time W n s t) ≡ true
    still t l e r m h =
        let (q, z, R) = found W n s t l r m in
        let low : least_time W n s t ≤ time W r = rw z (least-of W n s R) in
        eq-eqb (time W r) (least_time W n s t) (omega (arith, e, eqb-true (route_time W p r) (least_time (costs_from W p s) n s t) h))

    pub fewer-ways : (t : ℕ) → t < n → least_time (costs_from W p s) n s t ≡ least_time W n s t → ways (costs_from W p s) n s t ≤ ways W n s t
    fewer-ways t l e = omega (arith, ways-from t l, ways-count W n s t, count-le (routes W n s t) (still t l e))

    -- and where there are as many quickest routes, they are the same routes, whatever property they have
    pub same-quickest : (t : ℕ) → t < n → least_time (costs_from W p s) n s t ≡ least_time W n s t → ways (costs_from W p s) n s t ≡ ways W n s t →
        (P : List ℕ → Bool) → quickest (costs_from W p s) n s P t ≡ quickest W n s P t
    unfolding quickest
    same-quickest t l e f P =
        quickest-from P t l
        ∙ count-cong (routes W n s t) (λ r m. ap (λ b. b && P r) (count-agree (routes W n s t) (still t l e) (sym (ways-from t l) ∙ f ∙ ways-count W n s t) r m))

    -- where this is so for every stop t, the shares are as without passing times
    pub same-share : ((t : ℕ) → t < n → least_time (costs_from W p s) n s t ≡ least_time W n s t) → ((t : ℕ) → t < n → ways (costs_from W p s) n s t ≡ ways W n s t) →
        (limit scale v : ℕ) → open_share (costs_from W p s) n s limit scale v ≡ open_share W n s limit scale v
    unfolding open_share portion through
    same-share e f limit scale v =
        ap (cond (eqb v s) 0) (sum_to-cong n (λ t l.
        ap₂ (λ x y. cond (ltb limit y) 0 (cond (eqb t s || eqb t v) 0 (scale * x / y))) (same-quickest t l (e t l) (f t l) (visits v)) (f t l)))

  -- where no stop takes time, the costs are those of W
  pub none_from : ((v : ℕ) → p v ≡ 0) → costs_from W p s ≡ W
  none_from h = fun_ext (λ u. fun_ext (λ v. go (W u v) (ltb 0 (W u v)) refl (eqb u s) (h u)))
    where
      go : (w : ℕ) (a : Bool) → ltb 0 w ≡ a → (b : Bool) {x : ℕ} → x ≡ 0 → cond a (w + cond b 0 x) 0 ≡ w
      go w true e true h = omega arith
      go w true e false h = omega arith
      go w false e b h = omega (arith, ltb-false 0 w e)

  -- no cost exceeds the greatest cost of a link and the greatest passing time together
  pub from-within : (n c c' : ℕ) → Within W n c → ((v : ℕ) → v < n → p v ≤ c') → Within (costs_from W p s) n (c + c')
  from-within n c c' within quick u v k l =
      omega (arith, more-le (W u v) (cond (eqb u s) 0 (p u)), but-le (eqb u s) (p u), within u v k l, quick u k)

  module _ (n c c' : ℕ) (within : Within W n c) (quick : (v : ℕ) → v < n → p v ≤ c') where
    -- a route passes all its stops but its ends, so at most n - 2
    passed-stops : {t u : ℕ} {r : List ℕ} → Route W n s (t ∷ (u ∷ r)) → passed p (t ∷ (u ∷ r)) ≤ length r * c'
    unfolding passed
    passed-stops (step l k v (start m)) = omega arith
    passed-stops {t} (step {u} l k v (step {u = x} {r} m j w R)) =
        omega (arith, passed-step n (step m j w R) t, passed-stops (step m j w R), but-le (eqb u s) (p u), quick u m, suc-mul (length r) c')

    passed-bound : {t : ℕ} {q : List ℕ} → Route W n s (t ∷ q) → passed p (t ∷ q) ≤ (n - 2) * c'
    unfolding passed
    passed-bound (start l) = omega arith
    passed-bound (step {t} {u} {r} l k v R) =
        let few : length r ≤ n - 2 = omega (arith, route-length W n s (step l k v R)) in
        omega (arith, passed-stops (step l k v R), mul-le-mul_right c' few)

    -- no time exceeds n - 1 times the greatest cost and n - 2 times the greatest passing time
    pub least-from-bound : (t : ℕ) → t < n → least_time (costs_from W p s) n s t ≢ mark → least_time (costs_from W p s) n s t ≤ (n - 1) * c + (n - 2) * c'
    least-from-bound t l h =
        let (q, Q, e) = route-at (costs_from W p s) n s t l h in
        let R : Route W n s (t ∷ q) = route-links (costs_from W p s) W n s link-from Q in
        omega (arith, time-from n R, time-bound W n s c within R, passed-bound R)

-- in a hall of at most 64 stops, with costs and passing times of at most 65535
pub least-from-limit : (W : Costs) (p : ℕ → ℕ) (n s : ℕ) → n ≤ 64 → Within W n 65535 → ((v : ℕ) → v < n → p v ≤ 65535) → (t : ℕ) → t < n →
    least_time (costs_from W p s) n s t ≢ mark → least_time (costs_from W p s) n s t ≤ 8191875
least-from-limit W p n s most within quick t l h = omega (arith, least-from-bound W p s n 65535 65535 within quick t l h)

-- two cost functions and the same passing times: on routes from s they differ at the same links, and the cheaper ones are the cheaper ones
module _ (W W' : Costs) (p : ℕ → ℕ) (s : ℕ) where
  pub only-from : (u v : ℕ) → costs_from W p s u v ≢ costs_from W' p s u v → W u v ≢ W' u v
  only-from u v ne e = ne (ap (λ w. more w (cond (eqb u s) 0 (p u))) e)

  pub differs-from : (u v : ℕ) → W u v ≢ W' u v → costs_from W p s u v ≢ costs_from W' p s u v
  differs-from u v ne e = ne (more_same (W u v) (W' u v) (cond (eqb u s) 0 (p u)) e)

  pub cheaper-from : (n : ℕ) → Cheaper W W' n → Cheaper (costs_from W p s) (costs_from W' p s) n
  cheaper-from n cheaper u v k l h =
      let x : ℕ = cond (eqb u s) 0 (p u) in
      let dear : 0 < W' u v = ltb-true 0 (W' u v) (sym (more-link (W' u v) x) ∙ lt-ltb 0 (more (W' u v) x) h) in
      let (linked, less) = cheaper u v k l dear in
      let low : more (W u v) x ≡ W u v + x = more-linked (W u v) x linked in
      let high : more (W' u v) x ≡ W' u v + x = more-linked (W' u v) x dear in
      (omega arith, omega arith)
