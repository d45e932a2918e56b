-- The quickest routes from one stop to another, listed: exactly these, each once, in rising order, as many as the ways. Assumes nothing.
use Prim.Native.Nat.{ℕ, ◌+◌, ◌*◌, ◌<◌, ◌≤◌}
use native.Mathlib.Nat.{zero-mul, mul-zero, mul-le-mul}
use native.Mathlib.Omega.{arith}
use mathlib.Core.Path.{◌≡◌, refl, sym, ◌∙◌, ap}
use mathlib.Core.Logic.{◌≢◌}
use mathlib.Core.Bool.{Bool, true, false, cond, not, ◌&&◌, and_comm, and-eq-true_iff}
use mathlib.Core.List.{List, [], ◌∷◌, map, reverse, reverse-reverse}
use lib.Dec.{eqb, ltb}
use lib.ListN.{length, length-reverse}
use borrow.Author.Tests.{eqb-true, eq-eqb, lt-ltb}
use Rattle.routes.specs.Route.{Costs, mark, time, sum_to, count, same, chosen, ahead, among, in_order, visits, routes, least_time, quickest, ways, through, quickest_routes}
use Rattle.routes.specs.Equations.{Within}
use Rattle.routes.proofs.Booleans.{bool_iff}
use Rattle.routes.proofs.Sums.{sum_to-cong, sum_to-add, sum_to-zero}
use Rattle.routes.proofs.Lists.{same_refl, same_true}
use Rattle.routes.proofs.Counting.{here, there, each, count-cong, count-when, test-true, test-le, cond-and, cond_same}
use Rattle.routes.proofs.Listing.{is_route, Route, start, is-route, route-of, route-visits, routes-once, found}
use Rattle.routes.proofs.Times.{times, source-only, least-source, ways-reached}
use Rattle.routes.proofs.Product.{product}
use Rattle.routes.proofs.Order.{before_all, rising, count-order, order-rises, rising-known}

-- what a mapped and a chosen listing count, and how many members a listing has
count_map : {A B : Type 0} (p : B → Bool) (f : A → B) (l : List A) → count p (map f l) ≡ count (λ a. p (f a)) l
unfolding count
count_map p f [] = refl
count_map p f (a ∷ l) = ap (λ c. cond (p (f a)) 1 0 + c) (count_map p f l)

count-chosen : {A : Type 0} (p q : A → Bool) (l : List A) → count p (chosen q l) ≡ count (λ a. q a && p a) l
unfolding count chosen
count-chosen p q [] = refl
count-chosen p q (a ∷ l) = go (q a) (count-chosen p q l)
  where
    go : (b : Bool) → count p (chosen q l) ≡ count (λ a. q a && p a) l → count p (cond b (a ∷ chosen q l) (chosen q l)) ≡ cond (b && p a) 1 0 + count (λ a. q a && p a) l
    go true e = omega arith
    go false e = omega arith

count-all : {A : Type 0} (l : List A) → length l ≡ count (λ a. true) l
unfolding count
count-all [] = refl
count-all (a ∷ l) = omega (arith, count-all l)

-- a list is another one turned round exactly if it is that one, turned round
same-reverse : (r q : List ℕ) → same r (reverse q) ≡ same (reverse r) q
same-reverse r q = bool_iff (same r (reverse q)) (same (reverse r) q)
    (λ e. let z : reverse r ≡ q = ap reverse (same_true r (reverse q) e) ∙ reverse-reverse q in rw z (same_refl q))
    (λ e. let z : r ≡ reverse q = sym (reverse-reverse r) ∙ ap reverse (same_true (reverse r) q e) in rw z (same_refl (reverse q)))

-- of the members that are r, all have a property or none
count_same : (p : List ℕ → Bool) (r : List ℕ) (l : List (List ℕ)) → count (λ q. p q && same r q) l ≡ cond (p r) (count (same r) l) 0
count_same p r l = count-cong l (λ q m. alike q (same r q) refl) ∙ count-when (p r) (same r) l
  where
    alike : (q : List ℕ) (b : Bool) → same r q ≡ b → (p q && b) ≡ (p r && b)
    alike q true e = rw (same_true r q e)
    alike q false e = and_comm (p q) false ∙ sym (and_comm (p r) false)

-- how many stops the routes of a listing have in all
unfoldable pub stops_in : List (List ℕ) → ℕ
stops_in [] = 0
stops_in (r ∷ rs) = length r + stops_in rs

stops-reverse : (l : List (List ℕ)) → stops_in (map reverse l) ≡ stops_in l
unfolding stops_in
stops-reverse [] = refl
stops-reverse (r ∷ l) = omega (arith, length-reverse r, stops-reverse l)

stops-among : (r : List ℕ) (l : List (List ℕ)) → stops_in (among r l) ≡ length r + stops_in l
unfolding stops_in among
stops-among r [] = refl
stops-among r (q ∷ l) = go (ahead q r) (stops-among r l)
  where
    go : (b : Bool) → stops_in (among r l) ≡ length r + stops_in l → stops_in (cond b (q ∷ among r l) (r ∷ (q ∷ l))) ≡ length r + (length q + stops_in l)
    go true e = omega arith
    go false e = refl

stops-order : (l : List (List ℕ)) → stops_in (in_order l) ≡ stops_in l
unfolding stops_in in_order
stops-order [] = refl
stops-order (r ∷ l) = stops-among r (in_order l) ∙ ap (λ c. length r + c) (stops-order l)

-- of chosen routes, stop by stop: how many of them visit it
stops-chosen : (n : ℕ) (p : List ℕ → Bool) (l : List (List ℕ)) → ((r : List ℕ) → 0 < count (same r) l → length r ≡ sum_to n (λ v. cond (visits v r) 1 0)) →
    stops_in (chosen p l) ≡ sum_to n (λ v. count (λ r. p r && visits v r) l)
unfolding stops_in chosen count
stops-chosen n p [] h = sym (sum_to-zero n (λ v k. refl))
stops-chosen n p (r ∷ l) h =
    go (p r) (stops-chosen n p l (λ q m. h q (there q r l m))) ∙ sym (sum_to-add n (λ v. cond (p r && visits v r) 1 0) (λ v. count (λ r. p r && visits v r) l))
  where
    go : (b : Bool) → stops_in (chosen p l) ≡ sum_to n (λ v. count (λ r. p r && visits v r) l) →
        stops_in (cond b (r ∷ chosen p l) (chosen p l)) ≡ sum_to n (λ v. cond (b && visits v r) 1 0) + sum_to n (λ v. count (λ r. p r && visits v r) l)
    go true e = omega (arith, h r (here r l))
    go false e = omega (arith, sum_to-zero n {f = λ v. 0} (λ v k. refl))

module _ (W : Costs) (n s t : ℕ) (l : t < n) where
  -- the quickest routes, before they are brought in order
  abbrev picked : List (List ℕ)
  picked = map reverse (chosen (λ r. eqb (time W r) (least_time W n s t)) (routes W n s t))

  picked-once : (r : List ℕ) → count (same r) picked ≡ cond (is_route W n s t (reverse r) && eqb (time W (reverse r)) (least_time W n s t)) 1 0
  picked-once r =
      count_map (same r) reverse (chosen (λ r. eqb (time W r) (least_time W n s t)) (routes W n s t))
      ∙ count-chosen (λ q. same r (reverse q)) (λ r. eqb (time W r) (least_time W n s t)) (routes W n s t)
      ∙ count-cong (routes W n s t) (λ q m. ap (λ b. eqb (time W q) (least_time W n s t) && b) (same-reverse r q))
      ∙ count_same (λ q. eqb (time W q) (least_time W n s t)) (reverse r) (routes W n s t)
      ∙ ap (λ c. cond (eqb (time W (reverse r)) (least_time W n s t)) c 0) (routes-once W n s t l (reverse r))
      ∙ cond-and (eqb (time W (reverse r)) (least_time W n s t)) (is_route W n s t (reverse r)) 1 0
      ∙ ap (λ b. cond b 1 0) (and_comm (eqb (time W (reverse r)) (least_time W n s t)) (is_route W n s t (reverse r)))

  -- exactly the quickest routes, each once: those from s to t of the least time, and read from the front
  pub listed-once : (r : List ℕ) →
      count (same r) (quickest_routes W n s t) ≡ cond (is_route W n s t (reverse r) && eqb (time W (reverse r)) (least_time W n s t)) 1 0
  unfolding quickest_routes
  listed-once r = count-order (same r) picked ∙ picked-once r

  -- in rising order
  pub listed-rises : rising (quickest_routes W n s t) ≡ true
  unfolding quickest_routes
  listed-rises = order-rises picked (λ r. rw (picked-once r) (test-le (is_route W n s t (reverse r) && eqb (time W (reverse r)) (least_time W n s t))))

  -- and no other listing is so
  pub listed-only : (l : List (List ℕ)) → rising l ≡ true →
      ((r : List ℕ) → count (same r) l ≡ cond (is_route W n s t (reverse r) && eqb (time W (reverse r)) (least_time W n s t)) 1 0) → l ≡ quickest_routes W n s t
  listed-only l rises once =
      rising-known l (quickest_routes W n s t) rises listed-rises (λ r m. rw (once r ∙ sym (listed-once r)) at m) (λ r m. rw (listed-once r ∙ sym (once r)) at m)

  -- as many as the ways
  pub listed-ways : length (quickest_routes W n s t) ≡ ways W n s t
  unfolding quickest_routes ways quickest
  listed-ways =
      count-all (quickest_routes W n s t)
      ∙ count-order (λ r. true) picked
      ∙ count_map (λ r. true) reverse (chosen (λ r. eqb (time W r) (least_time W n s t)) (routes W n s t))
      ∙ count-chosen (λ r. true) (λ r. eqb (time W r) (least_time W n s t)) (routes W n s t)

  -- and the same as two facts: what is listed is a quickest route, and each quickest route is listed
  pub listed_found : (r : List ℕ) → 0 < count (same r) (quickest_routes W n s t) →
      (q : List ℕ) × (r ≡ reverse (t ∷ q)) × Route W n s (t ∷ q) × (time W (t ∷ q) ≡ least_time W n s t)
  listed_found r m =
      let (a, b) = (and-eq-true_iff (is_route W n s t (reverse r)) _).0 (test-true _ (rw listed-once at m)) in
      let (q, e, R) = route-of W n s t (reverse r) a in
      (q, sym (reverse-reverse r) ∙ ap reverse e, R, sym (ap (time W) e) ∙ eqb-true _ _ b)

  pub quickest-listed : {q : List ℕ} → Route W n s (t ∷ q) → time W (t ∷ q) ≡ least_time W n s t → 0 < count (same (reverse (t ∷ q))) (quickest_routes W n s t)
  quickest-listed {q} R e =
      rw (listed-once (reverse (t ∷ q)), reverse-reverse (t ∷ q), is-route W n s R, eq-eqb _ _ e) (omega arith)

  -- the stops of all of them: each stop counts for every quickest route that passes it
  pub listed-stops : stops_in (quickest_routes W n s t) ≡ sum_to n (λ v. through W n s v t)
  unfolding quickest_routes through quickest
  listed-stops =
      stops-order picked
      ∙ stops-reverse (chosen (λ r. eqb (time W r) (least_time W n s t)) (routes W n s t))
      ∙ stops-chosen n (λ r. eqb (time W r) (least_time W n s t)) (routes W n s t) (λ r m. let (q, e, R) = found W n s t l r m in rw e (route-visits W n s R))

-- a product of numbers that are 0 at the mark needs no test of the mark
pub without-marks : (a b x y : ℕ) (e : Bool) → (a ≡ mark → x ≡ 0) → (b ≡ mark → y ≡ 0) →
    cond (not (eqb a mark) && (not (eqb b mark) && e)) (x * y) 0 ≡ cond e (x * y) 0
without-marks a b x y e f g = go (eqb a mark) refl (eqb b mark) refl
  where
    go : (i : Bool) → eqb a mark ≡ i → (j : Bool) → eqb b mark ≡ j → cond (not i && (not j && e)) (x * y) 0 ≡ cond e (x * y) 0
    go false h false k = refl
    go true h j k = rw (f (eqb-true a mark h), zero-mul) (sym (cond_same e 0))
    go false h true k = rw (g (eqb-true b mark k), mul-zero) (sym (cond_same e 0))

-- and it is positive where it is there, if both numbers are
pub where-positive : (e : Bool) (x y : ℕ) → (e ≡ true → (0 < x) × (0 < y)) → e ≡ ltb 0 (cond e (x * y) 0)
where-positive false x y h = refl
where-positive true x y h = let (a, b) = h refl in sym (lt-ltb 0 (x * y) (mul-le-mul a b))

-- without a route there are no ways
pub no-ways : (W : Costs) (n s c : ℕ) → s < n → Within W n c → n * c < mark → (t : ℕ) → t < n → least_time W n s t ≡ mark → ways W n s t ≡ 0
no-ways W n s c inside within small t l e =
    let none : ¬ (0 < ways W n s t) = λ h. (ways-reached W n s c inside within small t l).0 h e in
    omega arith

module _ (W : Costs) (n s c : ℕ) (inside : s < n) (within : Within W n c) (small : n * c < mark) where
  -- from a stop to itself: one route of one stop
  pub listed-own : quickest_routes W n s s ≡ (s ∷ []) ∷ []
  unfolding before_all rising time count
  listed-own = rising-known (quickest_routes W n s s) ((s ∷ []) ∷ []) (listed-rises W n s s inside) refl
      (λ r m. let (q, e, R, _) = listed_found W n s s inside r m in
      let z : r ≡ s ∷ [] = e ∙ ap (λ q. reverse (s ∷ q)) (source-only W n s R) in rw z (here (s ∷ []) []))
      (each {P = λ r. 0 < count (same r) (quickest_routes W n s s)} (s ∷ []) [] (quickest-listed W n s s inside (start inside) (sym (least-source W n s c inside within small))) (λ r m. absurd (omega arith)))

  -- without a route: none
  pub listed-none : (t : ℕ) → t < n → least_time W n s t ≡ mark → quickest_routes W n s t ≡ []
  listed-none t l e = empty (quickest_routes W n s t) (listed-ways W n s t l ∙ no-ways W n s c inside within small t l e)
    where
      empty : (l : List (List ℕ)) → length l ≡ 0 → l ≡ []
      empty [] h = refl
      empty (r ∷ l) h = absurd (omega arith)

  -- the quickest routes through v, by the times alone where they add up: without a route there are no ways, so that the mark needs no test
  through-adds : (v t : ℕ) → v < n → t < n →
      through W n s v t ≡ cond (eqb (least_time W n s v + least_time W n v t) (least_time W n s t)) (ways W n s v * ways W n v t) 0
  through-adds v t k l =
      product W n s v c inside k within small t l
      ∙ without-marks (least_time W n s v) (least_time W n v t) (ways W n s v) (ways W n v t) _ (no-ways W n s c inside within small v k) (no-ways W n v c k within small t l)

  -- so the stops of all routes are a sum over all stops
  pub listed-sum : (t : ℕ) → t < n →
      stops_in (quickest_routes W n s t) ≡ sum_to n (λ v. cond (eqb (least_time W n s v + least_time W n v t) (least_time W n s t)) (ways W n s v * ways W n v t) 0)
  listed-sum t l = listed-stops W n s t l ∙ sum_to-cong n (λ v k. through-adds v t k l)

  -- and where there is a route, the times add up at v exactly if some quickest route passes v
  pub passes-exactly : (v t : ℕ) → v < n → t < n → least_time W n s t ≢ mark →
      eqb (least_time W n s v + least_time W n v t) (least_time W n s t) ≡ ltb 0 (through W n s v t)
  passes-exactly v t k l h = rw (through-adds v t k l) (where-positive _ (ways W n s v) (ways W n v t) both-reached)
    where
      both-reached : eqb (least_time W n s v + least_time W n v t) (least_time W n s t) ≡ true → (0 < ways W n s v) × (0 < ways W n v t)
      both-reached e =
          let sum : least_time W n s v + least_time W n v t ≡ least_time W n s t = eqb-true _ _ e in
          let low : least_time W n s t ≤ mark = (times W n s c inside within small).bounded t l in
          ((ways-reached W n s c inside within small v k).1 (λ z. h (omega arith)), (ways-reached W n v c k within small t l).1 (λ z. h (omega arith)))
