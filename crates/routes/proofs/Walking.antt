-- The walk by times alone lists the quickest routes, in order, and takes exactly the links that lie on one. Assumes nothing.
use Prim.Native.Nat.{ℕ, zero, suc, ◌+◌, ◌*◌, ◌-◌, ◌<◌, ◌≤◌}
use native.Mathlib.Nat.{lt_irrefl, add-zero}
use native.Mathlib.Decide.{ℕ_discrete}
use native.Mathlib.Omega.{arith}
use mathlib.Core.Path.{◌≡◌, refl, sym, ◌∙◌, ap, subst}
use mathlib.Core.Logic.{◌≢◌}
use mathlib.Core.Bool.{Bool, true, false, cond, ◌&&◌, ◌||◌, and-eq-true_iff, or-true, false≢true}
use mathlib.Core.List.{List, [], ◌∷◌, ◌++◌, append_assoc, reverse, reverse-cons}
use lib.Dec.{eqb, ltb}
use lib.ListN.{length}
use borrow.Author.Tests.{eqb-true, eq-eqb, ne_eqb, ltb-true, lt-ltb}
use Rattle.routes.specs.Route.{Costs, mark, link, time, join_to, count, same, uses, routes, least_time, quickest, quickest_routes}
use Rattle.routes.specs.Equations.{Within, Times, tight}
use Rattle.routes.specs.Walk.{leads, walk}
use Rattle.routes.proofs.Booleans.{bool_iff}
use Rattle.routes.proofs.Sums.{sum_to-positive, positive-sum_to}
use Rattle.routes.proofs.Lists.{same_refl, same_true}
use Rattle.routes.proofs.Counting.{here, each, count-join, count-cond, count-positive, positive-count}
use Rattle.routes.proofs.Listing.{Route, start, step, found, listed, route-below, route-length}
use Rattle.routes.proofs.Tight.{Tight, tight-true, true-tight, up-ind}
use Rattle.routes.proofs.Times.{times, reachable, route-at, least-source, last-tight}
use Rattle.routes.proofs.Ways.{lead-on}
use Rattle.routes.proofs.Used.{used-tight}
use Rattle.routes.proofs.Triangle.{triangle}
use Rattle.routes.proofs.Order.{before_all, rising, ahead-behind, rising-join, rising-known}
use Rattle.routes.proofs.Listed.{listed-rises, listed_found, quickest-listed}

-- a member of parts that are there on a condition is in one of them, and the other way round
cond-positive : (b : Bool) (x : ℕ) → 0 < cond b x 0 → (b ≡ true) × (0 < x)
cond-positive true x h = (refl, h)
cond-positive false x h = absurd (lt_irrefl 0 h)

module _ (n : ℕ) (b : ℕ → Bool) (g : ℕ → List (List ℕ)) (r : List ℕ) where
  joined-member : 0 < count (same r) (join_to n (λ y. cond (b y) (g y) [])) → (y : ℕ) × (y < n) × (b y ≡ true) × (0 < count (same r) (g y))
  joined-member m =
      let (y, l, k) = sum_to-positive n (λ y. count (same r) (cond (b y) (g y) [])) (rw count-join at m) in
      let (e, h) = cond-positive (b y) (count (same r) (g y)) (rw count-cond at k) in
      (y, l, e, h)

  member-joined : (y : ℕ) → y < n → b y ≡ true → 0 < count (same r) (g y) → 0 < count (same r) (join_to n (λ y. cond (b y) (g y) []))
  member-joined y l e h =
      rw count-join (positive-sum_to n (λ y. count (same r) (cond (b y) (g y) [])) y l (rw e h))

module _ (W : Costs) (n : ℕ) (near far : ℕ → ℕ) (t : ℕ) where
  -- what a link that leads on says of the times
  pub leads-true : (u y : ℕ) → leads W n near far t u y ≡ true → (link W u y ≡ true) × (near u + W u y ≡ near y) × (near y + far y ≡ near t)
  leads-true u y e =
      let (a, rest) = (and-eq-true_iff (ltb 0 (W u y)) _).0 e in
      let (b, c) = (and-eq-true_iff (eqb (near u + W u y) (near y)) _).0 rest in
      (a, eqb-true _ _ b, eqb-true _ _ c)

  pub true-leads : (u y : ℕ) → link W u y ≡ true → near u + W u y ≡ near y → near y + far y ≡ near t → leads W n near far t u y ≡ true
  true-leads u y a b c =
      (and-eq-true_iff (ltb 0 (W u y)) _).1 (a, (and-eq-true_iff (eqb (near u + W u y) (near y)) _).1 (eq-eqb _ _ b, eq-eqb _ _ c))

  -- a member of the walk from u behind the stops p begins with these and u
  walk_begins : (m : ℕ) (p : List ℕ) (u : ℕ) (r : List ℕ) → 0 < count (same r) (walk W n near far t m p u) → (q : List ℕ) × (r ≡ p ++ (u ∷ q))
  unfolding walk count
  walk_begins zero p u r h = absurd (lt_irrefl 0 h)
  walk_begins (suc m) p u r h = go (eqb u t) h (λ y k. walk_begins m (p ++ (u ∷ [])) y r k)
    where
      go : (b : Bool) → 0 < count (same r) (cond b ((p ++ (u ∷ [])) ∷ []) (join_to n (λ y. cond (leads W n near far t u y) (walk W n near far t m (p ++ (u ∷ [])) y) []))) →
          ((y : ℕ) → 0 < count (same r) (walk W n near far t m (p ++ (u ∷ [])) y) → (q : List ℕ) × (r ≡ (p ++ (u ∷ [])) ++ (y ∷ q))) → (q : List ℕ) × (r ≡ p ++ (u ∷ q))
      go true h on = ([], each {P = λ r. r ≡ p ++ (u ∷ [])} (p ++ (u ∷ [])) [] refl (λ r m. absurd (lt_irrefl 0 m)) r h)
      go false h on =
          let (y, l, e, k) = joined-member n (leads W n near far t u) (λ y. walk W n near far t m (p ++ (u ∷ [])) y) r h in
          let (q, z) = on y k in
          (y ∷ q, z ∙ append_assoc p (u ∷ []) (y ∷ q))

  -- the walk rises
  walk-rises : (m : ℕ) (p : List ℕ) (u : ℕ) → rising (walk W n near far t m p u) ≡ true
  unfolding walk before_all rising
  walk-rises zero p u = refl
  walk-rises (suc m) p u = go (eqb u t) (λ y. walk-rises m (p ++ (u ∷ [])) y)
    where
      part : (y : ℕ) (b : Bool) → rising (walk W n near far t m (p ++ (u ∷ [])) y) ≡ true → rising (cond b (walk W n near far t m (p ++ (u ∷ [])) y) []) ≡ true
      part y true e = e
      part y false e = refl

      first : (y : ℕ) (b : Bool) (r : List ℕ) → 0 < count (same r) (cond b (walk W n near far t m (p ++ (u ∷ [])) y) []) → (q : List ℕ) × (r ≡ (p ++ (u ∷ [])) ++ (y ∷ q))
      first y b r h = let (_, k) = cond-positive b (count (same r) (walk W n near far t m (p ++ (u ∷ [])) y)) (rw count-cond at h) in walk_begins m (p ++ (u ∷ [])) y r k

      go : (b : Bool) → ((y : ℕ) → rising (walk W n near far t m (p ++ (u ∷ [])) y) ≡ true) →
          rising (cond b ((p ++ (u ∷ [])) ∷ []) (join_to n (λ y. cond (leads W n near far t u y) (walk W n near far t m (p ++ (u ∷ [])) y) []))) ≡ true
      go true e = refl
      go false e = rising-join n (λ y. cond (leads W n near far t u y) (walk W n near far t m (p ++ (u ∷ [])) y) []) (λ y l. part y (leads W n near far t u y) (e y)) (λ i j k l r q a b.
          let (x, h) = first i (leads W n near far t u i) r a in
          let (z, f) = first j (leads W n near far t u j) q b in
          rw (h, f) (ahead-behind (p ++ (u ∷ [])) x z i j k))

module _
    (W : Costs)
    (n s t c : ℕ)
    (inside : s < n)
    (end : t < n)
    (within : Within W n c)
    (small : n * c < mark)
    (near far : ℕ → ℕ)
    (nears : (x : ℕ) → x < n → near x ≡ least_time W n s x)
    (fars : (x : ℕ) → x < n → far x ≡ least_time W n x t) where
  -- a link that leads on from a stop that is reached is tight
  leads-tight : (u y : ℕ) → u < n → y < n → least_time W n s u ≢ mark → leads W n near far t u y ≡ true → tight W (least_time W n s) u y ≡ true
  leads-tight u y k l h e =
      let (a, b, _) = leads-true W n near far t u y e in
      true-tight W (least_time W n s) u y a h (omega (arith, nears u k, nears y l))

  -- a route led on by it is a quickest one
  led : {u y : ℕ} {x : List ℕ} → y < n → Route W n s (u ∷ x) → time W (u ∷ x) ≡ least_time W n s u → leads W n near far t u y ≡ true →
      Route W n s (y ∷ (u ∷ x)) × (time W (y ∷ (u ∷ x)) ≡ least_time W n s y)
  unfolding time
  led {u} {y} {x} l R e h =
      let T : tight W (least_time W n s) u y ≡ true = leads-tight u y (route-below W n s R) l (reachable W n s c inside within small R) h in
      (lead-on W n s c inside within small l R T e, omega (arith, (tight-true W (least_time W n s) u y T).exact))

  -- each member of the walk is a quickest route
  walk-found : (m u : ℕ) (x : List ℕ) → Route W n s (u ∷ x) → time W (u ∷ x) ≡ least_time W n s u → (r : List ℕ) →
      0 < count (same r) (walk W n near far t m (reverse x) u) →
      (q : List ℕ) × (r ≡ reverse (t ∷ q)) × Route W n s (t ∷ q) × (time W (t ∷ q) ≡ least_time W n s t)
  unfolding walk count
  walk-found zero u x R e r h = absurd (lt_irrefl 0 h)
  walk-found (suc m) u x R e r h = go (eqb u t) refl h (λ y l g k. let (P, f) = led l R e g in walk-found m y (u ∷ x) P f r (rw reverse-cons k))
    where
      go : (b : Bool) → eqb u t ≡ b → 0 < count (same r) (cond b ((reverse x ++ (u ∷ [])) ∷ []) (join_to n (λ y. cond (leads W n near far t u y) (walk W n near far t m (reverse x ++ (u ∷ [])) y) []))) →
          ((y : ℕ) → y < n → leads W n near far t u y ≡ true → 0 < count (same r) (walk W n near far t m (reverse x ++ (u ∷ [])) y) →
          (q : List ℕ) × (r ≡ reverse (t ∷ q)) × Route W n s (t ∷ q) × (time W (t ∷ q) ≡ least_time W n s t)) →
          (q : List ℕ) × (r ≡ reverse (t ∷ q)) × Route W n s (t ∷ q) × (time W (t ∷ q) ≡ least_time W n s t)
      go true z h on =
          let f : r ≡ reverse x ++ (u ∷ []) = each {P = λ r. r ≡ reverse x ++ (u ∷ [])} (reverse x ++ (u ∷ [])) [] refl (λ r m. absurd (lt_irrefl 0 m)) r h in
          let w : u ≡ t = eqb-true u t z in
          (x, f ∙ sym (reverse-cons u x) ∙ ap (λ u. reverse (u ∷ x)) w, rw (← w) R, rw (← w) e)
      go false z h on =
          let (y, l, g, k) = joined-member n (leads W n near far t u) (λ y. walk W n near far t m (reverse x ++ (u ∷ [])) y) r h in
          on y l g k

  -- the times add up at the stop before, where they do at the stop that a tight link leads to
  before-adds : (w u : ℕ) → w < n → u < n → tight W (least_time W n s) w u ≡ true → near u + far u ≡ near t → near w + far w ≡ near t
  before-adds w u k l T e =
      let f : Tight W (least_time W n s) w u = tight-true W (least_time W n s) w u T in
      let F : Times W n s (least_time W n s) = times W n s c inside within small in
      let G : Times W n w (least_time W n w) = times W n w c k within small in
      let H : Times W n u (least_time W n u) = times W n u c l within small in
      let a : least_time W n s t ≤ least_time W n s w + least_time W n w t = triangle W n s w _ _ F G t end in
      let b : least_time W n w t ≤ least_time W n w u + least_time W n u t = triangle W n w u _ _ G H t end in
      let g : least_time W n w u ≤ least_time W n w w + W w u = G.relaxed w u k l f.linked (λ z. omega (arith, G.source)) in
      omega (arith, G.source, f.exact, nears w k, nears u l, nears t end, fars w k, fars u l)

  -- and no tight link leads on from t to a stop where they do
  end-apart : (w u : ℕ) → w < n → u < n → tight W (least_time W n s) w u ≡ true → near u + far u ≡ near t → w ≢ t
  end-apart w u k l T e z =
      let f : Tight W (least_time W n s) w u = tight-true W (least_time W n s) w u T in
      omega (arith, f.rises, ap (least_time W n s) z, nears u l, nears t end)

  -- what the walk lists from a stop of a quickest route, behind the stops of this route, it lists from the first stop
  walk-back : (m : ℕ) {u : ℕ} {x : List ℕ} → Route W n s (u ∷ x) → time W (u ∷ x) ≡ least_time W n s u → near u + far u ≡ near t → m + length x ≡ n → (r : List ℕ) →
      0 < count (same r) (walk W n near far t m (reverse x) u) → 0 < count (same r) (walk W n near far t n [] s)
  unfolding walk count time
  walk-back m (start l) e b k r h = let z : m ≡ n = omega arith in rw z at h
  walk-back m (step {t = u} {u = w} {r = x} l k v R) e b f r h =
      let T : tight W (least_time W n s) w u ≡ true = last-tight W n s c inside within small (step l k v R) e in
      let g : Tight W (least_time W n s) w u = tight-true W (least_time W n s) w u T in
      let i : w < n = route-below W n s R in
      let apart : eqb w t ≡ false = ne_eqb w t (end-apart w u i l T b) in
      let on : leads W n near far t w u ≡ true = true-leads W n near far t w u k (omega (arith, g.exact, nears w i, nears u l)) b in
      let part : 0 < count (same r) (walk W n near far t m (reverse x ++ (w ∷ [])) u) = rw reverse-cons at h in
      walk-back (suc m) R (omega (arith, g.exact)) (before-adds w u i l T b) (omega arith) r
      (rw apart (member-joined n (leads W n near far t w) (λ y. walk W n near far t m (reverse x ++ (w ∷ [])) y) r u l on part))

  -- the times add up at t itself
  own-adds : near t + far t ≡ near t
  own-adds = omega (arith, fars t end, least-source W n t c end within small)

  -- a quickest route is listed by the walk
  walk-listed : {q : List ℕ} → Route W n s (t ∷ q) → time W (t ∷ q) ≡ least_time W n s t → 0 < count (same (reverse (t ∷ q))) (walk W n near far t n [] s)
  unfolding walk
  walk-listed {q} R e = go (n - length q) refl
    where
      most : suc (length q) ≤ n
      most = route-length W n s R

      last : (m : ℕ) → 0 < count (same (reverse (t ∷ q))) (walk W n near far t (suc m) (reverse q) t)
      last m = rw (eq-eqb t t refl, reverse-cons t q) (here (reverse q ++ (t ∷ [])) [])

      go : (m : ℕ) → n - length q ≡ m → 0 < count (same (reverse (t ∷ q))) (walk W n near far t n [] s)
      go zero f = absurd (omega (arith, most))
      go (suc m) f = walk-back (suc m) R e own-adds (omega (arith, most)) (reverse (t ∷ q)) (last m)

  -- the walk lists the quickest routes, in order
  pub walk-lists : walk W n near far t n [] s ≡ quickest_routes W n s t
  unfolding time
  walk-lists =
      rising-known (walk W n near far t n [] s) (quickest_routes W n s t) (walk-rises W n near far t n [] s) (listed-rises W n s t end)
      (λ r h. let (q, e, R, f) = walk-found n s [] (start inside) (sym (least-source W n s c inside within small)) r h in rw e (quickest-listed W n s t end R f))
      (λ r h. let (q, e, R, f) = listed_found W n s t end r h in rw e (walk-listed R f))

  -- a quickest route goes on by a link that costs what its end is nearer to t
  first-link : {u z : ℕ} {q : List ℕ} → u < n → Route W n u (z ∷ q) → time W (z ∷ q) ≡ least_time W n u z → z ≢ u →
      (y : ℕ) × (y < n) × (link W u y ≡ true) × (W u y + least_time W n y z ≡ least_time W n u z)
  unfolding time
  first-link {u} i (start l) e h = absurd (h refl)
  first-link {u} i (step {t = z} {u = w} {r} l k v R) e h =
      let T : tight W (least_time W n u) w z ≡ true = last-tight W n u c i within small (step l k v R) e in
      let f : Tight W (least_time W n u) w z = tight-true W (least_time W n u) w z T in
      elim (ℕ_discrete w u) [
        | yes p ↦ (z, l, rw (← p) k, omega (arith, f.exact, ap (λ x. W x z) p, ap (least_time W n u) p, least-source W n u c i within small, least-source W n z c l within small))
        | no p ↦ go f (first-link i R (omega (arith, f.exact)) p)
      ]
    where
      go : Tight W (least_time W n u) w z → (y : ℕ) × (y < n) × (link W u y ≡ true) × (W u y + least_time W n y w ≡ least_time W n u w) →
          (y : ℕ) × (y < n) × (link W u y ≡ true) × (W u y + least_time W n y z ≡ least_time W n u z)
      go f (y, m, a, b) =
          let G : Times W n u (least_time W n u) = times W n u c i within small in
          let H : Times W n y (least_time W n y) = times W n y c m within small in
          let j : w < n = route-below W n u R in
          let near-w : least_time W n y w ≢ mark = λ x. omega (arith, f.reached, G.bounded w j) in
          let p : least_time W n y z ≤ least_time W n y w + W w z = H.relaxed w z j l f.linked near-w in
          let q : least_time W n u z ≤ least_time W n u y + least_time W n y z = triangle W n u y _ _ G H z l in
          let g : least_time W n u y ≤ least_time W n u u + W u y = G.relaxed u y i m a (λ x. omega (arith, G.source)) in
          (y, m, a, omega (arith, f.exact, G.source))

  -- from a stop where the times add up, a quickest route goes on to t: it takes every link that it took before
  abbrev GoesOn : List ℕ → Type 0
  GoesOn r = (q : List ℕ) × Route W n s (t ∷ q) × (time W (t ∷ q) ≡ least_time W n s t) × ((a b : ℕ) → uses a b r ≡ true → uses a b (t ∷ q) ≡ true)

  goes_on : (u : ℕ) → u < n → (x : List ℕ) → Route W n s (u ∷ x) → time W (u ∷ x) ≡ least_time W n s u → near u + far u ≡ near t → far u ≢ mark → GoesOn (u ∷ x)
  unfolding uses
  goes_on = up-ind {P = λ u. (x : List ℕ) → Route W n s (u ∷ x) → time W (u ∷ x) ≡ least_time W n s u → near u + far u ≡ near t → far u ≢ mark → GoesOn (u ∷ x)} (λ x. least_time W n x t) n
      (λ u l on x R e b f. elim (ℕ_discrete u t) [
        | yes p ↦ (x, rw (← p) R, rw (← p) e, λ a b h. subst (λ z. uses a b (z ∷ x) ≡ true) p h)
        | no p ↦
            let (_, P, g) = route-at W n u t end (λ z. f (fars u l ∙ z)) in
            let (y, m, k, h) = first-link l P g (λ z. p (sym z)) in
            let F : Times W n s (least_time W n s) = times W n s c inside within small in
            let low : least_time W n s y ≤ least_time W n s u + W u y = F.relaxed u y l m k (reachable W n s c inside within small R) in
            let high : least_time W n s t ≤ least_time W n s y + least_time W n y t = triangle W n s y _ _ F (times W n y c m within small) t end in
            let positive : 0 < W u y = ltb-true 0 (W u y) k in
            let exact : near u + W u y ≡ near y = omega (arith, nears u l, nears y m, nears t end, fars u l) in
            let adds : near y + far y ≡ near t = omega (arith, fars u l, fars y m) in
            let (Q, i) = led m R e (true-leads W n near far t u y k exact adds) in
            let near-t : far y ≢ mark = λ z. omega (arith, nears t end, F.bounded t end) in
            let (q, S, j, all) = on y m (omega arith) (u ∷ x) Q i adds near-t in
            (q, S, j, λ a b h. all a b (rw h (or-true (eqb u a && eqb y b))))
      ])

  -- the times add up at the end of every link of a quickest route
  link-adds : (u y : ℕ) {z : ℕ} {q : List ℕ} → Route W n s (z ∷ q) → time W (z ∷ q) ≡ least_time W n s z → near z + far z ≡ near t → uses u y (z ∷ q) ≡ true →
      near y + far y ≡ near t
  unfolding uses time
  link-adds u y (start l) e b h = absurd (false≢true h)
  link-adds u y (step {t = z} {u = w} {r} l k v R) e b h =
      let T : tight W (least_time W n s) w z ≡ true = last-tight W n s c inside within small (step l k v R) e in
      let f : Tight W (least_time W n s) w z = tight-true W (least_time W n s) w z T in
      go (eqb w u && eqb z y) refl h (λ h. link-adds u y R (omega (arith, f.exact)) (before-adds w z (route-below W n s R) l T b) h)
    where
      go : (a : Bool) → (eqb w u && eqb z y) ≡ a → (a || uses u y (w ∷ r)) ≡ true → (uses u y (w ∷ r) ≡ true → near y + far y ≡ near t) → near y + far y ≡ near t
      go true g h on = rw (← eqb-true z y ((and-eq-true_iff (eqb w u) _).0 g).1) b
      go false g h on = on h

  -- the walk takes exactly the links that lie on a quickest route to t: it enters no dead end
  pub leads-exactly : (u y : ℕ) → u < n → y < n → leads W n near far t u y ≡ ltb 0 (quickest W n s (uses u y) t)
  unfolding quickest uses
  leads-exactly u y k l = bool_iff (leads W n near far t u y) (ltb 0 (quickest W n s (uses u y) t)) f g
    where
      f : leads W n near far t u y ≡ true → ltb 0 (quickest W n s (uses u y) t) ≡ true
      f e =
          let (linked, exact, adds) = leads-true W n near far t u y e in
          let positive : 0 < W u y = ltb-true 0 (W u y) linked in
          let F : Times W n s (least_time W n s) = times W n s c inside within small in
          let (x, R, h) = route-at W n s u k (λ z. omega (arith, nears u k, nears y l, F.bounded y l)) in
          let (P, i) = led l R h e in
          let near-t : far y ≢ mark = λ z. omega (arith, nears t end, F.bounded t end) in
          let (q, Q, j, all) = goes_on y l (u ∷ x) P i adds near-t in
          lt-ltb 0 _ (count-positive (λ r. eqb (time W r) (least_time W n s t) && uses u y r) (routes W n s t) (t ∷ q) (listed W n s Q)
          (rw (eq-eqb _ _ j) (all u y (rw (eq-eqb u u refl, eq-eqb y y refl)))))

      g : ltb 0 (quickest W n s (uses u y) t) ≡ true → leads W n near far t u y ≡ true
      g e =
          let (r, m, h) = positive-count (λ r. eqb (time W r) (least_time W n s t) && uses u y r) (routes W n s t) (ltb-true 0 _ e) in
          let (q, z, R) = found W n s t end r m in
          let (quick, used) = (and-eq-true_iff (eqb (time W (t ∷ q)) (least_time W n s t)) _).0 (rw z at h) in
          let T : Tight W (least_time W n s) u y = tight-true W (least_time W n s) u y (used-tight W n s c inside within small u y R quick used) in
          true-leads W n near far t u y T.linked (omega (arith, T.exact, nears u k, nears y l)) (link-adds u y R (eqb-true _ _ quick) own-adds used)
