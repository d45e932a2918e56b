-- The laws that join the routes of two sources, with passing times: the triangle law, useful links, and the ways through a stop as a
-- product. They come from those over one cost function, `arriving`. Assumes nothing.
use Prim.Native.Nat.{ℕ, ◌+◌, ◌*◌, ◌<◌, ◌≤◌}
use native.Mathlib.Decide.{ℕ_discrete}
use native.Mathlib.Omega.{arith}
use mathlib.Core.Path.{◌≡◌, refl, sym, ◌∙◌, ap, ap₂}
use mathlib.Core.Logic.{◌≢◌}
use mathlib.Core.Bool.{Bool, true, false, cond, not, ◌&&◌, ◌||◌, or-true, and-false}
use lib.Dec.{eqb, ltb}
use borrow.Author.Tests.{eqb-true, eqb-false, eq-eqb, ne_eqb}
use Rattle.routes.specs.Route.{Costs, mark, link, costs_from, sum_to, least_time, ways, through, quickest_routes}
use Rattle.routes.specs.Equations.{Within, Times, tight}
use Rattle.routes.proofs.Booleans.{bool_iff}
use Rattle.routes.proofs.Sums.{cond-true, cond-false, sum_to-cong}
use Rattle.routes.proofs.Tight.{Tight, tight-true}
use Rattle.routes.proofs.Times.{times, route-at, reached-on, ways-reached}
use Rattle.routes.proofs.Triangle.{triangle}
use Rattle.routes.proofs.Product.{between, product}
use Rattle.routes.proofs.Listed.{stops_in, listed-stops, without-marks, where-positive, no-ways}
use Rattle.routes.proofs.Passing.{route-links, link-from, from-within}
use Rattle.routes.proofs.Arriving.{arriving, stay, arriving-within, links-alike, mark-arriving, arriving-mark, least-arriving, ways-arriving, through-arriving}

-- what a route from s to t spends passing v: nothing at its ends
abbrev pub spent : (ℕ → ℕ) → ℕ → ℕ → ℕ → ℕ
spent p s t v = cond (eqb v s || eqb v t) 0 (p v)

-- the times add up at v: a quickest route from s to v, passing v, and one from v to t make one from s to t
abbrev pub between_from : Costs → (ℕ → ℕ) → ℕ → ℕ → ℕ → ℕ → Bool
between_from W p n s v t =
    not (eqb (least_time (costs_from W p s) n s v) mark)
    && (not (eqb (least_time (costs_from W p v) n v t) mark)
    && eqb (least_time (costs_from W p s) n s v + spent p s t v + least_time (costs_from W p v) n v t) (least_time (costs_from W p s) n s t))

module _
    (W : Costs)
    (p : ℕ → ℕ)
    (n c c' : ℕ)
    (within : Within W n c)
    (quick : (v : ℕ) → v < n → p v ≤ c')
    (small : n * (c + c') < mark) where
  -- the least time from s to t with passing times, and by the costs `arriving`
  abbrev d : ℕ → ℕ → ℕ
  d s t = least_time (costs_from W p s) n s t

  abbrev e : ℕ → ℕ → ℕ
  e s t = least_time (arriving W p) n s t

  abbrev T : (s : ℕ) → s < n → Times (costs_from W p s) n s (d s)
  T s i = times (costs_from W p s) n s (c + c') i (from-within W p s n c c' within quick) small

  abbrev U : (s : ℕ) → s < n → Times (arriving W p) n s (e s)
  U s i = times (arriving W p) n s (c + c') i (arriving-within W p n c c' within quick) small

  ends : (s t : ℕ) → s < n → t < n → d s t ≢ mark → e s t ≡ d s t + stay p s t
  ends s t i l h = least-arriving W p n s c c' i within quick small t l h

  -- what is reached from a stop that is reached is reached
  joins : (s u t : ℕ) → s < n → u < n → t < n → d s u ≢ mark → d u t ≢ mark → d s t ≢ mark
  joins s u t i j l a b z =
      let (q, R, _) = route-at (costs_from W p u) n u t l b in
      reached-on (arriving W p) n s (c + c') i (arriving-within W p n c c' within quick) small
      (route-links (costs_from W p u) (arriving W p) n u (λ a b. sym (links-alike W p u a b)) R)
      (λ y. a (arriving-mark W p n s c c' i within quick small u j y))
      (mark-arriving W p n s c c' i within quick small t l z)

  -- going on from u by the least times from there, once u is passed, is no quicker than the least time
  pub triangle-from : (s u t : ℕ) → s < n → u < n → t < n → d s t ≤ d s u + stay p s u + d u t
  triangle-from s u t i j l = elim (ℕ_discrete t s) [
    | yes h ↦ omega (arith, ap (d s) h, (T s i).source)
    | no h ↦ elim (ℕ_discrete t u) [
      | yes k ↦ omega (arith, ap (d s) k)
      | no k ↦ elim (ℕ_discrete (d s u) mark) [
        | yes a ↦ omega (arith, (T s i).bounded t l)
        | no a ↦ elim (ℕ_discrete (d u t) mark) [
          | yes b ↦ omega (arith, (T s i).bounded t l)
          | no b ↦ omega (
            arith,
            triangle (arriving W p) n s u (e s) (e u) (U s i) (U u j) t l,
            ends s t i l (joins s u t i j l a b),
            ends s u i j a,
            ends u t j l b,
            cond-false 0 (p t) (ne_eqb t s h),
            cond-false 0 (p t) (ne_eqb t u k),
          )
        ]
      ]
    ]
  ]

  -- a link on a quickest route from any stop costs the least time between its ends
  pub useful-from : (s u v : ℕ) → s < n → u < n → v < n → tight (costs_from W p s) (d s) u v ≡ true → W u v ≡ d u v
  useful-from s u v i j l h =
      let f : Tight (costs_from W p s) (d s) u v = tight-true (costs_from W p s) (d s) u v h in
      let linked : link W u v ≡ true = sym (link-from W p s u v) ∙ f.linked in
      let near : d u u ≢ mark = omega (arith, (T u j).source) in
      omega (
        arith,
        f.exact,
        cond-true (W u v + stay p s u) 0 linked,
        triangle-from s u v i j l,
        (T u j).relaxed u v j l (link-from W p u u v ∙ linked) near,
        (T u j).source,
        cond-true (W u v + stay p u u) 0 linked,
        cond-true 0 (p u) (eq-eqb u u refl),
      )

  -- the time to another stop is not 0
  positive : (s v : ℕ) → s < n → v < n → v ≢ s → d s v ≢ mark → 0 < d s v
  positive s v i j h a =
      let (u, k, g) = (T s i).supported v j h a in
      omega (arith, (tight-true (costs_from W p s) (d s) u v g).rises)

  -- where both parts have a route, their times add up by the one exactly if they do by the other
  pub adds-alike : (s v t : ℕ) → s < n → v < n → t < n → d s v ≢ mark → d v t ≢ mark → eqb (e s v + e v t) (e s t) ≡ eqb (d s v + spent p s t v + d v t) (d s t)
  adds-alike s v t i j l a b = elim (ℕ_discrete v s) [
    | yes h ↦
        let none : spent p s t v ≡ 0 = cond-true 0 (p v) (ap (λ x. x || eqb v t) (eq-eqb v s h)) in
        alike (λ w. omega (arith, ap (d s) h, (T s i).source, ap (λ x. d x t) h)) (λ w. omega (arith, ap (e s) h, (U s i).source, ap (λ x. e x t) h))
    | no h ↦ elim (ℕ_discrete v t) [
      | yes k ↦
          let none : spent p s t v ≡ 0 = cond-true 0 (p v) (ap (λ x. eqb v s || x) (eq-eqb v t k) ∙ or-true (eqb v s)) in
          alike (λ w. omega (arith, ap (d s) k, (T v j).source, ap (d v) k)) (λ w. omega (arith, ap (e s) k, (U v j).source, ap (e v) k))
      | no k ↦
          let far : 0 < d s v = positive s v i j h a in
          let on : stay p s v ≡ p v = cond-false 0 (p v) (ne_eqb v s h) in
          let once : spent p s t v ≡ p v = cond-false 0 (p v) (ap₂ ◌||◌ (ne_eqb v s h) (ne_eqb v t k)) in
          let x : e s v ≡ d s v + stay p s v = ends s v i j a in
          let y : e v t ≡ d v t + stay p v t = ends v t j l b in
          let z : e s t ≡ d s t + stay p s t = ends s t i l (joins s v t i j l a b) in
          let last : stay p v t ≡ p t = cond-false 0 (p t) (ne_eqb t v (λ q. k (sym q))) in
          elim (ℕ_discrete t s) [
            | yes m ↦ alike (λ w. omega (arith, ap (e s) m, (U s i).source)) (λ w. omega (arith, ap (d s) m, (T s i).source))
            | no m ↦ let same : stay p s t ≡ p t = cond-false 0 (p t) (ne_eqb t s m) in alike (λ w. omega arith) (λ w. omega arith)
          ]
    ]
  ]
    where
      alike : (e s v + e v t ≡ e s t → d s v + spent p s t v + d v t ≡ d s t) → (d s v + spent p s t v + d v t ≡ d s t → e s v + e v t ≡ e s t) →
          eqb (e s v + e v t) (e s t) ≡ eqb (d s v + spent p s t v + d v t) (d s t)
      alike f g = bool_iff _ _ (λ q. eq-eqb _ _ (f (eqb-true _ _ q))) (λ q. eq-eqb _ _ (g (eqb-true _ _ q)))

  between-alike : (s v t : ℕ) → s < n → v < n → t < n → between (arriving W p) n s v t ≡ between_from W p n s v t
  between-alike s v t i j l = go (eqb (d s v) mark) refl (eqb (d v t) mark) refl
    where
      go : (a : Bool) → eqb (d s v) mark ≡ a → (b : Bool) → eqb (d v t) mark ≡ b →
          (not (eqb (e s v) mark) && (not (eqb (e v t) mark) && eqb (e s v + e v t) (e s t))) ≡ (not a && (not b && eqb (d s v + spent p s t v + d v t) (d s t)))
      go true x b y = rw (mark-arriving W p n s c c' i within quick small v j (eqb-true _ _ x))
      go false x true y = rw (mark-arriving W p n v c c' j within quick small t l (eqb-true _ _ y)) (and-false (not (eqb (e s v) mark)))
      go false x false y =
          let a : d s v ≢ mark = eqb-false _ _ x in
          let b : d v t ≢ mark = eqb-false _ _ y in
          rw (
            ne_eqb (e s v) mark (λ z. a (arriving-mark W p n s c c' i within quick small v j z)),
            ne_eqb (e v t) mark (λ z. b (arriving-mark W p n v c c' j within quick small t l z)),
          ) (adds-alike s v t i j l a b)

  -- the ways through v: those to it times those on from it, where the times add up, and none elsewhere
  pub product-from : (s v t : ℕ) → s < n → v < n → t < n →
      through (costs_from W p s) n s v t ≡ cond (between_from W p n s v t) (ways (costs_from W p s) n s v * ways (costs_from W p v) n v t) 0
  product-from s v t i j l =
      sym (through-arriving W p n s c c' i within quick small v t l)
      ∙ product (arriving W p) n s v (c + c') i j (arriving-within W p n c c' within quick) small t l
      ∙ rw (between-alike s v t i j l, ways-arriving W p n s c c' i within quick small v j, ways-arriving W p n v c c' j within quick small t l)

  -- without a route there are no ways, so that the mark needs no test
  pub through-adds-from : (s v t : ℕ) → s < n → v < n → t < n →
      through (costs_from W p s) n s v t ≡ cond (eqb (d s v + spent p s t v + d v t) (d s t)) (ways (costs_from W p s) n s v * ways (costs_from W p v) n v t) 0
  through-adds-from s v t i j l =
      product-from s v t i j l
      ∙ without-marks (d s v) (d v t) (ways (costs_from W p s) n s v) (ways (costs_from W p v) n v t) _ (none s v i j) (none v t j l)
    where
      none : (s t : ℕ) → s < n → t < n → d s t ≡ mark → ways (costs_from W p s) n s t ≡ 0
      none s t i l = no-ways (costs_from W p s) n s (c + c') i (from-within W p s n c c' within quick) small t l

  -- so the stops of all quickest routes are a sum over all stops
  pub listed-sum-from : (s t : ℕ) → s < n → t < n →
      stops_in (quickest_routes (costs_from W p s) n s t)
      ≡ sum_to n (λ v. cond (eqb (d s v + spent p s t v + d v t) (d s t)) (ways (costs_from W p s) n s v * ways (costs_from W p v) n v t) 0)
  listed-sum-from s t i l = listed-stops (costs_from W p s) n s t l ∙ sum_to-cong n (λ v j. through-adds-from s v t i j l)

  -- and where there is a route, the times add up at v exactly if some quickest route passes v
  pub passes-exactly-from : (s v t : ℕ) → s < n → v < n → t < n → d s t ≢ mark →
      eqb (d s v + spent p s t v + d v t) (d s t) ≡ ltb 0 (through (costs_from W p s) n s v t)
  passes-exactly-from s v t i j l h = rw (through-adds-from s v t i j l) (where-positive _ (ways (costs_from W p s) n s v) (ways (costs_from W p v) n v t) reached)
    where
      some : (s t : ℕ) → s < n → t < n → d s t ≢ mark → 0 < ways (costs_from W p s) n s t
      some s t i l = (ways-reached (costs_from W p s) n s (c + c') i (from-within W p s n c c' within quick) small t l).1

      reached : eqb (d s v + spent p s t v + d v t) (d s t) ≡ true → (0 < ways (costs_from W p s) n s v) × (0 < ways (costs_from W p v) n v t)
      reached q =
          let sum : d s v + spent p s t v + d v t ≡ d s t = eqb-true _ _ q in
          let low : d s t ≤ mark = (T s i).bounded t l in
          (some s v i j (λ z. h (omega arith)), some v t j l (λ z. h (omega arith)))
