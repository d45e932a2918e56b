-- One cost function for all sources: each link also takes the passing time of the stop where it ends. A route from s to t then takes
-- p t too, where t is not s; so the quickest routes are the same, and the laws of one cost function hold for passing times.
-- Assumes nothing.
use Prim.Native.Nat.{ℕ, ◌+◌, ◌*◌, ◌<◌, ◌≤◌}
use native.Mathlib.Decide.{ℕ_discrete}
use native.Mathlib.Omega.{arith}
use mathlib.Core.Path.{◌≡◌, refl, sym, ◌∙◌, ap}
use mathlib.Core.Logic.{◌≢◌}
use mathlib.Core.Bool.{Bool, true, cond, ◌&&◌}
use mathlib.Core.List.{List, ◌∷◌, map, reverse}
use lib.Dec.{eqb, ltb}
use borrow.Author.Tests.{eqb-true, eq-eqb}
use Rattle.routes.specs.Route.{Costs, mark, link, time, costs_from, count, chosen, same, in_order, visits, routes, least_time, quickest, quickest_routes, ways, through, used, uses}
use Rattle.routes.specs.Equations.{Within, tight}
use Rattle.routes.proofs.Booleans.{bool_iff}
use Rattle.routes.proofs.Sums.{cond-true, cond-false, sum_to-cong}
use Rattle.routes.proofs.Counting.{count-cong}
use Rattle.routes.proofs.Listing.{Route, start, step, found}
use Rattle.routes.proofs.Times.{source-apart, route-at, least-of, reachable}
use Rattle.routes.proofs.Used.{used-is-tight}
use Rattle.routes.proofs.Passing.{routes-links, route-links, more-link, more-le, chosen-cong, link-from, from-within}

-- the cost of a link with the passing time of its end
abbrev pub arriving : Costs → (ℕ → ℕ) → Costs
arriving W p u v = cond (link W u v) (W u v + p v) 0

-- the passing time of u on a route from s that goes on from u: none at s itself
abbrev pub stay : (ℕ → ℕ) → ℕ → ℕ → ℕ
stay p s u = cond (eqb u s) 0 (p u)

module _ (W : Costs) (p : ℕ → ℕ) where
  -- its links are those of W, and of the costs from each source
  pub link-arriving : (u v : ℕ) → link (arriving W p) u v ≡ link W u v
  link-arriving u v = more-link (W u v) (p v)

  pub links-alike : (s u v : ℕ) → link (arriving W p) u v ≡ link (costs_from W p s) u v
  links-alike s u v = link-arriving u v ∙ sym (link-from W p s u v)

  pub arriving-within : (n c c' : ℕ) → Within W n c → ((v : ℕ) → v < n → p v ≤ c') → Within (arriving W p) n (c + c')
  arriving-within n c c' within quick u v k l = omega (arith, more-le (W u v) (p v), within u v k l, quick v l)

  -- a route from s to t takes the passing time of t more
  pub time-arriving : (n s : ℕ) {t : ℕ} {q : List ℕ} → Route W n s (t ∷ q) → time (arriving W p) (t ∷ q) ≡ time (costs_from W p s) (t ∷ q) + stay p s t
  unfolding time
  time-arriving n s (start l) = omega (arith, cond-true 0 (p s) (eq-eqb s s refl))
  time-arriving n s (step {t} {u} {r} l k v R) =
      omega (
        arith,
        time-arriving n s R,
        cond-true (W u t + p t) 0 k,
        cond-true (W u t + cond (eqb u s) 0 (p u)) 0 k,
        cond-false 0 (p t) (source-apart W n s (step l k v R)),
      )

  module _
      (n s c c' : ℕ)
      (inside : s < n)
      (within : Within W n c)
      (quick : (v : ℕ) → v < n → p v ≤ c')
      (small : n * (c + c') < mark) where
    abbrev d : ℕ → ℕ
    d = least_time (costs_from W p s) n s

    abbrev e : ℕ → ℕ
    e = least_time (arriving W p) n s

    from-route : {r : List ℕ} → Route (costs_from W p s) n s r → Route W n s r
    from-route = route-links (costs_from W p s) W n s (link-from W p s)

    route-from : {r : List ℕ} → Route W n s r → Route (costs_from W p s) n s r
    route-from = route-links W (costs_from W p s) n s (λ u v. sym (link-from W p s u v))

    arriving-route : {r : List ℕ} → Route (arriving W p) n s r → Route W n s r
    arriving-route = route-links (arriving W p) W n s link-arriving

    route-arriving : {r : List ℕ} → Route W n s r → Route (arriving W p) n s r
    route-arriving = route-links W (arriving W p) n s (λ u v. sym (link-arriving u v))

    -- where there is a route, neither least time is the mark
    reached-from : {t : ℕ} {q : List ℕ} → Route W n s (t ∷ q) → d t ≢ mark
    reached-from R = reachable (costs_from W p s) n s (c + c') inside (from-within W p s n c c' within quick) small (route-from R)

    reached-arriving : {t : ℕ} {q : List ℕ} → Route W n s (t ∷ q) → e t ≢ mark
    reached-arriving R = reachable (arriving W p) n s (c + c') inside (arriving-within n c c' within quick) small (route-arriving R)

    -- the mark stands at the same stops
    pub mark-arriving : (t : ℕ) → t < n → d t ≡ mark → e t ≡ mark
    mark-arriving t l h = elim (ℕ_discrete (e t) mark) [
      | yes z ↦ z
      | no z ↦ let (q, R, _) = route-at (arriving W p) n s t l z in absurd (reached-from (arriving-route R) h)
    ]

    pub arriving-mark : (t : ℕ) → t < n → e t ≡ mark → d t ≡ mark
    arriving-mark t l h = elim (ℕ_discrete (d t) mark) [
      | yes z ↦ z
      | no z ↦ let (q, R, _) = route-at (costs_from W p s) n s t l z in absurd (reached-arriving (from-route R) h)
    ]

    -- elsewhere the least time is by the passing time of t more
    pub least-arriving : (t : ℕ) → t < n → d t ≢ mark → e t ≡ d t + stay p s t
    least-arriving t l h =
        let (q, Q, f) = route-at (costs_from W p s) n s t l h in
        let R : Route W n s (t ∷ q) = from-route Q in
        let (q', Q', f') = route-at (arriving W p) n s t l (reached-arriving R) in
        let R' : Route W n s (t ∷ q') = arriving-route Q' in
        omega (
          arith,
          least-of (arriving W p) n s (route-arriving R),
          time-arriving n s R,
          least-of (costs_from W p s) n s (route-from R'),
          time-arriving n s R',
        )

    -- so a route is quickest by the one exactly if it is by the other
    quick-alike : (t : ℕ) → t < n → (r : List ℕ) → 0 < count (same r) (routes (costs_from W p s) n s t) → eqb (time (arriving W p) r) (e t) ≡ eqb (time (costs_from W p s) r) (d t)
    quick-alike t l r m =
        let (q, z, Q) = found (costs_from W p s) n s t l r m in
        let R : Route W n s (t ∷ q) = from-route Q in
        rw (z, time-arriving n s R, least-arriving t l (reached-from R)) (shift (time (costs_from W p s) (t ∷ q)) (d t) (stay p s t))
      where
        shift : (a b k : ℕ) → eqb (a + k) (b + k) ≡ eqb a b
        shift a b k = bool_iff (eqb (a + k) (b + k)) (eqb a b) (λ h. eq-eqb a b (omega (arith, eqb-true (a + k) (b + k) h))) (λ h. eq-eqb (a + k) (b + k) (omega (arith, eqb-true a b h)))

    -- the quickest routes are the same: in number, whatever property they have, and as a list
    pub quickest-arriving : (P : List ℕ → Bool) (t : ℕ) → t < n → quickest (arriving W p) n s P t ≡ quickest (costs_from W p s) n s P t
    unfolding quickest
    quickest-arriving P t l =
        ap (count (λ r. eqb (time (arriving W p) r) (e t) && P r)) (routes-links (arriving W p) (costs_from W p s) n s (links-alike s) t)
        ∙ count-cong (routes (costs_from W p s) n s t) (λ r m. ap (λ b. b && P r) (quick-alike t l r m))

    pub ways-arriving : (t : ℕ) → t < n → ways (arriving W p) n s t ≡ ways (costs_from W p s) n s t
    unfolding ways
    ways-arriving t l = quickest-arriving (λ r. true) t l

    pub through-arriving : (v t : ℕ) → t < n → through (arriving W p) n s v t ≡ through (costs_from W p s) n s v t
    unfolding through
    through-arriving v t l = quickest-arriving (visits v) t l

    pub routes-arriving : (t : ℕ) → t < n → quickest_routes (arriving W p) n s t ≡ quickest_routes (costs_from W p s) n s t
    unfolding quickest_routes
    routes-arriving t l =
        ap (λ l. in_order (map reverse l))
        (ap (chosen (λ r. eqb (time (arriving W p) r) (e t))) (routes-links (arriving W p) (costs_from W p s) n s (links-alike s) t)
        ∙ chosen-cong (routes (costs_from W p s) n s t) (λ r m. quick-alike t l r m))

    -- and so are the tight links
    pub tight-arriving : (u v : ℕ) → u < n → v < n → tight (arriving W p) e u v ≡ tight (costs_from W p s) d u v
    unfolding used
    tight-arriving u v k l =
        sym (used-is-tight (arriving W p) n s (c + c') inside (arriving-within n c c' within quick) small u v k l)
        ∙ ap (ltb 0) (sum_to-cong n (λ t m. quickest-arriving (uses u v) t m))
        ∙ used-is-tight (costs_from W p s) n s (c + c') inside (from-within W p s n c c' within quick) small u v k l
