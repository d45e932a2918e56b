-- The quickest routes to a stop are those to the stops before it, led on by tight links: E2. Assumes nothing.
use Prim.Native.Nat.{ℕ, suc, ◌+◌, ◌*◌, ◌<◌, min}
use native.Mathlib.Omega.{arith}
use mathlib.Core.Path.{◌≡◌, refl, sym, ◌∙◌, ap, fun_ext}
use mathlib.Core.Logic.{◌≢◌}
use mathlib.Core.Bool.{Bool, true, false, cond, not, ◌&&◌, and_assoc, and-eq-true_iff}
use mathlib.Core.List.{List, ◌∷◌}
use native.Mathlib.Decide.{ℕ_discrete}
use lib.Dec.{eqb}
use borrow.Author.Tests.{eqb-true, eq-eqb, ne_eqb, not-true}
use Rattle.routes.specs.Route.{Costs, mark, link, time, sum_to, count, same, visits, hops, routes, least_time, quickest, ways, through, capped_ways}
use Rattle.routes.specs.Equations.{Within, tight, inflow, Counts}
use Rattle.routes.proofs.Booleans.{bool_iff}
use Rattle.routes.proofs.Sums.{sum_to-cong, flow-sum}
use Rattle.routes.proofs.Tight.{Tight, tight-true, inflow-zero}
use Rattle.routes.proofs.Counting.{sum_to-shift, sum_to-clamp, cond-clamp, count-join, count-cong, count-when}
use Rattle.routes.proofs.Listing.{Route, step, found, hop-found, hops-none, count-hops}
use Rattle.routes.proofs.Times.{cut, least-of, least-source, last-tight, quickest-source, ways-source}

module _ (W : Costs) (n s c : ℕ) (inside : s < n) (within : Within W n c) (small : n * c < mark) where
  -- last link: a route is quickest exactly if its last link is tight and the route before it is quickest
  pub last-link : {t u : ℕ} {r : List ℕ} → Route W n s (t ∷ (u ∷ r))
      → eqb (time W (t ∷ (u ∷ r))) (least_time W n s t) ≡ (tight W (least_time W n s) u t && eqb (time W (u ∷ r)) (least_time W n s u))
  unfolding time
  last-link {t} {u} {r} R =
      bool_iff (eqb (time W (u ∷ r) + W u t) (least_time W n s t)) (tight W (least_time W n s) u t && eqb (time W (u ∷ r)) (least_time W n s u)) f g
    where
      f : eqb (time W (u ∷ r) + W u t) (least_time W n s t) ≡ true → (tight W (least_time W n s) u t && eqb (time W (u ∷ r)) (least_time W n s u)) ≡ true
      f e =
          let a : time W (u ∷ r) + W u t ≡ least_time W n s t = eqb-true _ _ e in
          let h : tight W (least_time W n s) u t ≡ true = last-tight W n s c inside within small R a in
          let T : Tight W (least_time W n s) u t = tight-true W (least_time W n s) u t h in
          (and-eq-true_iff (tight W (least_time W n s) u t) _).1 (h, eq-eqb (time W (u ∷ r)) (least_time W n s u) (omega arith))

      g : (tight W (least_time W n s) u t && eqb (time W (u ∷ r)) (least_time W n s u)) ≡ true → eqb (time W (u ∷ r) + W u t) (least_time W n s t) ≡ true
      g e =
          let (h, a) = (and-eq-true_iff (tight W (least_time W n s) u t) _).0 e in
          let T : Tight W (least_time W n s) u t = tight-true W (least_time W n s) u t h in
          eq-eqb (time W (u ∷ r) + W u t) (least_time W n s t) (omega (arith, eqb-true (time W (u ∷ r)) (least_time W n s u) a))

  -- a quickest route to u is led on by a tight link: it does not visit the stop there
  pub lead-on : {t u : ℕ} {r : List ℕ} → t < n → Route W n s (u ∷ r) → tight W (least_time W n s) u t ≡ true
      → time W (u ∷ r) ≡ least_time W n s u → Route W n s (t ∷ (u ∷ r))
  lead-on {t} {u} {r} l R h e = go (tight-true W (least_time W n s) u t h) (visits t (u ∷ r)) refl
    where
      go : Tight W (least_time W n s) u t → (b : Bool) → visits t (u ∷ r) ≡ b → Route W n s (t ∷ (u ∷ r))
      go T true v = let (q, Q, m) = cut W n s t R v in absurd (omega (arith, least-of W n s Q))
      go T false v = step l T.linked v R

  -- the last link of a route is one, to a stop that the route before it does not visit
  last-linked : {t u : ℕ} {r : List ℕ} → Route W n s (t ∷ (u ∷ r)) → (link W u t ≡ true) × (visits t (u ∷ r) ≡ false)
  last-linked (step l k v R) = (k, v)

  -- the same, asked of the route before the link: the tests of the listing and of E2 agree
  led_on : {u : ℕ} {r : List ℕ} → Route W n s (u ∷ r) → (t : ℕ) → t < n
      → (link W u t && (not (visits t (u ∷ r)) && eqb (time W (t ∷ (u ∷ r))) (least_time W n s t)))
      ≡ (tight W (least_time W n s) u t && eqb (time W (u ∷ r)) (least_time W n s u))
  led_on {u} {r} R t l =
      bool_iff
      (link W u t && (not (visits t (u ∷ r)) && eqb (time W (t ∷ (u ∷ r))) (least_time W n s t)))
      (tight W (least_time W n s) u t && eqb (time W (u ∷ r)) (least_time W n s u))
      (λ e.
      let (k, a) = (and-eq-true_iff (link W u t) _).0 e in
      let (v, q) = (and-eq-true_iff (not (visits t (u ∷ r))) _).0 a in
      sym (last-link (step l k (not-true _ v) R)) ∙ q)
      (λ e.
      let (h, q) = (and-eq-true_iff (tight W (least_time W n s) u t) _).0 e in
      let P : Route W n s (t ∷ (u ∷ r)) = lead-on l R h (eqb-true _ _ q) in
      rw ((last-linked P).0, (last-linked P).1) (last-link P ∙ e))

  -- what the quickest routes of one link more count, by their last link, which is tight
  quick-hops : (p : List ℕ → Bool) (k t : ℕ) → t < n
      → count (λ r. eqb (time W r) (least_time W n s t) && p r) (hops W n s (suc k) t)
      ≡ inflow W n (least_time W n s) (λ u. count (λ r. eqb (time W r) (least_time W n s u) && p (t ∷ r)) (hops W n s k u)) t
  quick-hops p k t l =
      count-hops W n s (λ r. eqb (time W r) (least_time W n s t) && p r) k t
      ∙ sum_to-cong n (λ u m.
      sym (count-when (link W u t) (λ r. not (visits t r) && (eqb (time W (t ∷ r)) (least_time W n s t) && p (t ∷ r))) (hops W n s k u))
      ∙ count-cong (hops W n s k u) (λ r h. tests u m r h)
      ∙ count-when (tight W (least_time W n s) u t) (λ r. eqb (time W r) (least_time W n s u) && p (t ∷ r)) (hops W n s k u))
    where
      regroup : (a b c x y d : Bool) → (a && (b && c)) ≡ (x && y) → (a && (b && (c && d))) ≡ (x && (y && d))
      regroup a b c x y d e = ap (λ z. a && z) (sym (and_assoc b c d)) ∙ sym (and_assoc a (b && c) d) ∙ ap (λ z. z && d) e ∙ and_assoc x y d

      tests : (u : ℕ) → u < n → (r : List ℕ) → 0 < count (same r) (hops W n s k u)
          → (link W u t && (not (visits t r) && (eqb (time W (t ∷ r)) (least_time W n s t) && p (t ∷ r))))
          ≡ (tight W (least_time W n s) u t && (eqb (time W r) (least_time W n s u) && p (t ∷ r)))
      tests u m r h =
          let (q, z, R, _) = hop-found W n s k u m r h in
          rw z (regroup (link W u t) (not (visits t (u ∷ q))) (eqb (time W (t ∷ (u ∷ q))) (least_time W n s t)) (tight W (least_time W n s) u t) (eqb (time W (u ∷ q)) (least_time W n s u)) (p (t ∷ (u ∷ q))) (led_on R t l))

  -- a stop other than s has no route of no link
  none-start : (p : List ℕ → Bool) (t : ℕ) → t ≢ s → count p (hops W n s 0 t) ≡ 0
  unfolding hops count
  none-start p t h = rw (ne_eqb t s h)

  -- E2 for any property: the quickest routes to t are those to the stops before it, led on by tight links
  pub quickest-step : (p : List ℕ → Bool) (t : ℕ) → t < n → t ≢ s
      → quickest W n s p t ≡ inflow W n (least_time W n s) (quickest W n s (λ r. p (t ∷ r))) t
  unfolding quickest routes
  quickest-step p t l h =
      count-join (λ r. eqb (time W r) (least_time W n s t) && p r) n (λ k. hops W n s k t)
      ∙ shift (λ k. count (λ r. eqb (time W r) (least_time W n s t) && p r) (hops W n s k t)) (none-start _ t h) (hops-none W n s _ t l)
      ∙ sum_to-cong n (λ k m. quick-hops p k t l)
      ∙ flow-sum n n (λ u. tight W (least_time W n s) u t) (λ u k. count (λ r. eqb (time W r) (least_time W n s u) && p (t ∷ r)) (hops W n s k u))
      ∙ sum_to-cong n (λ u m.
      ap (λ x. cond (tight W (least_time W n s) u t) x 0)
      (sym (count-join (λ r. eqb (time W r) (least_time W n s u) && p (t ∷ r)) n (λ k. hops W n s k u))))
    where
      shift : (f : ℕ → ℕ) → f 0 ≡ 0 → f n ≡ 0 → sum_to n f ≡ sum_to n (λ k. f (suc k))
      shift f a b = omega (arith, sum_to-shift n f)

  -- properties that agree on the routes to t count alike
  pub quickest-cong : (p q : List ℕ → Bool) (t : ℕ) → t < n → ((r : List ℕ) → Route W n s (t ∷ r) → p (t ∷ r) ≡ q (t ∷ r))
      → quickest W n s p t ≡ quickest W n s q t
  unfolding quickest
  quickest-cong p q t l h = count-cong (routes W n s t) (λ r m.
      let (x, z, R) = found W n s t l r m in
      ap (λ b. eqb (time W r) (least_time W n s t) && b) (rw z (h x R)))

  -- E2 for a property that the last stop does not change
  pub quickest-flow : (p : List ℕ → Bool) (t : ℕ) → t < n → t ≢ s → ((r : List ℕ) → p (t ∷ r) ≡ p r)
      → quickest W n s p t ≡ inflow W n (least_time W n s) (quickest W n s p) t
  quickest-flow p t l h e = quickest-step p t l h ∙ ap (λ q. inflow W n (least_time W n s) (quickest W n s q) t) (fun_ext e)

  -- E2 for the ways, and below for those through v at a stop other than v
  pub ways-flow : (t : ℕ) → t < n → t ≢ s → ways W n s t ≡ inflow W n (least_time W n s) (ways W n s) t
  unfolding ways
  ways-flow t l h = quickest-flow (λ r. true) t l h (λ r. refl)

  -- no tight link leads to the source
  source-inflow : (f : ℕ → ℕ) → inflow W n (least_time W n s) f s ≡ 0
  source-inflow f = inflow-zero W n (least_time W n s) f s (λ u l r. absurd (omega (arith, least-source W n s c inside within small)))

  pub through-flow : (v t : ℕ) → t < n → t ≢ v → through W n s v t ≡ inflow W n (least_time W n s) (through W n s v) t
  unfolding through visits
  through-flow v t l h = elim (ℕ_discrete t s) [ yes e ↦ at_source e | no e ↦ quickest-flow (visits v) t l e (λ r. rw (ne_eqb v t (λ z. h (sym z)))) ]
    where
      at_source : t ≡ s → quickest W n s (visits v) t ≡ inflow W n (least_time W n s) (quickest W n s (visits v)) t
      at_source e =
          rw e (quickest-source W n s c inside within small (visits v) ∙ rw (ne_eqb v s (λ z. h (e ∙ sym z))) (sym (source-inflow (quickest W n s (visits v)))))

  -- the quickest routes to v all pass v
  pub through-own : (v : ℕ) → v < n → through W n s v v ≡ ways W n s v
  unfolding through ways visits
  through-own v l = quickest-cong (visits v) (λ r. true) v l (λ r R. rw (eq-eqb v v refl))

  -- E2 holds for the ways counted up to limit + 1
  pub counts : (limit : ℕ) → Counts W n s limit (least_time W n s) (capped_ways W n s limit)
  counts limit = record {
    source = omega (arith, ways-source W n s c inside within small);
    summed = λ t l h.
        ap (min (suc limit)) (ways-flow t l h)
        ∙ sum_to-clamp (suc limit) n (λ u. cond (tight W (least_time W n s) u t) (ways W n s u) 0)
        ∙ ap (min (suc limit)) (sum_to-cong n (λ u m. cond-clamp (suc limit) (tight W (least_time W n s) u t) (ways W n s u)));
  }
