-- A quickest route from s uses a link exactly if the link is tight. Assumes nothing.
use Prim.Native.Nat.{ℕ, ◌*◌, ◌<◌}
use mathlib.Core.Path.{◌≡◌, refl, sym, ◌∙◌}
use mathlib.Core.Bool.{Bool, true, false, ◌&&◌, ◌||◌, and-eq-true_iff, false≢true}
use mathlib.Core.List.{List, ◌∷◌}
use lib.Dec.{eqb, ltb}
use borrow.Author.Tests.{eqb-true, eq-eqb, ltb-true, lt-ltb}
use Rattle.routes.specs.Route.{Costs, mark, time, sum_to, uses, routes, least_time, quickest, used}
use Rattle.routes.specs.Equations.{Within, tight}
use Rattle.routes.proofs.Booleans.{bool_iff}
use Rattle.routes.proofs.Sums.{sum_to-positive, positive-sum_to}
use Rattle.routes.proofs.Tight.{tight-true}
use Rattle.routes.proofs.Counting.{positive-count, count-positive}
use Rattle.routes.proofs.Listing.{Route, start, step, found, listed}
use Rattle.routes.proofs.Times.{route-at}
use Rattle.routes.proofs.Ways.{last-link, lead-on}

module _ (W : Costs) (n s c : ℕ) (inside : s < n) (within : Within W n c) (small : n * c < mark) where
  -- every link of a quickest route is tight
  pub used-tight : (u v : ℕ) {t : ℕ} {q : List ℕ} → Route W n s (t ∷ q) → eqb (time W (t ∷ q)) (least_time W n s t) ≡ true
      → uses u v (t ∷ q) ≡ true → tight W (least_time W n s) u v ≡ true
  unfolding uses
  used-tight u v (start l) e h = absurd (false≢true h)
  used-tight u v (step {t} {u = x} {r} l k w R) e h =
      let (a, b) = (and-eq-true_iff (tight W (least_time W n s) x t) _).0 (sym (last-link W n s c inside within small (step l k w R)) ∙ e) in
      go (eqb x u && eqb t v) refl h a (λ h. used-tight u v R b h)
    where
      go : (z : Bool) → (eqb x u && eqb t v) ≡ z → (z || uses u v (x ∷ r)) ≡ true → tight W (least_time W n s) x t ≡ true
          → (uses u v (x ∷ r) ≡ true → tight W (least_time W n s) u v ≡ true) → tight W (least_time W n s) u v ≡ true
      go true z h a f =
          let (p, q) = (and-eq-true_iff (eqb x u) _).0 z in
          rw (← eqb-true x u p, ← eqb-true t v q) a
      go false z h a f = f h

  -- a tight link is used: by a quickest route to its end
  pub tight-used : (u v : ℕ) → u < n → v < n → tight W (least_time W n s) u v ≡ true → 0 < quickest W n s (uses u v) v
  unfolding quickest uses
  tight-used u v l m h =
      let (q, R, e) = route-at W n s u l (tight-true W (least_time W n s) u v h).reached in
      let P : Route W n s (v ∷ (u ∷ q)) = lead-on W n s c inside within small m R h e in
      let quick : eqb (time W (v ∷ (u ∷ q))) (least_time W n s v) ≡ true =
      last-link W n s c inside within small P
      ∙ (and-eq-true_iff (tight W (least_time W n s) u v) _).1 (h, eq-eqb (time W (u ∷ q)) (least_time W n s u) e) in
      count-positive (λ r. eqb (time W r) (least_time W n s v) && uses u v r) (routes W n s v) (v ∷ (u ∷ q)) (listed W n s P)
      (rw (quick, eq-eqb u u refl, eq-eqb v v refl))

  -- some quickest route uses the link exactly if it is tight
  pub used-is-tight : (u v : ℕ) → u < n → v < n → used W n s u v ≡ tight W (least_time W n s) u v
  unfolding used quickest
  used-is-tight u v l m = bool_iff (ltb 0 (sum_to n (quickest W n s (uses u v)))) (tight W (least_time W n s) u v) f g
    where
      f : ltb 0 (sum_to n (quickest W n s (uses u v))) ≡ true → tight W (least_time W n s) u v ≡ true
      f e =
          let (t, k, a) = sum_to-positive n (quickest W n s (uses u v)) (ltb-true 0 _ e) in
          let (r, b, h) = positive-count (λ r. eqb (time W r) (least_time W n s t) && uses u v r) (routes W n s t) a in
          let (q, z, R) = found W n s t k r b in
          let (x, y) = (and-eq-true_iff (eqb (time W (t ∷ q)) (least_time W n s t)) (uses u v (t ∷ q))).0 (rw z at h) in
          used-tight u v R x y

      g : tight W (least_time W n s) u v ≡ true → ltb 0 (sum_to n (quickest W n s (uses u v))) ≡ true
      g h = lt-ltb 0 (sum_to n (quickest W n s (uses u v))) (positive-sum_to n (quickest W n s (uses u v)) v m (tight-used u v l m h))
