-- The walk by times alone, with passing times: it lists the quickest routes, in order, and takes exactly the links that lie on one.
-- Assumes nothing.
use Prim.Native.Nat.{ℕ, zero, suc, ◌+◌, ◌*◌, ◌<◌, ◌≤◌}
use native.Mathlib.Omega.{arith}
use mathlib.Core.Path.{◌≡◌, refl, sym, ◌∙◌, ap, ap₂}
use mathlib.Core.Logic.{◌≢◌}
use mathlib.Core.Bool.{Bool, true, false, cond, ◌||◌, or-true, or-false}
use mathlib.Core.List.{List, [], ◌∷◌, ◌++◌}
use lib.Dec.{eqb, ltb}
use borrow.Author.Tests.{eqb-true, eq-eqb, ltb-true}
use Rattle.routes.specs.Route.{Costs, mark, costs_from, uses, least_time, quickest, quickest_routes}
use Rattle.routes.specs.Equations.{Within, tight}
use Rattle.routes.specs.Walk.{leads, walk}
use Rattle.routes.proofs.Booleans.{bool_iff}
use Rattle.routes.proofs.Sums.{cond-true}
use Rattle.routes.proofs.Tight.{Tight, tight-true, true-tight}
use Rattle.routes.proofs.Times.{times, least-source, next-reached}
use Rattle.routes.proofs.Lists.{join_to-cong}
use Rattle.routes.proofs.Walking.{leads-true, true-leads, walk-lists, leads-exactly}
use Rattle.routes.proofs.Passing.{from-within}
use Rattle.routes.proofs.Arriving.{arriving, stay, arriving-within, mark-arriving, quickest-arriving, routes-arriving, tight-arriving}
use Rattle.routes.proofs.Joined.{spent, adds-alike}

-- the walk asks nothing but which links lead on
walk-cong : (W W' : Costs) (n : ℕ) (near far near' far' : ℕ → ℕ) (t : ℕ) →
    ((u y : ℕ) → u < n → y < n → leads W n near far t u y ≡ leads W' n near' far' t u y) →
    (m : ℕ) (r : List ℕ) (u : ℕ) → u < n → walk W n near far t m r u ≡ walk W' n near' far' t m r u
unfolding walk
walk-cong W W' n near far near' far' t h zero r u l = refl
walk-cong W W' n near far near' far' t h (suc m) r u l =
    ap (cond (eqb u t) ((r ++ (u ∷ [])) ∷ []))
    (join_to-cong n (λ y k. ap₂ (λ b w. cond b w []) (h u y l k) (walk-cong W W' n near far near' far' t h m (r ++ (u ∷ [])) y k)))

-- what a route from s to t still takes from x on: nothing at t, elsewhere passing x and the least time from there
abbrev pub onward : Costs → (ℕ → ℕ) → ℕ → ℕ → ℕ → ℕ → ℕ
onward W p n s t x = cond (eqb x t) 0 (stay p s x + least_time (costs_from W p x) n x t)

module _
    (W : Costs)
    (p : ℕ → ℕ)
    (n s t c c' : ℕ)
    (inside : s < n)
    (end : t < n)
    (within : Within W n c)
    (quick : (v : ℕ) → v < n → p v ≤ c')
    (small : n * (c + c') < mark) where
  abbrev d : ℕ → ℕ → ℕ
  d s t = least_time (costs_from W p s) n s t

  abbrev e : ℕ → ℕ → ℕ
  e s t = least_time (arriving W p) n s t

  -- it is what the route spends passing x, and the least time from there
  pub onward-spent : (x : ℕ) → x < n → onward W p n s t x ≡ spent p s t x + d x t
  onward-spent x l = go (eqb x t) refl
    where
      go : (b : Bool) → eqb x t ≡ b → cond b 0 (stay p s x + d x t) ≡ cond (eqb x s || b) 0 (p x) + d x t
      go true h = omega (arith, cond-true 0 (p x) (or-true (eqb x s)), ap (d x) (eqb-true x t h), least-source (costs_from W p x) n x (c + c') l (from-within W p x n c c' within quick) small)
      go false h = ap (λ b. cond b 0 (p x) + d x t) (sym (or-false (eqb x s)))

  module _
      (near far : ℕ → ℕ)
      (nears : (x : ℕ) → x < n → near x ≡ d s x)
      (fars : (x : ℕ) → x < n → far x ≡ onward W p n s t x) where
    -- the same links lead on as by the costs `arriving`
    leads-alike : (u y : ℕ) → u < n → y < n → leads (arriving W p) n (e s) (λ x. e x t) t u y ≡ leads (costs_from W p s) n near far t u y
    leads-alike u y k l =
        bool_iff (leads (arriving W p) n (e s) (λ x. e x t) t u y) (leads (costs_from W p s) n near far t u y) f g
      where
        A : Within (arriving W p) n (c + c')
        A = arriving-within W p n c c' within quick

        F : Within (costs_from W p s) n (c + c')
        F = from-within W p s n c c' within quick

        top-e : (x : ℕ) → x < n → e s x ≤ mark
        top-e = (times (arriving W p) n s (c + c') inside A small).bounded

        top-d : (x : ℕ) → x < n → d s x ≤ mark
        top-d = (times (costs_from W p s) n s (c + c') inside F small).bounded

        f : leads (arriving W p) n (e s) (λ x. e x t) t u y ≡ true → leads (costs_from W p s) n near far t u y ≡ true
        f h =
            let (linked, exact, adds) = leads-true (arriving W p) n (e s) (λ x. e x t) t u y h in
            let cost : 0 < arriving W p u y = ltb-true 0 (arriving W p u y) linked in
            let from : e s u ≢ mark = λ z. omega (arith, top-e y l) in
            let tied : tight (arriving W p) (e s) u y ≡ true = true-tight (arriving W p) (e s) u y linked from exact in
            let T : Tight (costs_from W p s) (d s) u y = tight-true (costs_from W p s) (d s) u y (sym (tight-arriving W p n s c c' inside within quick small u y k l) ∙ tied) in
            let to : d s y ≢ mark = λ z. omega (arith, mark-arriving W p n s c c' inside within quick small y l z, next-reached (arriving W p) n s (c + c') inside A small u y k l from) in
            let on : d y t ≢ mark = λ z. omega (arith, mark-arriving W p n y c c' l within quick small t end z, top-e t end) in
            let sum : d s y + spent p s t y + d y t ≡ d s t =
            eqb-true _ _ (sym (adds-alike W p n c c' within quick small s y t inside l end to on) ∙ eq-eqb _ _ adds) in
            true-leads (costs_from W p s) n near far t u y T.linked (omega (arith, T.exact, nears u k, nears y l))
            (omega (arith, nears y l, nears t end, fars y l, onward-spent y l))

        g : leads (costs_from W p s) n near far t u y ≡ true → leads (arriving W p) n (e s) (λ x. e x t) t u y ≡ true
        g h =
            let (linked, exact, adds) = leads-true (costs_from W p s) n near far t u y h in
            let cost : 0 < costs_from W p s u y = ltb-true 0 (costs_from W p s u y) linked in
            let same : d s u + costs_from W p s u y ≡ d s y = omega (arith, nears u k, nears y l) in
            let sum : d s y + spent p s t y + d y t ≡ d s t = omega (arith, nears y l, nears t end, fars y l, onward-spent y l) in
            let from : d s u ≢ mark = λ z. omega (arith, top-d y l) in
            let tied : tight (costs_from W p s) (d s) u y ≡ true = true-tight (costs_from W p s) (d s) u y linked from same in
            let T : Tight (arriving W p) (e s) u y = tight-true (arriving W p) (e s) u y (tight-arriving W p n s c c' inside within quick small u y k l ∙ tied) in
            let to : d s y ≢ mark = λ z. omega (arith, next-reached (costs_from W p s) n s (c + c') inside F small u y k l from) in
            let on : d y t ≢ mark = λ z. omega (arith, top-d t end) in
            true-leads (arriving W p) n (e s) (λ x. e x t) t u y T.linked T.exact
            (eqb-true _ _ (adds-alike W p n c c' within quick small s y t inside l end to on ∙ eq-eqb _ _ sum))

    -- the walk lists the quickest routes, in order
    pub walk-lists-from : walk (costs_from W p s) n near far t n [] s ≡ quickest_routes (costs_from W p s) n s t
    walk-lists-from =
        sym (walk-cong (arriving W p) (costs_from W p s) n (e s) (λ x. e x t) near far t leads-alike n [] s inside)
        ∙ walk-lists (arriving W p) n s t (c + c') inside end (arriving-within W p n c c' within quick) small (e s) (λ x. e x t) (λ x l. refl) (λ x l. refl)
        ∙ routes-arriving W p n s c c' inside within quick small t end

    -- it takes exactly the links that lie on a quickest route to t: it enters no dead end
    pub leads-exactly-from : (u y : ℕ) → u < n → y < n → leads (costs_from W p s) n near far t u y ≡ ltb 0 (quickest (costs_from W p s) n s (uses u y) t)
    leads-exactly-from u y k l =
        sym (leads-alike u y k l)
        ∙ leads-exactly (arriving W p) n s t (c + c') inside end (arriving-within W p n c c' within quick) small (e s) (λ x. e x t) (λ x l. refl) (λ x l. refl) u y k l
        ∙ ap (ltb 0) (quickest-arriving W p n s c c' inside within quick small (uses u y) t end)
