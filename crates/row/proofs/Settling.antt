-- Dijkstra's algorithm over functions of the stops: what holds between two turns of the settle loop, and that a turn keeps it.
-- D are the least times and σ the ways, counted up to limit + 1. Assumes nothing.
use Prim.Native.Nat.{ℕ, suc, ◌+◌, ◌<◌, ◌≤◌, zero-le, min}
use mathlib.Core.Path.{◌≡◌, refl, sym, ap, ◌∙◌}
use mathlib.Core.Logic.{◌≢◌}
use mathlib.Core.Bool.{Bool, true, false, cond, not, ◌&&◌, ◌||◌, and-true, and-false, or-true, or-false, and-eq-true_iff, true≢false, false≢true}
use native.Mathlib.Nat.{le_refl, lt_irrefl, not-suc-le-zero, zero-add}
use native.Mathlib.Omega.{arith}
use lib.Dec.{eqb, ltb, leb}
use borrow.Author.Tests.{eqb-true, eqb-false, eq-eqb, ne_eqb, ltb-true, ltb-false, leb-true, leb-false, le-leb, not-true, not-false}
use Rattle.routes.specs.Route.{Costs, mark, link, sum_to}
use Rattle.routes.specs.Equations.{tight, inflow, Times, Counts}
use Rattle.routes.proofs.Booleans.{bool_iff, both}
use Rattle.routes.proofs.Sums.{cond-true, cond-false, cond-cong, sum_to-cong, flow-zero}
use Rattle.routes.proofs.Tight.{tight-true, true-tight, up-ind, inflow-zero}
use Rattle.routes.proofs.Bits.{split}
use Rattle.row.specs.Settled.{seed}

seed-le : (s t : ℕ) → seed s t ≤ 1
seed-le s t = split (eqb t s) (λ e. rw e (le_refl 1)) (λ e. rw e zero-le)

-- a test of three, both ways
and-three : (a b c : Bool) → (a && (b && c)) ≡ true → (a ≡ true) × (b ≡ true) × (c ≡ true)
and-three true b c h = (refl, ((and-eq-true_iff b c).0 h).0, ((and-eq-true_iff b c).0 h).1)
and-three false b c h = absurd (false≢true h)

three-and : {a b c : Bool} → a ≡ true → b ≡ true → c ≡ true → (a && (b && c)) ≡ true
three-and p q r = rw (p, q, r)

neither : (a b : Bool) → (a || b) ≡ false → (a ≡ false) × (b ≡ false)
neither true b h = absurd (true≢false h)
neither false b h = (refl, h)

-- an unsettled stop takes the lower of its time x and the offer v, where a link (k) makes one
record Lowered (k : Bool) (v x y : ℕ) : Type 0 where
  lower : y ≤ x
  taken : k ≡ true → y ≤ v
  least : (z : ℕ) → z ≤ x → (k ≡ true → z ≤ v) → z ≤ y
  kept : k ≡ false → y ≡ x

lowered : (k : Bool) (v x y : ℕ) → y ≡ cond k (min v x) x → Lowered k v x y
lowered true v x y e = record { lower = omega arith; taken = λ _. omega arith; least = λ z h g. omega (arith, g refl); kept = λ h. absurd (true≢false h) }
lowered false v x y e = record { lower = omega arith; taken = λ h. absurd (false≢true h); least = λ z h g. omega arith; kept = λ h. e }

-- its predecessors then: those found before (q) where the time stays, and the stop that made the offer (e) where its offer is the time
joined : (k q e : Bool) (v x y : ℕ) → y ≡ cond k (min v x) x
    → cond k (cond (ltb v x) false q || (leb v x && e)) q ≡ ((q && eqb x y) || (e && (k && eqb v y)))
joined false q e v x y h = sym (rw (eq-eqb x y (sym h), and-true, and-false) (or-false q))
joined true q e v x y h =
    split (ltb v x)
    (λ l. let less = ltb-true v x l in
    rw (l, le-leb v x (omega arith), ne_eqb x y (omega arith), eq-eqb v y (omega arith), and-false) (sym (and-true e)))
    λ l. let most = ltb-false v x l in
    split (leb v x)
    (λ m. let least = leb-true v x m in
    rw (l, m, eq-eqb x y (omega arith), eq-eqb v y (omega arith)) (simp and-true))
    λ m. let more = leb-false v x m in
    rw (l, m, eq-eqb x y (omega arith), ne_eqb v y (omega arith)) (simp (and-true, and-false))

-- S are the settled stops, F the frontier, P t the predecessors found for t, d the times and w the counts so far
pub record Settling (W : Costs) (n s : ℕ) (D σ : ℕ → ℕ) (S F : ℕ → Bool) (P : ℕ → ℕ → Bool) (d w : ℕ → ℕ) : Type 0 where
  pub source : d s ≡ 0
  -- a settled stop is right
  pub inside : (t : ℕ) → S t ≡ true → t < n
  pub right : (t : ℕ) → S t ≡ true → d t ≡ D t
  pub reached : (t : ℕ) → S t ≡ true → D t ≢ mark
  pub counted : (t : ℕ) → S t ≡ true → w t ≡ σ t
  pub linked : (t u : ℕ) → S t ≡ true → u < n → P t u ≡ tight W D u t
  -- another stop has the best offer of the settled ones
  pub above : (t : ℕ) → t < n → D t ≤ d t
  pub bounded : (t : ℕ) → t < n → d t ≤ mark
  pub relaxed : (u t : ℕ) → t < n → S u ≡ true → S t ≡ false → link W u t ≡ true → d t ≤ D u + W u t
  pub parents : (t u : ℕ) → t < n → u < n → S t ≡ false → P t u ≡ (S u && (link W u t && eqb (D u + W u t) (d t)))
  pub ahead : (u t : ℕ) → t < n → S u ≡ true → S t ≡ false → D u ≤ d t
  pub none : (t : ℕ) → t < n → S t ≡ false → w t ≡ seed s t
  pub frontier : (t : ℕ) → t < n → F t ≡ (not (S t) && not (eqb (d t) mark))

module _ (W : Costs) (n s limit : ℕ) (D σ : ℕ → ℕ) (E1 : Times W n s D) (E2 : Counts W n s limit D σ)
    (near : (u t : ℕ) → u < n → t < n → D u ≢ mark → D u + W u t < mark) where
  -- before the first turn the frontier is the source alone
  pub settling-starts : (S F : ℕ → Bool) (P : ℕ → ℕ → Bool) (d w : ℕ → ℕ) → s < n → ((t : ℕ) → S t ≡ false) → ((t : ℕ) → t < n → F t ≡ eqb t s)
      → ((t u : ℕ) → t < n → P t u ≡ false) → ((t : ℕ) → t < n → d t ≡ cond (eqb t s) 0 mark) → ((t : ℕ) → t < n → w t ≡ seed s t) → Settling W n s D σ S F P d w
  settling-starts S F P d w ls none first empty times counts =
      record {
        source = times s ls ∙ rw (eq-eqb s s refl);
        inside = λ t h. absurd (both h (none t));
        right = λ t h. absurd (both h (none t));
        reached = λ t h. absurd (both h (none t));
        counted = λ t h. absurd (both h (none t));
        linked = λ t u h. absurd (both h (none t));
        above = λ t l. start-above t l (eqb t s) refl;
        bounded = λ t l. start-bounded t l (eqb t s) refl;
        relaxed = λ u t l h. absurd (both h (none u));
        parents = λ t u l k f. rw (none u) (empty t u l);
        ahead = λ u t l h. absurd (both h (none u));
        none = λ t l f. counts t l;
        frontier = λ t l. rw (none t, first t l) (start-frontier t l (eqb t s) refl);
      }
    where
      start-above : (t : ℕ) → t < n → (e : Bool) → eqb t s ≡ e → D t ≤ d t
      start-above t l true e = omega (arith, ap D (eqb-true t s e), E1.source)
      start-above t l false e = omega (arith, times t l, cond-false 0 mark e, E1.bounded t l)

      start-bounded : (t : ℕ) → t < n → (e : Bool) → eqb t s ≡ e → d t ≤ mark
      start-bounded t l true e = omega (arith, times t l, cond-true 0 mark e)
      start-bounded t l false e = omega (arith, times t l, cond-false 0 mark e)

      start-frontier : (t : ℕ) → t < n → (e : Bool) → eqb t s ≡ e → e ≡ not (eqb (d t) mark)
      start-frontier t l true e = rw (times t l, e)
      start-frontier t l false e = rw (times t l, e)

  module _ (S F : ℕ → Bool) (P : ℕ → ℕ → Bool) (d w : ℕ → ℕ) (state : Settling W n s D σ S F P d w) where
    -- what no unsettled stop's offer is below, no unsettled stop's least time is below
    unsettled-above : (y : ℕ) → y ≤ mark → ((t : ℕ) → t < n → S t ≡ false → y ≤ d t) → (t : ℕ) → t < n → S t ≡ false → y ≤ D t
    unsettled-above y top low = up-ind D n λ t l lower f.
        split (eqb t s) (λ e. omega (arith, low t l f, ap d (eqb-true t s e), ap D (eqb-true t s e), state.source, E1.source)) λ e.
        split (eqb (D t) mark) (λ m. omega (arith, eqb-true (D t) mark m)) λ m.
        let (u, lu, h) = E1.supported t l (eqb-false t s e) (eqb-false (D t) mark m) in
        let q = tight-true W D u t h in
        split (S u)
        (λ su. omega (arith, low t l f, state.relaxed u t l su f q.linked, q.exact))
        (λ su. omega (arith, lower u lu q.rises su, q.rises))

    -- where the frontier is empty, every row is right and every stop that is reached is settled
    module _ (empty : (t : ℕ) → t < n → F t ≡ false) where
      left_out : (t : ℕ) → t < n → S t ≡ false → d t ≡ mark
      left_out t l f =
          eqb-true (d t) mark (not-false _ (rw f at (sym (state.frontier t l) ∙ empty t l)))

      unreached : (t : ℕ) → t < n → S t ≡ false → D t ≡ mark
      unreached t l f =
          omega (arith, unsettled-above mark (le_refl mark) (λ u k g. omega (arith, left_out u k g)) t l f, E1.bounded t l)

      pub ends-settled : (t : ℕ) → t < n → D t ≢ mark → S t ≡ true
      ends-settled t l r = split (S t) (λ h. h) λ f. absurd (r (unreached t l f))

      pub ends-timed : (t : ℕ) → t < n → d t ≡ D t
      ends-timed t l = split (S t) (state.right t) λ f. left_out t l f ∙ sym (unreached t l f)

      pub ends-counted : (t : ℕ) → t < n → w t ≡ σ t
      ends-counted t l =
          split (S t) (state.counted t) λ f.
          let far = unreached t l f in
          let other : t ≢ s = λ e. lt_irrefl 0 (omega (arith, ap D e, E1.source)) in
          let none : inflow W n D σ t ≡ 0 = flow-zero n (λ u. tight W D u t) σ λ u k h.
          let q = tight-true W D u t h in
          absurd (lt_irrefl mark (omega (arith, near u t k l q.reached, q.exact))) in
          omega (arith, state.none t l f, cond-false {A = ℕ} 1 0 (ne_eqb t s other), E2.summed t l other)

    -- a settled stop comes before every unsettled one
    pub settled-first : (u t : ℕ) → t < n → S u ≡ true → S t ≡ false → d t ≡ D t → D u ≤ D t
    settled-first u t l h f e = omega (arith, state.ahead u t l h f)

    -- no count is above limit + 1
    pub counts-capped : (t : ℕ) → t < n → ((t : ℕ) → σ t ≤ suc limit) → w t ≤ suc limit
    counts-capped t l top =
        split (S t) (λ h. omega (arith, state.counted t h, top t)) λ f. omega (arith, state.none t l f, seed-le s t)

    -- the nearest stop b of the frontier
    module _ (b : ℕ) (lb : b < n) (fb : F b ≡ true) (low : (t : ℕ) → t < n → F t ≡ true → d b ≤ d t) where
      pub b-waits : (S b ≡ false) × (d b ≢ mark)
      b-waits =
          let (f, m) = (and-eq-true_iff (not (S b)) (not (eqb (d b) mark))).0 (sym (state.frontier b lb) ∙ fb) in
          (not-true (S b) f, eqb-false (d b) mark (not-true _ m))

      -- it comes before every unsettled stop
      b-first : (t : ℕ) → t < n → S t ≡ false → d b ≤ d t
      b-first t l f =
          split (eqb (d t) mark) (λ m. omega (arith, eqb-true (d t) mark m, state.bounded b lb)) λ m.
          low t l (state.frontier t l ∙ rw (f, m))

      -- its time is right
      pub b-right : d b ≡ D b
      b-right = omega (arith, unsettled-above (d b) (state.bounded b lb) b-first b lb b-waits.0, state.above b lb)

      pub b-reached : D b ≢ mark
      b-reached e = b-waits.1 (b-right ∙ e)

      -- a stop of less time is settled
      b-after : (u : ℕ) → u < n → D u < D b → S u ≡ true
      b-after u l r =
          split (S u) (λ e. e) λ f.
          absurd (lt_irrefl (D u) (omega (arith, unsettled-above (d b) (state.bounded b lb) b-first u l f, b-right)))

      -- its predecessors are right
      b-linked : (u : ℕ) → u < n → P b u ≡ tight W D u b
      b-linked u l = state.parents b u lb l b-waits.0 ∙ bool_iff _ _ there back
        where
          there : (S u && (link W u b && eqb (D u + W u b) (d b))) ≡ true → tight W D u b ≡ true
          there h =
              let (su, k, e) = and-three (S u) (link W u b) _ h in
              true-tight W D u b k (state.reached u su) (eqb-true _ _ e ∙ b-right)

          back : tight W D u b ≡ true → (S u && (link W u b && eqb (D u + W u b) (d b))) ≡ true
          back h =
              let q = tight-true W D u b h in
              three-and (b-after u l q.rises) q.linked (eq-eqb _ _ (q.exact ∙ sym b-right))

      -- its count is right
      b-counted : min (suc limit) (w b + sum_to n (λ u. cond (P b u) (w u) 0)) ≡ σ b
      b-counted = rw (sum, state.none b lb b-waits.0) (split (eqb b s) first later)
        where
          sum : sum_to n (λ u. cond (P b u) (w u) 0) ≡ inflow W n D σ b
          sum = sum_to-cong n λ u l. rw (b-linked u l) (cond-cong (tight W D u b) λ h.
              state.counted u (b-after u l (tight-true W D u b h).rises))

          first : eqb b s ≡ true → min (suc limit) (seed s b + inflow W n D σ b) ≡ σ b
          first e =
              let same = eqb-true b s e in
              let empty : inflow W n D σ b ≡ 0 = inflow-zero W n D σ b λ u l r. absurd (not-suc-le-zero (rw (same, E1.source) at r)) in
              omega (arith, empty, cond-true {A = ℕ} 1 0 e, ap σ same, E2.source)

          later : eqb b s ≡ false → min (suc limit) (seed s b + inflow W n D σ b) ≡ σ b
          later e = rw (cond-false {A = ℕ} 1 0 e, zero-add) (sym (E2.summed b lb (eqb-false b s e)))

      -- the turn: b is settled and offers its links to the unsettled stops
      module _ (S' F' : ℕ → Bool) (P' : ℕ → ℕ → Bool) (d' w' : ℕ → ℕ) (ls : s < n)
          (settles : (t : ℕ) → S' t ≡ (S t || eqb t b))
          (tallies : w' b ≡ min (suc limit) (w b + sum_to n (λ u. cond (P b u) (w u) 0)))
          (keeps : (t : ℕ) → t ≢ b → w' t ≡ w t)
          (lowers : (t : ℕ) → t < n → d' t ≡ cond (link W b t && not (S' t)) (min (d b + W b t) (d t)) (d t))
          (joins : (t u : ℕ) → t < n → u < n → P' t u ≡ cond (link W b t && not (S' t)) (cond (ltb (d b + W b t) (d t)) false (P t u) || (leb (d b + W b t) (d t) && eqb u b)) (P t u))
          (moves : (t : ℕ) → t < n → F' t ≡ ((F t || (link W b t && not (S' t))) && not (eqb t b))) where
        was : (A : Type 0) (t : ℕ) → S' t ≡ true → (S t ≡ true → A) → (t ≡ b → A) → A
        was A t h f g = split (S t) f λ e. g (eqb-true t b (sym (rw e at (settles t)) ∙ h))

        wasn't : (t : ℕ) → S' t ≡ false → (S t ≡ false) × (t ≢ b)
        wasn't t h = let (f, e) = neither (S t) (eqb t b) (sym (settles t) ∙ h) in (f, eqb-false t b e)

        -- a settled stop keeps its time and its predecessors
        stays : (t : ℕ) → t < n → S' t ≡ true → d' t ≡ d t
        stays t l h = lowers t l ∙ rw (h, and-false)

        stays-linked : (t u : ℕ) → t < n → u < n → S' t ≡ true → P' t u ≡ P t u
        stays-linked t u l lu h = joins t u l lu ∙ rw (h, and-false)

        takes : (t : ℕ) → t < n → S' t ≡ false → d' t ≡ cond (link W b t) (min (D b + W b t) (d t)) (d t)
        takes t l h = lowers t l ∙ rw (h, and-true, b-right)

        parents' : (t u : ℕ) → t < n → u < n → S' t ≡ false → P' t u ≡ ((P t u && eqb (d t) (d' t)) || (eqb u b && (link W b t && eqb (D b + W b t) (d' t))))
        parents' t u l lu h = joins t u l lu ∙ rw (h, and-true, b-right) (joined (link W b t) (P t u) (eqb u b) (D b + W b t) (d t) (d' t) (takes t l h))

        offer : (t : ℕ) → t < n → S' t ≡ false → Lowered (link W b t) (D b + W b t) (d t) (d' t)
        offer t l h = lowered (link W b t) (D b + W b t) (d t) (d' t) (takes t l h)

        -- no time rises, and none falls below what is under it and under its offer
        falls : (t : ℕ) → t < n → d' t ≤ d t
        falls t l = split (S' t) (λ h. omega (arith, stays t l h)) λ h. (offer t l h).lower

        floor : (z t : ℕ) → t < n → z ≤ d t → (link W b t ≡ true → z ≤ D b + W b t) → z ≤ d' t
        floor z t l x v = split (S' t) (λ h. omega (arith, stays t l h)) λ h. (offer t l h).least z x v

        source' : d' s ≡ 0
        source' = omega (arith, falls s ls, state.source)

        right' : (t : ℕ) → S' t ≡ true → d t ≡ D t
        right' t h = was (d t ≡ D t) t h (state.right t) (λ e. rw e b-right)

        inside' : (t : ℕ) → S' t ≡ true → t < n
        inside' t h = was (t < n) t h (state.inside t) (λ e. rw e lb)

        counted' : (t : ℕ) → S' t ≡ true → w' t ≡ σ t
        counted' t h =
            was (w' t ≡ σ t) t h
            (λ f. keeps t (λ e. both f (rw e b-waits.0)) ∙ state.counted t f)
            (λ e. rw e (tallies ∙ b-counted))

        linked' : (t u : ℕ) → S' t ≡ true → u < n → P' t u ≡ tight W D u t
        linked' t u h l =
            stays-linked t u (inside' t h) l h
            ∙ was (P t u ≡ tight W D u t) t h (λ f. state.linked t u f l) (λ e. rw e (b-linked u l))

        above' : (t : ℕ) → t < n → D t ≤ d' t
        above' t l = floor (D t) t l (state.above t l) λ k. E1.relaxed b t lb l k b-reached

        relaxed' : (u t : ℕ) → t < n → S' u ≡ true → S' t ≡ false → link W u t ≡ true → d' t ≤ D u + W u t
        relaxed' u t l hu ht k =
            was (d' t ≤ D u + W u t) u hu
            (λ f. omega (arith, falls t l, state.relaxed u t l f (wasn't t ht).0 k))
            (λ e. rw e ((offer t l ht).taken (rw e at k)))

        -- settled stops are not after b, nor unsettled ones before it
        ahead' : (u t : ℕ) → t < n → S' u ≡ true → S' t ≡ false → D u ≤ d' t
        ahead' u t l hu ht =
            let first : D u ≤ D b = was (D u ≤ D b) u hu (λ f. omega (arith, state.ahead u b lb f b-waits.0, b-right)) (λ e. rw e (le_refl (D b))) in
            floor (D u) t l (omega (arith, first, b-right, b-first t l (wasn't t ht).0)) λ k. omega arith

        none' : (t : ℕ) → t < n → S' t ≡ false → w' t ≡ seed s t
        none' t l h = keeps t (wasn't t h).1 ∙ state.none t l (wasn't t h).0

        parents'' : (t u : ℕ) → t < n → u < n → S' t ≡ false → P' t u ≡ (S' u && (link W u t && eqb (D u + W u t) (d' t)))
        parents'' t u l lu h = parents' t u l lu h ∙ split (eqb u b) from-b from-other
          where
            found : P t u ≡ (S u && (link W u t && eqb (D u + W u t) (d t)))
            found = state.parents t u l lu (wasn't t h).0

            from-b : eqb u b ≡ true → ((P t u && eqb (d t) (d' t)) || (eqb u b && (link W b t && eqb (D b + W b t) (d' t)))) ≡ (S' u && (link W u t && eqb (D u + W u t) (d' t)))
            from-b e =
                let same = eqb-true u b e in
                let waits : S u ≡ false = rw same b-waits.0 in
                rw (found, settles u, waits, e, same)

            from-other : eqb u b ≡ false → ((P t u && eqb (d t) (d' t)) || (eqb u b && (link W b t && eqb (D b + W b t) (d' t)))) ≡ (S' u && (link W u t && eqb (D u + W u t) (d' t)))
            from-other e =
                rw (found, settles u, e) (simp or-false (bool_iff _ _ there back))
              where
                there : ((S u && (link W u t && eqb (D u + W u t) (d t))) && eqb (d t) (d' t)) ≡ true → (S u && (link W u t && eqb (D u + W u t) (d' t))) ≡ true
                there g =
                    let (p, q) = (and-eq-true_iff (S u && (link W u t && eqb (D u + W u t) (d t))) (eqb (d t) (d' t))).0 g in
                    let (a, k, m) = and-three (S u) (link W u t) (eqb (D u + W u t) (d t)) p in
                    three-and a k (eq-eqb (D u + W u t) (d' t) (eqb-true (D u + W u t) (d t) m ∙ eqb-true (d t) (d' t) q))

                back : (S u && (link W u t && eqb (D u + W u t) (d' t))) ≡ true → ((S u && (link W u t && eqb (D u + W u t) (d t))) && eqb (d t) (d' t)) ≡ true
                back g =
                    let (a, k, m) = and-three (S u) (link W u t) (eqb (D u + W u t) (d' t)) g in
                    let new = eqb-true (D u + W u t) (d' t) m in
                    let same : d t ≡ d' t = omega (arith, state.relaxed u t l a (wasn't t h).0 k, falls t l) in
                    (and-eq-true_iff (S u && (link W u t && eqb (D u + W u t) (d t))) (eqb (d t) (d' t))).1 (three-and a k (eq-eqb (D u + W u t) (d t) (new ∙ sym same)), eq-eqb (d t) (d' t) same)

        frontier' : (t : ℕ) → t < n → F' t ≡ (not (S' t) && not (eqb (d' t) mark))
        frontier' t l = moves t l ∙ split (S' t) settled waiting
          where
            settled : S' t ≡ true → ((F t || (link W b t && not (S' t))) && not (eqb t b)) ≡ (not (S' t) && not (eqb (d' t) mark))
            settled h =
                rw (h, and-false, or-false)
                (was ((F t && not (eqb t b)) ≡ false) t h (λ f. rw (state.frontier t l, f)) (λ e. rw (eq-eqb t b e) (and-false (F t))))

            waiting : S' t ≡ false → ((F t || (link W b t && not (S' t))) && not (eqb t b)) ≡ (not (S' t) && not (eqb (d' t) mark))
            waiting h =
                let o = offer t l h in
                rw (h, ne_eqb t b (wasn't t h).1, state.frontier t l, (wasn't t h).0)
                (simp and-true (split (eqb (d' t) mark)
                (λ m. let far = eqb-true (d' t) mark m in
                split (link W b t)
                (λ k. absurd (lt_irrefl mark (omega (arith, o.taken k, near b t lb l b-reached))))
                (λ k. rw (m, k, eq-eqb (d t) mark (omega (arith, o.lower, state.bounded t l)))))
                (λ m. let close = eqb-false (d' t) mark m in
                split (link W b t)
                (λ k. rw (m, k) (or-true (not (eqb (d t) mark))))
                (λ k. rw (m, k, ne_eqb (d t) mark (λ e. close (o.kept k ∙ e)))))))

        -- the turn keeps what holds
        pub settles-next : Settling W n s D σ S' F' P' d' w'
        settles-next =
            record {
              source = source';
              inside = inside';
              right = λ t h. stays t (inside' t h) h ∙ right' t h;
              reached = λ t h. was (D t ≢ mark) t h (state.reached t) (λ e. rw e b-reached);
              counted = counted';
              linked = linked';
              above = above';
              bounded = λ t l. omega (arith, falls t l, state.bounded t l);
              relaxed = relaxed';
              parents = parents'';
              ahead = ahead';
              none = none';
              frontier = frontier';
            }
