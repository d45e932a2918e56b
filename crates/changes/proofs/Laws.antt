-- An edit changes the cost of one link: what this does to the layout, and which sources it touches. Assumes nothing.
use Prim.Native.Nat.{ℕ, ◌+◌, ◌*◌, ◌<◌, ◌≤◌}
use mathlib.Core.Path.{◌≡◌, refl, sym, ◌∙◌, ap}
use mathlib.Core.Logic.{◌≢◌}
use mathlib.Core.Bool.{Bool, true, false, and-eq-true_iff, true≢false}
use mathlib.Core.List.{List}
use native.Mathlib.Omega.{arith}
use lib.Dec.{eqb, ltb}
use lib.ListN.{length, get_or, set, length-set}
use borrow.Author.Tests.{eqb-true, eqb-false, eq-eqb, ltb-true, ltb-false, lt-ltb}
use Rattle.routes.specs.Route.{Costs, set_of, has, least_time}
use Rattle.routes.proofs.Sums.{sum_to-cong}
use Rattle.routes.proofs.Bits.{split, has-set_of}
use Rattle.routes.proofs.Transfer.{SameRow}
use Rattle.routes.proofs.Touched.{OneLink, one-silent, one_link-told, one-cheaper, meets}
use Rattle.routes.proofs.Passing.{only-from, differs-from}
use Rattle.links.specs.Promise.{stay}
use Rattle.book.specs.Hall.{Layout, entry, costs_in, valid_costs, touched}
use Rattle.book.specs.Call.{with_cost}
use Rattle.book.proofs.Tables.{entry_set, only_set, valid-set}
use Rattle.book.proofs.Small.{Workable}
use Rattle.touch.specs.Promise.{rises, crosses, one_link, Found}
use Rattle.changes.specs.Promise.{Change}
use Rattle.changes.proofs.Changes.{Changes, time-at, crosses-tell, meets-tell}

module _ {m L n u v new : ℕ} {lay : Layout} {times counts shares : List ℕ} (h : Change m L n u v new lay times counts shares) where
  abbrev cost : List ℕ
  cost = lay.cost

  abbrev cost' : List ℕ
  cost' = set cost (u * n + v) new

  abbrev lay' : Layout
  lay' = with_cost n u v new lay

  abbrev W : Costs
  W = entry n cost

  abbrev W' : Costs
  W' = entry n cost'

  abbrev old : ℕ
  old = W u v

  -- the new costs: the link u to v has the new one, the others are as they were
  here : W' u v ≡ new
  here = entry_set n cost u v new u v h.square h.from h.to h.to ∙ rw (eq-eqb u u refl, eq-eqb v v refl)

  only : OneLink W W' n u v
  only a b k l = only_set n cost u v new a b h.square h.from h.to l

  changed : W u v ≢ W' u v
  changed e = h.differs (e ∙ here)

  pub square' : length cost' ≡ n * n
  square' = length-set cost (u * n + v) new ∙ h.square

  pub valid' : valid_costs n cost' ≡ true
  valid' = valid-set n cost u v new h.square h.from h.to h.apart h.fits h.valid

  -- the new layout can be worked out
  pub workable' : Workable n lay'
  workable' = record { most = h.most; square = square'; long = h.long; valid = valid'; passable = h.passable }

  -- where the cost rises, there was a link; else there is one, no dearer than before
  up : rises old new ≡ true → (0 < old) × (0 < new → old ≤ new)
  up e = split (eqb new 0)
      (λ z. let none = eqb-true new 0 z in omega (arith, h.differs))
      (λ z. let (a, b) = (and-eq-true_iff (ltb 0 old) (ltb old new)).0 (rw z at e) in omega (arith, ltb-true 0 old a, ltb-true old new b))

  down : rises old new ≡ false → (0 < new) × (0 < old → new ≤ old)
  down e = split (eqb new 0)
      (λ z. absurd (true≢false (rw z at e)))
      (λ z. let some = eqb-false new 0 z in (omega arith, λ k. ltb-false old new (rw (lt-ltb 0 old k) at (rw z at e))))

  pub comes : rises old new ≡ false → 0 < W' u v
  comes e = omega (arith, here, (down e).0)

  -- a change of a set of links, all of which rise or all of which fall
  pub changes : Changes m L n (one_link u v) (rises old new) lay cost' times counts shares
  changes = record {
    workable = record { most = h.most; square = h.square; long = h.long; valid = h.valid; passable = h.passable };
    worked = h.worked;
    workable' = workable';
    only = λ a b k l ne. let (p, q) = only a b k l ne in (and-eq-true_iff (eqb a u) (eqb b v)).1 (eq-eqb a u p, eq-eqb b v q);
    up = λ e. let (linked, more) = up e in one-cheaper W W' n u v only (λ z. (linked, omega (arith, here, more (omega (arith, here)))));
    down = λ e. one-cheaper W' W n u v (λ a b k l ne. only a b k l (λ p. ne (sym p))) (λ z. (comes e, omega (arith, here, (down e).1 z)));
  }

  -- the costs on routes from s, before and after, which differ at the link u to v alone
  abbrev p : ℕ → ℕ
  p x = get_or lay.passing x 0

  abbrev C : ℕ → Costs
  C = costs_in n lay

  abbrev C' : ℕ → Costs
  C' = costs_in n lay'

  only_one : (s : ℕ) → OneLink (C s) (C' s) n u v
  only_one s a b k l ne = only a b k l (only-from W W' p s a b ne)

  abbrev touches : ℕ → Bool
  touches = touched n lay lay' u v

  -- one comparison a source tells whether it is touched
  touched-at : (s : ℕ) → s < n → crosses (rises old new) old new (least_time (C s) n s u) (stay s lay.passing u) (least_time (C s) n s v) ≡ touches s
  unfolding touched
  touched-at s l = ap (λ x. crosses (rises old new) old x (least_time (C s) n s u) (stay s lay.passing u) (least_time (C s) n s v)) (sym here) ∙
      one_link-told (C s) (C' s) n s u v (λ a b. crosses (rises old new) (W a b) (W' a b) (least_time (C s) n s a) (stay s lay.passing a) (least_time (C s) n s b)) (meets (C s) (C' s) n s)
      h.from h.to (differs-from W W' p s u v changed) (only_one s) (crosses-tell changes s l) (meets-tell changes s l)

  -- the set of the sources that pass the comparison
  module _ (sources : ℕ) (f : Found n u v new lay.cost lay.passing times sources) where
    pub touched-set : sources ≡ set_of n (touched n lay (with_cost n u v new lay) u v)
    unfolding set_of
    touched-set = f.found ∙ sum_to-cong n (λ s l. rw (time-at changes s u l h.from, time-at changes s v l h.to, touched-at s l))

    pub below : (s : ℕ) → has sources s ≡ true → s < n
    below s e = ltb-true s n ((and-eq-true_iff (ltb s n) (touches s)).0 (rw (touched-set, has-set_of n touches s) at e)).0

    -- the rows of the others stay
    pub stays : (s : ℕ) → s < n → has sources s ≡ false → SameRow (costs_in n lay s) (costs_in n (with_cost n u v new lay) s) n s
    unfolding touched
    stays s l e = (meets-tell changes s l).stays (one-silent (C s) (C' s) n u v _ (only_one s) (sym member ∙ e))
      where
        member : has sources s ≡ touches s
        member = rw (touched-set, has-set_of n touches s, lt-ltb s n l)
