-- The moving call, from its tests to what it promises. Assumes nothing.
use Rattle.std.specs.Prelude.{Err}
use Prim.Native.Nat.{ℕ, ◌≤◌}
use native.Mathlib.Omega.{arith}
use mathlib.Core.Path.{◌≡◌, refl, sym, ◌∙◌, ap, subst}
use mathlib.Core.Bool.{Bool, true, false, ◌&&◌}
use mathlib.Core.List.{List}
use lib.Dec.{leb}
use Rattle.routes.specs.Route.{all_to}
use Rattle.routes.proofs.Tests.{all-flat}
use Rattle.book.specs.Hall.{Tables, most_stops, most_ways, old_most_ways, old_scale, divided, up_to, entry, filled, sized, valid_passing, no_passing, uncrowded, right}
use Rattle.book.specs.Call.{accepted, need, chain, rule, refusal, Done, Accepted, Outcome}
use Rattle.book.specs.Contract.{tables, of_refusal, Inside}
use Rattle.book.specs.declared.Refusal.TheVariants.{BadSize, BadLength, BadTables, TooManyWays, BadPassing}
use Rattle.book.proofs.Sizes.{lengths}
use Rattle.book.proofs.Refused.{refused-done}
use Rattle.book.proofs.Doors.{tests-passed, tests-refused, accepted-done}
use Rattle.book.proofs.Filled.{right-true}
use Rattle.book.proofs.Uncrowded.{few-entries}
use Rattle.book.proofs.Moves.{moving, move-tests, move-leaves, move-divides}
use Rattle.routes.proofs.Booleans.{both}
use Rattle.cells.specs.Promise.{none_above}

module _ (n : ℕ) (cost time ways share score : List ℕ) where
  abbrev with : List ℕ → Tables
  with passing = tables cost passing time ways share score

  -- the tables that it is lent: every passing time is 0
  abbrev t : Tables
  t = with (no_passing n)

  abbrev pub Tested : Outcome → Type 0
  Tested r = r ≡ chain n (sized n t) (valid_passing n (no_passing n)) (right old_scale old_most_ways n t) Accepted

  -- a table of its own that holds these
  pub tested : {none : List ℕ} {r : Outcome} → none ≡ no_passing n → r ≡ chain n (sized n (with none)) (valid_passing n none) (right old_scale old_most_ways n (with none)) Accepted → Tested r
  tested {none} {r} e told = subst (λ p. r ≡ chain n (sized n (with p)) (valid_passing n p) (right old_scale old_most_ways n (with p)) Accepted) e told

  -- no number of stops
  pub move-sizeless : up_to most_stops n ≡ false → Done (moving n) t t (of_refusal (Err BadSize))
  unfolding refusal rule
  move-sizeless e = refused-done (moving n) t (Err BadSize) (rw e) refl

  -- test 3 is the old audit, and that no pair has more ways than the old limit
  abbrev old : Bool
  old = right old_scale old_most_ways n t

  abbrev kept : Bool
  kept = uncrowded old_most_ways n t.layout

  -- refused with 1 or 2, or by the audit
  pub move-shut : {r : Outcome} → Tested r → accepted r ≡ false → Done (moving n) t t (of_refusal r)
  unfolding rule
  move-shut {r} e shut = tests-refused (moving n) t (λ s. refl) refl r (e ∙ more (up_to most_stops n) (sized n t) (valid_passing n (no_passing n)) old (ap accepted (sym e) ∙ shut)) shut
    where
      chained : Bool → Bool → Bool → Bool → Outcome
      chained size lengths passable sound = need size BadSize (need lengths BadLength (need passable BadPassing (need sound BadTables Accepted)))

      more : (size lengths passable sound : Bool) → accepted (chained size lengths passable sound) ≡ false → chained size lengths passable sound ≡ chained size lengths passable (sound && kept)
      more false lengths passable sound shut = refl
      more true false passable sound shut = refl
      more true true false sound shut = refl
      more true true true false shut = refl
      more true true true true shut = absurd (both refl shut)

  module _ {r : Outcome} (e : Tested r) (ok : accepted r ≡ true) where
    passed : Inside n t × (old ≡ true)
    passed = tests-passed n t old e ok

    -- the table of ways tells whether a pair has more ways than a limit
    flat : (m : ℕ) → m ≤ old_most_ways → none_above m ways ≡ uncrowded m n t.layout
    flat m less =
        let all : none_above m ways ≡ all_to n (λ s. all_to n (λ v. leb (entry n ways s v) m)) = rw (lengths n t passed.0.lengths).counts (all-flat n n _) in
        let same : filled old_scale old_most_ways n t.layout ≡ t = (right-true old_scale old_most_ways n t passed.1).1 in
        all ∙ sym (ap (λ x. all_to n (λ s. all_to n (λ v. leb (entry n x.ways s v) m))) same) ∙ few-entries old_scale m old_most_ways n t.layout less

    -- more ways than the old limit
    pub move-bad : none_above old_most_ways ways ≡ false → Done (moving n) t t (of_refusal (Err BadTables))
    unfolding refusal rule
    move-bad many =
        let (inside, found) = passed in
        let full : kept ≡ false = sym (flat old_most_ways (omega arith)) ∙ many in
        refused-done (moving n) t (Err BadTables) (rw (inside.size, inside.lengths, inside.passable, found, full)) refl

    module _ (within : none_above old_most_ways ways ≡ true) where
      -- behind these comes 11
      told : refusal (moving n) t ≡ need (none_above most_ways ways) TooManyWays Accepted
      told =
          let (inside, found) = passed in
          move-tests n t refl inside.size inside.lengths found (sym (flat old_most_ways (omega arith)) ∙ within) ∙
          ap (λ b. need b TooManyWays Accepted) (sym (flat most_ways (omega arith)))

      pub move-crowded : none_above most_ways ways ≡ false → Done (moving n) t t (of_refusal (Err TooManyWays))
      unfolding rule
      move-crowded many = refused-done (moving n) t (Err TooManyWays) (told ∙ rw many) refl

      pub move-accepted : none_above most_ways ways ≡ true → {share' score' : List ℕ} → share' ≡ divided share → score' ≡ divided score →
          Done (moving n) t (tables cost (no_passing n) time ways share' score') (of_refusal Accepted)
      unfolding rule
      move-accepted few {share'} {score'} shares scores =
          let taken : refusal (moving n) t ≡ Accepted = told ∙ rw few in
          let left : tables cost (no_passing n) time ways share' score' ≡ tables cost (no_passing n) time ways (divided share) (divided score) = λ i. tables cost (no_passing n) time ways (shares i) (scores i) in
          accepted-done (moving n) t (tables cost (no_passing n) time ways share' score') (of_refusal Accepted) taken (left ∙ sym (move-divides n t refl taken) ∙ move-leaves n t refl taken) refl
