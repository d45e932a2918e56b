-- What the hall's own tests say: of the door, of test 3 behind it, and of the audit that is made of both. Assumes nothing.
use Rattle.std.specs.Prelude.{Err}
use Prim.Native.Nat.{ℕ}
use mathlib.Core.Path.{◌≡◌, refl, sym, ◌∙◌, subst}
use mathlib.Core.Bool.{Bool, true, false}
use Rattle.book.specs.Hall.{Tables, most_stops, most_ways, scale, up_to, sized, right, valid_passing}
use Rattle.book.specs.Call.{Call, audit, accepted, chain, rule, Done, Accepted, Outcome}
use Rattle.book.specs.Contract.{of_refusal, door_tests, Inside}
use Rattle.book.specs.declared.Refusal.TheVariants.{BadSize, BadLength, BadTables, BadPassing}
use Rattle.book.proofs.Filled.{right-true}
use Rattle.book.proofs.Passed.{accepted-only}
use Rattle.book.proofs.Doors.{tests-passed, tests-refused, behind-door, accepted-done}

module _ (n : ℕ) (t : Tables) where
  pub door-size : up_to most_stops n ≡ false → Err BadSize ≡ door_tests n t
  door-size e = rw e

  pub door-length : up_to most_stops n ≡ true → sized n t ≡ false → Err BadLength ≡ door_tests n t
  door-length e f = rw (e, f)

  pub door-passing : up_to most_stops n ≡ true → sized n t ≡ true → valid_passing n t.layout.passing ≡ false → Err BadPassing ≡ door_tests n t
  door-passing e f g = rw (e, f, g)

  pub door-open : up_to most_stops n ≡ true → sized n t ≡ true → valid_passing n t.layout.passing ≡ true → Accepted ≡ door_tests n t
  door-open e f g = rw (e, f, g)

  -- test 3 behind the door
  module _ (sound : Bool) where
    pub three-bad : Inside n t → sound ≡ false → Err BadTables ≡ chain n (sized n t) (valid_passing n t.layout.passing) sound Accepted
    three-bad i e = rw (i.size, i.lengths, i.passable, e)

    pub three-good : Inside n t → sound ≡ true → Accepted ≡ chain n (sized n t) (valid_passing n t.layout.passing) sound Accepted
    three-good i e = rw (i.size, i.lengths, i.passable, e)

  -- the audit answers what these tests say, and leaves the tables
  pub audit-done : {r : Outcome} → r ≡ chain n (sized n t) (valid_passing n t.layout.passing) (right scale most_ways n t) Accepted → Done (record { n = n; ask = audit }) t t (of_refusal r)
  unfolding rule
  audit-done {r} e = go (accepted r) refl
    where
      c : Call
      c = record { n = n; ask = audit }

      go : (b : Bool) → accepted r ≡ b → Done c t t (of_refusal r)
      go false shut = tests-refused c t (λ s. refl) refl r e shut
      go true ok =
          let (inside, sound) = tests-passed n t (right scale most_ways n t) e ok in
          let taken = accepted-done c t t (of_refusal Accepted) (behind-door c t (λ s. refl) refl inside ∙ rw sound) (sym (right-true scale most_ways n t sound).1) refl in
          subst (λ x. Done c t t (of_refusal x)) (sym (accepted-only r ok)) taken
