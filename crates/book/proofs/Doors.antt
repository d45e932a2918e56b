-- The tests that calls share: what the door (1, 2 and 13) and the audit (3 behind it) say of every call behind them. Assumes nothing.
use Prim.Native.Nat.{ℕ}
use mathlib.Core.Path.{◌≡◌, refl, sym, ◌∙◌, ap}
use mathlib.Core.Bool.{Bool, true, false, cond, ◌&&◌, and-false}
use Rattle.routes.proofs.Booleans.{both}
use Rattle.book.specs.Hall.{Tables, most_stops, most_ways, scale, up_to, filled, sized, valid_passing, right}
use Rattle.book.specs.Call.{Call, audit, accepted, need, Answer, refused_at, Rule, rule, chain, refusal, after, answer, Done, Accepted, Outcome}
use Rattle.book.specs.Contract.{of_refusal, door_tests, Inside, Audited}
use Rattle.book.specs.declared.Refusal.TheVariants.{BadSize, BadLength, BadTables, BadPassing}
use Rattle.book.proofs.Filled.{right-true}
use Rattle.book.proofs.Answers.{done-refusal}
use Rattle.book.proofs.Passed.{chain-true}
use Rattle.book.proofs.Refused.{buffer_of, place_of, refused-done}

-- test 13 of the lent passing times
abbrev brief : ℕ → Tables → Bool
brief n t = valid_passing n t.layout.passing

-- what passes the door and test 3 was let in, and is sound
pub tests-passed : (n : ℕ) (t : Tables) (sound : Bool) {r : Outcome} → r ≡ chain n (sized n t) (brief n t) sound Accepted → accepted r ≡ true → Inside n t × (sound ≡ true)
tests-passed n t sound e ok =
    let (size, lengths, passable, found, tests) = chain-true n (sized n t) (brief n t) sound Accepted (ap accepted (sym e) ∙ ok) in
    (record { size = size; lengths = lengths; passable = passable }, found)

-- the door lets in what it should
pub door-passed : (n : ℕ) (t : Tables) {r : Outcome} → r ≡ door_tests n t → accepted r ≡ true → Inside n t
door-passed n t e ok = (tests-passed n t true e ok).0

-- what the door refuses, the door and test 3 refuse
pub three-shut : (n : ℕ) (t : Tables) (sound : Bool) {r : Outcome} → r ≡ door_tests n t → accepted r ≡ false → r ≡ chain n (sized n t) (brief n t) sound Accepted
three-shut n t sound e shut = e ∙ go (up_to most_stops n) (sized n t) (brief n t) (ap accepted (sym e) ∙ shut)
  where
    go : (size long passable : Bool) → accepted (need size BadSize (need long BadLength (need passable BadPassing Accepted))) ≡ false →
        need size BadSize (need long BadLength (need passable BadPassing Accepted)) ≡
        need size BadSize (need long BadLength (need passable BadPassing (need sound BadTables Accepted)))
    go false long passable shut = refl
    go true false passable shut = refl
    go true true false shut = refl
    go true true true shut = absurd (both refl shut)

-- the audit is the door and test 3
module _ (n : ℕ) (t : Tables) {t' : Tables} {r : Outcome} (d : Done (record { n = n; ask = audit }) t t' (of_refusal r)) where
  pub audit-tests : r ≡ chain n (sized n t) (brief n t) (right scale most_ways n t) Accepted
  unfolding refusal rule
  audit-tests = done-refusal (record { n = n; ask = audit }) t d

  pub audit-passed : accepted r ≡ true → Audited n t
  audit-passed ok = let (inside, sound) = tests-passed n t (right scale most_ways n t) audit-tests ok in record { inside = inside; sound = sound }

-- a call whose own tables, if it brings any, fit where the lent ones have their lengths, and which has the lent passing times
module _ (c : Call) (t : Tables) (fits : sized c.n t ≡ true → (rule c.n c.ask t.layout).fits ≡ true)
    (has : (rule c.n c.ask t.layout).lent.passing ≡ t.layout.passing) where
  abbrev r : Rule
  r = rule c.n c.ask t.layout

  -- behind the door come 3 and its own tests
  pub behind-door : Inside c.n t → refusal c t ≡ need (r.sound t) BadTables r.tests
  unfolding refusal
  behind-door i = rw (i.size, i.lengths, fits i.lengths, has, i.passable)

  -- it is refused as the door and test 3 refuse
  pub tests-refused : (x : Outcome) → x ≡ chain c.n (sized c.n t) (brief c.n t) (r.sound t) Accepted → accepted x ≡ false → Done c t t (refused_at x (place_of c t x) (buffer_of c t))
  unfolding refusal
  tests-refused x told shut =
      refused-done c t x (rw has (go (up_to most_stops c.n) (sized c.n t) (brief c.n t) (r.sound t) fits (ap accepted (sym told) ∙ shut)) ∙ sym told) shut
    where
      go : (size lengths passable sound : Bool) → (lengths ≡ true → r.fits ≡ true) →
          accepted (need size BadSize (need lengths BadLength (need passable BadPassing (need sound BadTables Accepted)))) ≡ false →
          need size BadSize (need (r.fits && lengths) BadLength (need passable BadPassing (need sound BadTables r.tests))) ≡
          need size BadSize (need lengths BadLength (need passable BadPassing (need sound BadTables Accepted)))
      go false lengths passable sound f shut = refl
      go true false passable sound f shut = rw (and-false r.fits)
      go true true false sound f shut = rw (f refl)
      go true true true false f shut = rw (f refl)
      go true true true true f shut = absurd (both refl shut)

  -- and as the door alone refuses
  pub door-refused : (x : Outcome) → x ≡ door_tests c.n t → accepted x ≡ false → Done c t t (refused_at x (place_of c t x) (buffer_of c t))
  door-refused x e shut = tests-refused x (three-shut c.n t (r.sound t) e shut) shut

  -- one that audits is refused as the audit refuses
  module _ (audits : r.sound t ≡ right scale most_ways c.n t) where
    pub audit-refused : {t' : Tables} (x : Outcome) → Done (record { n = c.n; ask = audit }) t t' (of_refusal x) → accepted x ≡ false → Done c t t (refused_at x (place_of c t x) (buffer_of c t))
    audit-refused x d shut = tests-refused x (rw audits (audit-tests c.n t d)) shut

    -- behind the audit come its own tests
    pub behind-audit : Audited c.n t → refusal c t ≡ r.tests
    behind-audit i = behind-door i.inside ∙ rw (audits, i.sound)

-- an accepted call leaves the tables of the layout that it leaves, and says what it says
pub accepted-done : (c : Call) (t t' : Tables) (a : Answer) → refusal c t ≡ Accepted →
    t' ≡ filled scale most_ways c.n (rule c.n c.ask t.layout).leaves → a ≡ (rule c.n c.ask t.layout).says → Done c t t' a
unfolding after answer
accepted-done c t t' a ok left said = record { left = left ∙ rw ok; answered = said ∙ rw ok }

-- accepted or refused, a call that audits and leaves the present layout leaves the tables; so does an audit
pub leaves-tables : (c : Call) (t : Tables) → let r : Rule = rule c.n c.ask t.layout in
    r.leaves ≡ t.layout → r.sound t ≡ right scale most_ways c.n t → after c t ≡ t
unfolding after refusal
leaves-tables c t same audits = rw same (go (accepted (refusal c t)) refl)
  where
    r : Rule
    r = rule c.n c.ask t.layout

    go : (b : Bool) → accepted (refusal c t) ≡ b → cond b (filled scale most_ways c.n t.layout) t ≡ t
    go true e =
        let (size, lengths, passable, sound, tests) = chain-true c.n (r.fits && sized c.n t) (valid_passing c.n r.lent.passing) (r.sound t) r.tests e in
        (right-true scale most_ways c.n t (sym audits ∙ sound)).1
    go false e = refl

pub audit-leaves : (n : ℕ) (t : Tables) → after (record { n = n; ask = audit }) t ≡ t
unfolding rule
audit-leaves n t = leaves-tables (record { n = n; ask = audit }) t refl refl
