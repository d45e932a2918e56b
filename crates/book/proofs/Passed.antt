-- What an accepted call has passed: each test before it, for an edit two stops and another cost, and for a list every edit in its turn.
-- Assumes nothing.
use Rattle.std.specs.Prelude.{Ok, Err}
use Prim.Native.Nat.{ℕ, zero, suc, ◌+◌, ◌<◌, ◌≤◌}
use mathlib.Core.Path.{◌≡◌, refl, ap}
use mathlib.Core.Logic.{◌≢◌}
use mathlib.Core.Bool.{Bool, true, false, cond, not, ◌&&◌, and-eq-true_iff}
use mathlib.Core.List.{List, ◌∷◌}
use native.Mathlib.Omega.{arith}
use lib.Dec.{eqb, ltb, leb}
use borrow.Author.Tests.{eqb-true, eqb-false, leb-true, ltb-true, le-ltb, not-true}
use Rattle.routes.proofs.Booleans.{both}
use Rattle.book.specs.Hall.{Layout, Tables, most_stops, largest_cost, up_to, entry, sized, valid_passing, valid_pair}
use Rattle.book.specs.Call.{Call, edit, accepted, need, other_cost_tests, cost_tests, cost_set, with_edit, edit_refusal, Verdict, judged, Rule, rule, chain, refusal, Accepted, Outcome}
use Rattle.book.specs.declared.Edit.{Edit}
use Rattle.book.specs.declared.Kind.{Kind}
use Rattle.book.specs.declared.Kind.TheVariants.{Insert, Cheapen, Raise, Delete}
use Rattle.book.specs.declared.Refusal.{Refusal}
use Rattle.book.specs.declared.Refusal.TheVariants.{BadSize, BadLength, BadTables, BadStop, BadCost, LinkPresent, LinkAbsent, CostWrongSide, BadPassing}

-- a chain of tests accepts where its first test passes and the rest accepts
pub need-true : (p : Bool) (r : Refusal) (next : Outcome) → accepted (need p r next) ≡ true → (p ≡ true) × (accepted next ≡ true)
need-true true r next e = (refl, e)
need-true false r next e = absurd (both e refl)

-- what is accepted has one name
pub accepted-only : (r : Outcome) → accepted r ≡ true → r ≡ Accepted
accepted-only (Ok tt) e = refl
accepted-only (Err r) e = absurd (both e refl)

-- a chain of all tests accepts where each passes
pub chain-true : (n : ℕ) (lengths passable sound : Bool) (tests : Outcome) → accepted (chain n lengths passable sound tests) ≡ true →
    (up_to most_stops n ≡ true) × (lengths ≡ true) × (passable ≡ true) × (sound ≡ true) × (accepted tests ≡ true)
chain-true n lengths passable sound tests e =
    let (size, e₁) = need-true (up_to most_stops n) BadSize _ e in
    let (long, e₂) = need-true lengths BadLength _ e₁ in
    let (brief, e₃) = need-true passable BadPassing _ e₂ in
    let (right, e₄) = need-true sound BadTables tests e₃ in
    (size, long, brief, right, e₄)

-- an accepted call: its n is valid, the tables have their lengths, and its own tests accept; what it brings fits, and what it audits is right
module _ (c : Call) (t : Tables) (e : refusal c t ≡ Accepted) where
  abbrev r : Rule
  r = rule c.n c.ask t.layout

  all : (up_to most_stops c.n ≡ true) × ((r.fits && sized c.n t) ≡ true) × (valid_passing c.n r.lent.passing ≡ true) × (r.sound t ≡ true) × (accepted r.tests ≡ true)
  unfolding refusal
  all = chain-true c.n (r.fits && sized c.n t) (valid_passing c.n r.lent.passing) (r.sound t) r.tests (ap accepted e)

  pub passed : (up_to most_stops c.n ≡ true) × (sized c.n t ≡ true) × (accepted r.tests ≡ true)
  passed = let (size, lengths, brief, sound, tests) = all in (size, ((and-eq-true_iff r.fits (sized c.n t)).0 lengths).1, tests)

  pub fitted : r.fits ≡ true
  fitted = let (size, lengths, brief, sound, tests) = all in ((and-eq-true_iff r.fits (sized c.n t)).0 lengths).0

  pub audited : r.sound t ≡ true
  audited = let (size, lengths, brief, sound, tests) = all in sound

  pub brief : valid_passing c.n r.lent.passing ≡ true
  brief = let (size, lengths, brief, sound, tests) = all in brief

-- an accepted edit
pub record Permitted (n : ℕ) (e : Edit) (lay : Layout) : Type 0 where
  pub from : e.u < n
  pub to : e.v < n
  pub apart : e.u ≢ e.v
  pub fits : cost_set e.kind e.cost ≤ largest_cost
  pub differs : entry n lay.cost e.u e.v ≢ cost_set e.kind e.cost

-- a number from 1 to m
pub up-to : (m x : ℕ) → up_to m x ≡ true → (0 < x) × (x ≤ m)
up-to m x e = let (low, high) = (and-eq-true_iff (leb 1 x) (leb x m)).0 e in (leb-true 1 x low, leb-true x m high)

-- another cost for a link: it fits, there is a link, and it lies on the side that was asked for
pub other-cost-tests : (wanted : Bool) (c present : ℕ) → accepted (other_cost_tests wanted c present) ≡ true → (0 < c) × (c ≤ largest_cost) × (0 < present) × (wanted ≡ true)
other-cost-tests wanted c present e =
    let (bounds, e₁) = need-true (up_to largest_cost c) BadCost _ e in
    let (there, e₂) = need-true (ltb 0 present) LinkAbsent _ e₁ in
    let (on, e₃) = need-true wanted CostWrongSide Accepted e₂ in
    let (some, fits) = up-to largest_cost c bounds in
    (some, fits, ltb-true 0 present there, on)

pub cost-tests : (k : Kind) (c present : ℕ) → accepted (cost_tests k c present) ≡ true → (cost_set k c ≤ largest_cost) × (present ≢ cost_set k c)
cost-tests Insert c present e =
    let (bounds, e₁) = need-true (up_to largest_cost c) BadCost _ e in
    let (absent, e₂) = need-true (eqb present 0) LinkPresent Accepted e₁ in
    let (some, fits) = up-to largest_cost c bounds in
    (fits, omega (arith, some, eqb-true present 0 absent))
cost-tests Cheapen c present e =
    let (some, fits, there, less) = other-cost-tests (ltb c present) c present e in
    (fits, omega (arith, ltb-true c present less))
cost-tests Raise c present e =
    let (some, fits, there, more) = other-cost-tests (ltb present c) c present e in
    (fits, omega (arith, ltb-true present c more))
cost-tests Delete c present e =
    let (there, e₁) = need-true (ltb 0 present) LinkAbsent Accepted e in
    (omega arith, omega (arith, ltb-true 0 present there))

pub permitted : (n : ℕ) (e : Edit) (lay : Layout) → accepted (rule n (edit e) lay).tests ≡ true → Permitted n e lay
unfolding rule
permitted n e lay ok =
    let u : ℕ = e.u in
    let v : ℕ = e.v in
    let (pair, ok₁) = need-true (valid_pair n u v) BadStop _ ok in
    let (fits, differs) = cost-tests e.kind e.cost (entry n lay.cost u v) ok₁ in
    let (from, rest) = (and-eq-true_iff (ltb u n) (ltb v n && not (eqb u v))).0 pair in
    let (to, other) = (and-eq-true_iff (ltb v n) (not (eqb u v))).0 rest in
    record {
      from = ltb-true u n from;
      to = ltb-true v n to;
      apart = eqb-false u v (not-true (eqb u v) other);
      fits = fits;
      differs = differs;
    }

-- an accepted list: its first edit is accepted, and the rest in the hall that it made
pub judged-true : (n k : ℕ) (e : Edit) (rest : List Edit) (lay : Layout) → accepted (judged n k (e ∷ rest) lay).refusal ≡ true →
    (accepted (edit_refusal n e lay.cost) ≡ true) × (accepted (judged n (k + 1) rest (with_edit n e lay)).refusal ≡ true)
unfolding judged
judged-true n k e rest lay ok = go (accepted (edit_refusal n e lay.cost)) refl ok
  where
    then : Verdict
    then = judged n (k + 1) rest (with_edit n e lay)

    go : (b : Bool) → accepted (edit_refusal n e lay.cost) ≡ b → accepted (cond b then (record { refusal = edit_refusal n e lay.cost; place = k })).refusal ≡ true →
        (accepted (edit_refusal n e lay.cost) ≡ true) × (accepted then.refusal ≡ true)
    go true first ok = (first, ok)
    go false first ok = absurd (both ok first)

-- a hall of one stop has no two: every edit is 4
pub edit-alone : (e : Edit) (lay : Layout) → (rule 1 (edit e) lay).tests ≡ Err BadStop
unfolding rule
edit-alone e lay = go e.u e.v _
  where
    go : (u v : ℕ) (next : Outcome) → need (valid_pair 1 u v) BadStop next ≡ Err BadStop
    go zero zero next = refl
    go zero (suc v) next = rw (le-ltb (suc v) 1 (omega arith))
    go (suc u) v next = rw (le-ltb (suc u) 1 (omega arith))
