-- Which refusals of a list tell a place: those of its edits. Assumes nothing.
use Rattle.std.specs.Prelude.{Ok, Err}
use Prim.Native.Nat.{ℕ, ◌+◌}
use mathlib.Core.Path.{◌≡◌, refl}
use mathlib.Core.Bool.{Bool, true, false, cond, ◌||◌}
use mathlib.Core.List.{List, [], ◌∷◌}
use lib.Dec.{eqb, ltb}
use Rattle.routes.proofs.Booleans.{both}
use Rattle.book.specs.Hall.{Layout, largest_cost, up_to, entry, valid_pair}
use Rattle.book.specs.Call.{number, accepted, need, other_cost_tests, cost_tests, with_edit, edit_refusal, Verdict, judged, of_an_edit, Accepted, Outcome}
use Rattle.book.specs.declared.Edit.{Edit}
use Rattle.book.specs.declared.Kind.{Kind}
use Rattle.book.specs.declared.Kind.TheVariants.{Insert, Cheapen, Raise, Delete}
use Rattle.book.specs.declared.Refusal.{Refusal}
use Rattle.book.specs.declared.Refusal.TheVariants.{BadSize, BadLength, BadTables, BadStop, BadCost, LinkPresent, LinkAbsent, CostWrongSide, BadImage, ShortBuffer, TooManyWays, ListTooLong, BadPassing, CrowdedPair}

-- a refusal that is an edit's, or acceptance
pub record Told (r : Outcome) : Type 0 where
  pub tells : accepted r ≡ false → of_an_edit r ≡ true

need-told : (p : Bool) (r : Refusal) {next : Outcome} → of_an_edit (Err r) ≡ true → Told next → Told (need p r next)
need-told true r e f = f
need-told false r e f = record { tells = λ shut. e }

accepted-told : Told Accepted
accepted-told = record { tells = λ shut. absurd (both refl shut) }

other-cost-told : (wanted : Bool) (c present : ℕ) → Told (other_cost_tests wanted c present)
other-cost-told wanted c present =
    need-told (up_to largest_cost c) BadCost refl (need-told (ltb 0 present) LinkAbsent refl (need-told wanted CostWrongSide refl accepted-told))

cost-told : (k : Kind) (c present : ℕ) → Told (cost_tests k c present)
cost-told Insert c present = need-told (up_to largest_cost c) BadCost refl (need-told (eqb present 0) LinkPresent refl accepted-told)
cost-told Cheapen c present = other-cost-told (ltb c present) c present
cost-told Raise c present = other-cost-told (ltb present c) c present
cost-told Delete c present = need-told (ltb 0 present) LinkAbsent refl accepted-told

pub edit-told : (n : ℕ) (e : Edit) (cost : List ℕ) → Told (edit_refusal n e cost)
edit-told n e cost = need-told (valid_pair n e.u e.v) BadStop refl (cost-told e.kind e.cost (entry n cost e.u e.v))

pub judged-told : (n k : ℕ) (edits : List Edit) (lay : Layout) → Told (judged n k edits lay).refusal
unfolding judged
judged-told n k [] lay = accepted-told
judged-told n k (e ∷ rest) lay = go (accepted (edit_refusal n e lay.cost)) (judged n (k + 1) rest (with_edit n e lay)) (judged-told n (k + 1) rest (with_edit n e lay))
  where
    go : (b : Bool) (later : Verdict) → Told later.refusal → Told (cond b later (record { refusal = edit_refusal n e lay.cost; place = k })).refusal
    go true later told = told
    go false later told = edit-told n e lay.cost

-- a list that is refused at an edit tells its place
pub edit-tells : (n k : ℕ) (edits : List Edit) (lay : Layout) → accepted (judged n k edits lay).refusal ≡ false → of_an_edit (judged n k edits lay).refusal ≡ true
edit-tells n k edits lay shut = (judged-told n k edits lay).tells shut

-- for 1, 2, 3 and those from 9 on none is told
pub none_told : (r : Outcome) (place : ℕ) → (ltb (number r) 4 || ltb 8 (number r)) ≡ true → cond (of_an_edit r) place 0 ≡ 0
none_told (Ok tt) place e = refl
none_told (Err BadSize) place e = refl
none_told (Err BadLength) place e = refl
none_told (Err BadTables) place e = refl
none_told (Err BadStop) place e = absurd (both e refl)
none_told (Err BadCost) place e = absurd (both e refl)
none_told (Err LinkPresent) place e = absurd (both e refl)
none_told (Err LinkAbsent) place e = absurd (both e refl)
none_told (Err CostWrongSide) place e = absurd (both e refl)
none_told (Err BadImage) place e = refl
none_told (Err ShortBuffer) place e = refl
none_told (Err TooManyWays) place e = refl
none_told (Err ListTooLong) place e = refl
none_told (Err BadPassing) place e = refl
none_told (Err CrowdedPair) place e = refl

-- one that is refused at no edit has the place 0
pub accepted-place : (n k : ℕ) (edits : List Edit) (lay : Layout) → accepted (judged n k edits lay).refusal ≡ true → (judged n k edits lay).place ≡ 0
unfolding judged
accepted-place n k [] lay ok = refl
accepted-place n k (e ∷ rest) lay ok = go (accepted (edit_refusal n e lay.cost)) refl ok (accepted-place n (k + 1) rest (with_edit n e lay))
  where
    then : Verdict
    then = judged n (k + 1) rest (with_edit n e lay)

    stopped : Verdict
    stopped = record { refusal = edit_refusal n e lay.cost; place = k }

    go : (b : Bool) → accepted (edit_refusal n e lay.cost) ≡ b → accepted (cond b then stopped).refusal ≡ true → (accepted then.refusal ≡ true → then.place ≡ 0) →
        (cond b then stopped).place ≡ 0
    go true first ok more = more ok
    go false first ok more = absurd (both ok first)
