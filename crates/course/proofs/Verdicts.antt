-- The verdict over a list of edits, grown by one edit at its end, and the tests before its edits. Assumes nothing.
use Prim.Native.Nat.{ℕ, ◌+◌}
use mathlib.Core.Path.{◌≡◌, refl, sym, ◌∙◌, ap}
use mathlib.Core.Bool.{Bool, true, false, cond, ◌||◌}
use mathlib.Core.List.{List, [], ◌∷◌, ◌++◌}
use native.Mathlib.Omega.{arith}
use lib.Dec.{ltb, leb}
use lib.ListN.{length}
use Rattle.routes.proofs.Booleans.{both}
use Rattle.book.specs.Hall.{Tables, most_stops, most_ways, most_edits, scale, up_to, sized, right, touched, Layout, valid_passing}
use Rattle.book.specs.Call.{audit, edit_list, number, accepted, need, chain, with_edit, edit_refusal, run, with_edits, touched_by, Verdict, judged, rule, refusal, Done, Accepted, Outcome}
use Rattle.book.specs.Contract.{of_refusal}
use Rattle.book.specs.declared.Edit.{Edit}
use Rattle.book.specs.declared.Refusal.TheVariants.{BadSize, BadLength, BadTables, ListTooLong, BadPassing}
use Rattle.book.proofs.Passed.{chain-true}
use Rattle.book.proofs.Doors.{audit-tests}
use Rattle.course.specs.Promise.{admits}

-- the layout that one more edit leaves
pub with_edits-more : (n : ℕ) (edits : List Edit) (e : Edit) (lay : Layout) → with_edits n (edits ++ e ∷ []) lay ≡ with_edit n e (with_edits n edits lay)
unfolding run
with_edits-more n [] e lay = refl
with_edits-more n (x ∷ edits) e lay = with_edits-more n edits e (with_edit n x lay)

-- and what it touches besides
pub touched_by-more : (n : ℕ) (edits : List Edit) (e : Edit) (lay : Layout) (s : ℕ) → let now : Layout = with_edits n edits lay in
    touched_by n (edits ++ e ∷ []) lay s ≡ (touched_by n edits lay s || touched n now (with_edit n e now) e.u e.v s)
unfolding run touched_by
touched_by-more n [] e lay s = last (touched n lay (with_edit n e lay) e.u e.v s)
  where
    last : (b : Bool) → (b || false) ≡ b
    last true = refl
    last false = refl
touched_by-more n (x ∷ edits) e lay s =
    rw (touched_by-more n edits e (with_edit n x lay) s) (joined (touched n lay (with_edit n x lay) x.u x.v s) _ _)
  where
    joined : (a b c : Bool) → (a || (b || c)) ≡ ((a || b) || c)
    joined true b c = refl
    joined false b c = refl

-- the verdict stands once an edit was refused, else the last edit is judged in the hall of the others
pub judged-more : (n k : ℕ) (edits : List Edit) (e : Edit) (lay : Layout) → let first : Verdict = judged n k edits lay in
    judged n k (edits ++ e ∷ []) lay ≡ cond (accepted first.refusal) (judged n (k + length edits) (e ∷ []) (with_edits n edits lay)) first
unfolding run judged
judged-more n k [] e lay = let same : k + 0 ≡ k = omega arith in rw same
judged-more n k (x ∷ edits) e lay = go (accepted (edit_refusal n x lay.cost)) refl (judged-more n (k + 1) edits e next)
  where
    next : Layout
    next = with_edit n x lay

    stopped : Verdict
    stopped = record { refusal = edit_refusal n x lay.cost; place = k }

    later : Verdict
    later = judged n (k + 1) edits next

    go : (b : Bool) → accepted (edit_refusal n x lay.cost) ≡ b →
        judged n (k + 1) (edits ++ e ∷ []) next ≡ cond (accepted later.refusal) (judged n (k + 1 + length edits) (e ∷ []) (with_edits n edits next)) later →
        cond b (judged n (k + 1) (edits ++ e ∷ []) next) stopped ≡
        cond (accepted (cond b later stopped).refusal) (judged n (k + length (x ∷ edits)) (e ∷ []) (with_edits n edits next)) (cond b later stopped)
    go true first more = let same : k + length (x ∷ edits) ≡ k + 1 + length edits = omega arith in rw same more
    go false first more = rw first

-- and whatever comes behind a refused edit
pub judged-stays : (n k : ℕ) (edits rest : List Edit) (lay : Layout) → accepted (judged n k edits lay).refusal ≡ false → judged n k (edits ++ rest) lay ≡ judged n k edits lay
unfolding judged
judged-stays n k [] rest lay shut = absurd (both refl shut)
judged-stays n k (x ∷ edits) rest lay shut = go (accepted (edit_refusal n x lay.cost)) (judged-stays n (k + 1) edits rest next) shut
  where
    next : Layout
    next = with_edit n x lay

    stopped : Verdict
    stopped = record { refusal = edit_refusal n x lay.cost; place = k }

    later : Verdict
    later = judged n (k + 1) edits next

    go : (b : Bool) → (accepted later.refusal ≡ false → judged n (k + 1) (edits ++ rest) next ≡ later) → accepted (cond b later stopped).refusal ≡ false →
        cond b (judged n (k + 1) (edits ++ rest) next) stopped ≡ cond b later stopped
    go true more shut = more shut
    go false more shut = refl

-- what refuses a list before its first edit is 1, 2, 13, 3 or 12
pub admits-none : (n length : ℕ) (t : Tables) → let r : Outcome = admits n length t in (ltb (number r) 4 || ltb 8 (number r)) ≡ true
admits-none n length t = go (up_to most_stops n) (sized n t) (valid_passing n t.layout.passing) (right scale most_ways n t) (leb length most_edits)
  where
    go : (size lengths passable sound short : Bool) →
        let r : Outcome = need size BadSize (need lengths BadLength (need passable BadPassing (need sound BadTables (need short ListTooLong Accepted)))) in (ltb (number r) 4 || ltb 8 (number r)) ≡ true
    go false lengths passable sound short = refl
    go true false passable sound short = refl
    go true true false sound short = refl
    go true true true false short = refl
    go true true true true false = refl
    go true true true true true = refl

-- the audit, and then 12
module _ (n length : ℕ) (t : Tables) {t' : Tables} {r : Outcome} (d : Done (record { n = n; ask = audit }) t t' (of_refusal r)) where
  told : r ≡ chain n (sized n t) (valid_passing n t.layout.passing) (right scale most_ways n t) Accepted
  told = audit-tests n t d

  pub audit-refuses : accepted r ≡ false → r ≡ admits n length t
  audit-refuses shut = told ∙ go (up_to most_stops n) (sized n t) (valid_passing n t.layout.passing) (right scale most_ways n t) (ap accepted (sym told) ∙ shut)
    where
      go : (size lengths passable sound : Bool) → let tests : Outcome → Outcome = λ next. need size BadSize (need lengths BadLength (need passable BadPassing (need sound BadTables next))) in
          accepted (tests Accepted) ≡ false → tests Accepted ≡ tests (need (leb length most_edits) ListTooLong Accepted)
      go false lengths passable sound shut = refl
      go true false passable sound shut = refl
      go true true false sound shut = refl
      go true true true false shut = refl
      go true true true true shut = absurd (both refl shut)

  pub audit-passes : accepted r ≡ true → admits n length t ≡ need (leb length most_edits) ListTooLong Accepted
  audit-passes ok =
      let (size, lengths, passable, sound, rest) = chain-true n (sized n t) (valid_passing n t.layout.passing) (right scale most_ways n t) Accepted (ap accepted (sym told) ∙ ok) in
      rw (size, lengths, passable, sound)

-- the refusal of a list: the tests of the whole list, and then its edits in turn
pub list-refusal : (n : ℕ) (edits : List Edit) (t : Tables) → let first : Outcome = admits n (length edits) t in
    refusal (record { n = n; ask = edit_list edits }) t ≡ cond (accepted first) (judged n 1 edits t.layout).refusal first
unfolding refusal rule
list-refusal n edits t = go (up_to most_stops n) (sized n t) (valid_passing n t.layout.passing) (right scale most_ways n t) (leb (length edits) most_edits)
  where
    last : Outcome
    last = (judged n 1 edits t.layout).refusal

    go : (size lengths passable sound short : Bool) →
        let tests : Outcome → Outcome = λ next. need size BadSize (need lengths BadLength (need passable BadPassing (need sound BadTables (need short ListTooLong next)))) in
        tests last ≡ cond (accepted (tests Accepted)) last (tests Accepted)
    go false lengths passable sound short = refl
    go true false passable sound short = refl
    go true true false sound short = refl
    go true true true false short = refl
    go true true true true false = refl
    go true true true true true = refl
