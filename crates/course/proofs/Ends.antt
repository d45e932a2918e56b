-- The end of a list of edits: refused before its first edit, refused at an edit and put back, or accepted. Assumes nothing.
use Rattle.std.specs.Prelude.{Ok, Err}
use Rattle.std.proofs.lemmas.List.{append_assoc}
use Prim.Native.Nat.{ℕ, ◌+◌, ◌<◌}
use mathlib.Core.Path.{◌≡◌, refl, sym, ◌∙◌, ap, subst}
use mathlib.Core.Bool.{Bool, true, false, cond, ◌||◌, and-eq-true_iff}
use mathlib.Core.List.{List, [], ◌∷◌, ◌++◌}
use native.Mathlib.Omega.{arith}
use lib.Count.{ones}
use lib.Dec.{eqb, ltb}
use lib.ListN.{length}
use borrow.Author.Tests.{eqb-true, ltb-true}
use Rattle.routes.specs.Route.{has, set_of}
use Rattle.routes.proofs.Bits.{has-set_of, ones-set_of}
use Rattle.book.specs.Hall.{Tables, most_ways, scale, filled, sized, Layout}
use Rattle.book.specs.Call.{Accepted, Call, edit, edit_list, accepted, with_edits, touched_by, judged, of_an_edit, number, rule, refusal, refused_at, Done, with_layout}
use Rattle.book.specs.Contract.{of_edit, of_list}
use Rattle.book.specs.Turned.{without_place}
use Rattle.book.specs.declared.Edit.{Edit}
use Rattle.book.specs.declared.Refusal.{Refusal}
use Rattle.book.proofs.Filled.{sized-cost, sized-passing}
use Rattle.book.proofs.Sizes.{stops}
use Rattle.book.proofs.Passed.{accepted-only}
use Rattle.book.proofs.Refused.{refused-done}
use Rattle.book.proofs.Doors.{accepted-done}
use Rattle.book.proofs.Sets.{member, row_same}
use Rattle.book.proofs.Places.{none_told, edit-tells}
use Rattle.book.proofs.Lists.{list-stays}
use Rattle.course.specs.declared.Course.{Course}
use Rattle.course.specs.Promise.{admits, kept, undo, undone, restored, Undoes}
use Rattle.course.proofs.Rows.{row-of}
use Rattle.course.proofs.Verdicts.{admits-none, judged-stays, list-refusal}
use Rattle.course.proofs.Standing.{Running, running-audited, judged-next, edit-kept}

-- tables have their lengths whatever their layout, as long as it has its own
sized-with : (n : ℕ) (t : Tables) (lay : Layout) → length lay.cost ≡ length t.layout.cost → length lay.passing ≡ length t.layout.passing →
    sized n (with_layout lay t) ≡ sized n t
unfolding sized
sized-with n t lay costs passings = rw (costs, passings)

module _ (n : ℕ) (start : Tables) (made : List Edit) (c : Course) (t : Tables) (r : Running n start made c t) where
  abbrev now : Tables
  now = filled scale most_ways n (with_edits n made start.layout)

  member_of : (s : ℕ) → s < n → has c.touched s ≡ touched_by n made start.layout s
  member_of s l = rw r.union (member n (touched_by n made start.layout) s l)

  -- the edits that were made can be put back
  pub can-undo : Undoes n c.touched (kept c) t
  can-undo =
      let a = running-audited n start made c t r in
      let square : length start.layout.cost ≡ length t.layout.cost = r.held.square ∙ sym (sized-cost n t a.inside.lengths) in
      let long : length start.layout.passing ≡ length t.layout.passing = r.held.long ∙ sym (sized-passing n t a.inside.lengths) in
      record {
        inside = rw (sized-cost n t a.inside.lengths) r.inside;
        outside = rw r.back (record {
          size = r.held.size;
          lengths = sized-with n t start.layout square long ∙ a.inside.lengths;
          valid = r.held.valid;
          passable = r.held.passable;
          below = λ s e. ltb-true s n ((and-eq-true_iff (ltb s n) (touched_by n made start.layout s)).0 (sym (has-set_of n (touched_by n made start.layout) s) ∙ (rw r.union at e))).0;
          rows = λ s l away. rw r.now (row-of n start.layout (with_edits n made start.layout) s l (stops n r.held.size).1
              (row_same n (filled scale most_ways n start.layout) now s (list-stays n 1 made start.layout r.held r.taken s l (sym (member_of s l) ∙ away))));
        });
      }

  -- and put back they are as they were
  pub back-again : filled scale most_ways n (undo (kept c) t.layout) ≡ start
  back-again = ap (filled scale most_ways n) r.back ∙ r.begins

  -- where none was made they are so already
  pub restored-start : restored n c t ≡ start
  unfolding undone filled
  restored-start = go (eqb c.done 0) refl
    where
      go : (none : Bool) → eqb c.done 0 ≡ none → cond none t (filled scale most_ways n (undo (kept c) t.layout)) ≡ start
      go true none =
          let empty : c.done ≡ 0 = eqb-true c.done 0 none in
          let first : t.layout ≡ start.layout = rw empty at r.back in
          r.now ∙ ap (filled scale most_ways n) (sym (ap (λ x. x.layout) r.now) ∙ first) ∙ r.begins
      go false some = back-again

-- refused before its first edit
pub list-shut : (n : ℕ) (list : List Edit) (start : Tables) (refusal : Refusal) → Err refusal ≡ admits n (length list) start →
    Done (record { n = n; ask = edit_list list }) start start (of_list (Err (without_place refusal)))
unfolding rule
list-shut n list start shut told =
    let none = none_told (Err shut) (judged n 1 list start.layout).place (subst (λ r. (ltb (number r) 4 || ltb 8 (number r)) ≡ true) (sym told) (admits-none n (length list) start)) in
    subst (λ k. Done call start start (refused_at (Err shut) k [])) none (refused-done call start (Err shut) (list-refusal n list start ∙ rw (← told) refl) refl)
  where
    call : Call
    call = record { n = n; ask = edit_list list }

-- a list that was let in, of which these edits were made
module _ (n : ℕ) (list : List Edit) (start : Tables) (let_in : admits n (length list) start ≡ Accepted) (made : List Edit) (c : Course) (t : Tables)
    (r : Running n start made c t) where
  abbrev call : Call
  call = record { n = n; ask = edit_list list }

  told : refusal call start ≡ (judged n 1 list start.layout).refusal
  told = list-refusal n list start ∙ rw let_in refl

  -- refused at the next edit, and put back
  pub list-stopped : (e : Edit) (rest : List Edit) → list ≡ made ++ e ∷ rest → (t' : Tables) (refusal : Refusal) →
      Done (record { n = n; ask = edit e }) t t' (of_edit (Err refusal)) → Done call start (restored n c t') (of_list (Err (record { refusal = refusal; place = length made + 1 })))
  unfolding rule
  list-stopped e rest same t' shut d =
      rw back (subst (λ k. Done call start start (refused_at (Err shut) k [])) place (refused-done call start (Err shut) (told ∙ ap (λ v. v.refusal) verdict) refl))
    where
      back : restored n c t' ≡ start
      back = rw (edit-kept n e t t' (Err shut) d refl) (restored-start n start made c t r)

      first : judged n 1 (made ++ e ∷ []) start.layout ≡ record { refusal = Err shut; place = 1 + length made }
      first = judged-next n start made c t r e t' (Err shut) d

      whole : made ++ e ∷ rest ≡ (made ++ e ∷ []) ++ rest
      whole = sym (append_assoc made (e ∷ []) rest)

      verdict : judged n 1 list start.layout ≡ record { refusal = Err shut; place = 1 + length made }
      verdict = rw (same, whole) (judged-stays n 1 (made ++ e ∷ []) rest start.layout (rw first refl) ∙ first)

      place : cond (of_an_edit (Err shut)) (judged n 1 list start.layout).place 0 ≡ length made + 1
      place =
          let tells : of_an_edit (Err shut) ≡ true = ap of_an_edit (sym (ap (λ v. v.refusal) verdict)) ∙ edit-tells n 1 list start.layout (ap (λ v. accepted v.refusal) verdict) in
          rw (tells, verdict) (omega arith)

  -- all of them
  pub list-taken : made ≡ list → Done call start t (of_list (Ok (record { touched = c.touched; rows = ones c.touched })))
  unfolding rule
  list-taken same =
      accepted-done call start t _ (told ∙ accepted-only _ (rw same at r.taken)) (r.now ∙ rw same)
      (λ i. of_list (Ok (record { touched = union i; rows = (ap ones union ∙ ones-set_of n (touched_by n list start.layout)) i })))
    where
      union : c.touched ≡ set_of n (touched_by n list start.layout)
      union = rw same at r.union

-- however a list ends, the call is done: refused before its edits, refused at one of them and put back, or accepted
pub list_done : (n : ℕ) (list : List Edit) (start : Tables) → let call : Call = record { n = n; ask = edit_list list } in
    ((refusal : Refusal) → Err refusal ≡ admits n (length list) start → Done call start start (of_list (Err (without_place refusal)))) ×
    (admits n (length list) start ≡ Accepted → (made : List Edit) (c : Course) (t : Tables) → Running n start made c t →
    ((e : Edit) (rest : List Edit) → list ≡ made ++ e ∷ rest → (t' : Tables) (refusal : Refusal) → Done (record { n = n; ask = edit e }) t t' (of_edit (Err refusal)) →
    Done call start (restored n c t') (of_list (Err (record { refusal = refusal; place = length made + 1 })))) ×
    (made ≡ list → Done call start t (of_list (Ok (record { touched = c.touched; rows = ones c.touched })))))
list_done n list start = (list-shut n list start, λ let_in made c t r. (list-stopped n list start let_in made c t r, list-taken n list start let_in made c t r))
