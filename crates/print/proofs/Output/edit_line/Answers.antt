-- `edit_line` prints its numbers one behind another; each has room in the room of the whole.
use Rattle.std.proofs.Common.{ℕ, ◌+◌, ◌≤◌, List, ◌++◌, length}
use Rattle.book.specs.Call.{number, Answer}
use Rattle.book.specs.Contract.{of_edit}
use Rattle.words.specs.Text.{bytes, decimal, labelled, edit_line}
use Rattle.print.proofs.Printing.{first_fits, rest-fits, then-prints}
use Rattle.print.proofs.Output.edit_line.Goals as goal

-- the line up to its refusal, its rows and the cost before; each has room in the room of the whole
abbrev to-refusal : ℕ → Answer → List ℕ
to-refusal i a = decimal i ++ labelled " " (number a.refusal)

abbrev to-rows : ℕ → Answer → List ℕ
to-rows i a = to-refusal i a ++ labelled " " a.rows

abbrev to-before : ℕ → Answer → List ℕ
to-before i a = to-rows i a ++ labelled " " a.before

module _ (i : ℕ) (a : Answer) (at room : ℕ) (h : at + length (edit_line i a) ≤ room) where
  fits-before : at + length (to-before i a) ≤ room
  fits-before = first_fits (to-before i a) (bytes "\n") at room h

  fits-rows : at + length (to-rows i a) ≤ room
  fits-rows = first_fits (to-rows i a) (labelled " " a.before) at room fits-before

  fits-refusal : at + length (to-refusal i a) ≤ room
  fits-refusal = first_fits (to-refusal i a) (labelled " " a.rows) at room fits-rows

pub labelled-requires : goal.labelled-requires
unfolding bytes
labelled-requires c =
    let a : Answer = of_edit c.args.answer in
    rw (c.from.ensures, c.told-refusal.ensures.refusal) (rest-fits (labelled " " (number a.refusal)) c.decimal.ensures.printed (fits-refusal c.args.i a _ _ c.requires))

pub labelled-requires-2 : goal.labelled-requires-2
unfolding bytes
labelled-requires-2 c =
    let a : Answer = of_edit c.args.answer in
    let refusal = then-prints c.decimal.ensures (rw (c.from.ensures, c.told-refusal.ensures.refusal) at c.labelled.ensures) in
    rw (c.from-2.ensures, c.told-refusal.ensures.rows) (rest-fits (labelled " " a.rows) refusal.printed (fits-rows c.args.i a _ _ c.requires))

pub labelled-requires-3 : goal.labelled-requires-3
unfolding bytes
labelled-requires-3 c =
    let a : Answer = of_edit c.args.answer in
    let refusal = then-prints c.decimal.ensures (rw (c.from.ensures, c.told-refusal.ensures.refusal) at c.labelled.ensures) in
    let rows = then-prints refusal (rw (c.from-2.ensures, c.told-refusal.ensures.rows) at c.labelled-2.ensures) in
    rw (c.from-3.ensures, c.told-refusal.ensures.before) (rest-fits (labelled " " a.before) rows.printed (fits-before c.args.i a _ _ c.requires))

pub put-requires : goal.put-requires
unfolding bytes
put-requires c =
    let refusal = then-prints c.decimal.ensures (rw (c.from.ensures, c.told-refusal.ensures.refusal) at c.labelled.ensures) in
    let rows = then-prints refusal (rw (c.from-2.ensures, c.told-refusal.ensures.rows) at c.labelled-2.ensures) in
    let before = then-prints rows (rw (c.from-3.ensures, c.told-refusal.ensures.before) at c.labelled-3.ensures) in
    rest-fits (bytes "\n") before.printed c.requires

pub returns : goal.returns
unfolding bytes
returns c =
    let refusal = then-prints c.decimal.ensures (rw (c.from.ensures, c.told-refusal.ensures.refusal) at c.labelled.ensures) in
    let rows = then-prints refusal (rw (c.from-2.ensures, c.told-refusal.ensures.rows) at c.labelled-2.ensures) in
    let before = then-prints rows (rw (c.from-3.ensures, c.told-refusal.ensures.before) at c.labelled-3.ensures) in
    then-prints before c.put.ensures
