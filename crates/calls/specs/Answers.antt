-- What an answer says, by what a call came to. Assumes nothing.
use Rattle.std.specs.Prelude.{ℕ, Option, Some, None, Result, Ok, Err, ⊤}
use Rattle.book.specs.declared.Refusal.{Refusal}
use Rattle.book.specs.declared.Edited.{Edited}
use Rattle.book.specs.declared.ListEdited.{ListEdited}
use Rattle.book.specs.declared.ListRefused.{ListRefused}
use Rattle.book.specs.Call.{number as refusal_number}
use Rattle.calls.specs.declared.answer.Answer.{Answer}

abbrev pub number : Option Refusal → ℕ
number None = 0
number (Some r) = refusal_number (Err r)

abbrev pub of_refusal : Option Refusal → Answer
of_refusal r = record { refusal = r; touched = 0; rows = 0; before = 0; place = 0; length = 0 }

abbrev pub of_outcome : Result ⊤ Refusal → Answer
of_outcome (Ok _) = of_refusal None
of_outcome (Err r) = of_refusal (Some r)

abbrev pub of_edit : Result Edited Refusal → Answer
of_edit (Ok e) = record { refusal = None; touched = e.touched; rows = e.rows; before = e.before; place = 0; length = 0 }
of_edit (Err r) = of_refusal (Some r)

abbrev pub of_list : Result ListEdited ListRefused → Answer
of_list (Ok l) = record { refusal = None; touched = l.touched; rows = l.rows; before = 0; place = 0; length = 0 }
of_list (Err l) = record { refusal = Some l.refusal; touched = 0; rows = 0; before = 0; place = l.place; length = 0 }

abbrev pub of_write : Result ℕ Refusal → Answer
of_write (Ok length) = record { refusal = None; touched = 0; rows = 0; before = 0; place = 0; length = length }
of_write (Err r) = of_refusal (Some r)
