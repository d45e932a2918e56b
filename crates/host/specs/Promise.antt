-- What the C face promises: the call that it hands on, and its answer in numbers. Assumes nothing.
use Rattle.std.specs.Prelude.{ℕ, ◌<◌, ◌≡◌, List, []}
use Rattle.book.specs.Hall.{Tables}
use Rattle.book.specs.Call.{Call, edit_list, Answer, number, after, answer}
use Rattle.flat_list.specs.Flat.{edits_of, first_other}
use Rattle.host.specs.declared.HallEdited.{HallEdited}
use Rattle.host.specs.declared.HallListed.{HallListed}
use Rattle.host.specs.declared.HallWritten.{HallWritten}

-- an answer with the documents' number for its refusal
pub record Numbers : Type 0 where
  pub refusal : ℕ
  pub place : ℕ
  pub touched : ℕ
  pub rows : ℕ
  pub before : ℕ
  pub length : ℕ
  pub buffer : List ℕ

abbrev pub in_numbers : Answer → Numbers
in_numbers a = record { refusal = number a.refusal; place = a.place; touched = a.touched; rows = a.rows; before = a.before; length = a.length; buffer = a.buffer }

-- the answers as the C face gives them: a refusal alone, an edit's, a list's, and that of a call that writes, with its buffer
abbrev pub of_number : ℕ → Numbers
of_number r = record { refusal = r; place = 0; touched = 0; rows = 0; before = 0; length = 0; buffer = [] }

abbrev pub of_edited : HallEdited → Numbers
of_edited a = record { refusal = a.refusal; place = 0; touched = a.touched; rows = a.rows; before = a.before; length = 0; buffer = [] }

abbrev pub of_listed : HallListed → Numbers
of_listed a = record { refusal = a.refusal; place = a.place; touched = a.touched; rows = a.rows; before = 0; length = 0; buffer = [] }

abbrev pub of_written : HallWritten → List ℕ → Numbers
of_written a buffer = record { refusal = a.refusal; place = 0; touched = 0; rows = 0; before = 0; length = a.length; buffer = buffer }

-- a call did what the documents say: the tables that it left, and its answer
pub record Handed (c : Call) (t t' : Tables) (x : Numbers) : Type 0 where
  pub left : t' ≡ after c t
  pub said : x ≡ in_numbers (answer c t)

-- the answer to a list whose edit at this place is none
abbrev pub no_edit_at : ℕ → HallListed
no_edit_at place = record { refusal = 255; place = place; touched = 0; rows = 0 }

-- a list of edits is handed on; of another the first that is none is told, and nothing is done
pub record HandedList (n : ℕ) (list : List ℕ) (t t' : Tables) (a : HallListed) : Type 0 where
  pub edits : first_other list ≡ 0 → Handed (record { n = n; ask = edit_list (edits_of list) }) t t' (of_listed a)
  pub other : 0 < first_other list → (t' ≡ t) × (a ≡ no_edit_at (first_other list))
