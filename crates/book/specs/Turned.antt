-- A list of edits that is refused before its edits. Assumes nothing.
use Rattle.book.specs.declared.ListRefused.{ListRefused}
use Rattle.book.specs.declared.Refusal.{Refusal}

abbrev pub without_place : Refusal → ListRefused
without_place r = record { refusal = r; place = 0 }
