-- What contracts name, part by part: each table by its own list, and each part of an answer by its own field.
-- Assumes nothing.
use Rattle.std.specs.Prelude.{Ok, Err}
use mathlib.Core.Path.{◌≡◌, refl}
use mathlib.Core.List.{List, []}
use Prim.Native.Nat.{ℕ}
use Rattle.book.specs.Hall.{Tables, no_passing}
use Rattle.book.specs.Call.{Outcome, Accepted, Answer}
use Rattle.book.specs.Contract.{found, left, left_beside, found_unpassed, left_shares, seen, held, of_refusal, of_edit, of_list, of_write}
use Rattle.book.specs.declared.Edited.{Edited}
use Rattle.book.specs.declared.ListEdited.{ListEdited}
use Rattle.book.specs.declared.ListRefused.{ListRefused}
use Rattle.book.specs.declared.Refusal.{Refusal}
use Rattle.book.specs.declared.lent.Lent.{Lent}
use Rattle.book.specs.declared.lent.LentMut.{LentMut}

-- the tables are these lists, in this order
abbrev Are : Tables → (cost passing time ways share score : List ℕ) → Type 0
Are t cost passing time ways share score = (t.layout.cost ≡ cost) × (t.layout.passing ≡ passing) × (t.time ≡ time) × (t.ways ≡ ways) × (t.share ≡ share) × (t.score ≡ score)

module _ (cost passing time ways share score : List ℕ) where
  pub found-so : Are (found cost passing time ways share score) cost passing time ways share score
  found-so = (refl, refl, refl, refl, refl, refl)

  pub left_so : Are (left cost passing time ways share score) cost passing time ways share score
  left_so = (refl, refl, refl, refl, refl, refl)

  pub beside-so : Are (left_beside cost passing time ways share score) cost passing time ways share score
  beside-so = (refl, refl, refl, refl, refl, refl)

  pub unpassed-so : (n : ℕ) → Are (found_unpassed n cost time ways share score) cost (no_passing n) time ways share score
  unpassed-so n = (refl, refl, refl, refl, refl, refl)

  pub shares-so : (n : ℕ) → Are (left_shares n cost time ways share score) cost (no_passing n) time ways share score
  shares-so n = (refl, refl, refl, refl, refl, refl)

pub seen-so : (t : Lent) → Are (seen t) t.cost.now t.passing.now t.time.now t.ways.now t.share.now t.score.now
seen-so t = (refl, refl, refl, refl, refl, refl)

pub held-so : (t : LentMut) → Are (held t) t.cost.now t.passing.now t.time.now t.ways.now t.share.now t.score.now
held-so t = (refl, refl, refl, refl, refl, refl)

-- the answer has these parts, in the order of the record
abbrev Says : Answer → Outcome → (place touched rows before length : ℕ) → (buffer : List ℕ) → Type 0
Says a refusal place touched rows before length buffer =
    (a.refusal ≡ refusal) × (a.place ≡ place) × (a.touched ≡ touched) × (a.rows ≡ rows) × (a.before ≡ before) × (a.length ≡ length) × (a.buffer ≡ buffer)

pub refusal-so : (r : Outcome) → Says (of_refusal r) r 0 0 0 0 0 []
refusal-so r = (refl, refl, refl, refl, refl, refl, refl)

pub edit-so : (e : Edited) → Says (of_edit (Ok e)) Accepted 0 e.touched e.rows e.before 0 []
edit-so e = (refl, refl, refl, refl, refl, refl, refl)

pub no-edit-so : (r : Refusal) → Says (of_edit (Err r)) (Err r) 0 0 0 0 0 []
no-edit-so r = (refl, refl, refl, refl, refl, refl, refl)

pub list-so : (l : ListEdited) → Says (of_list (Ok l)) Accepted 0 l.touched l.rows 0 0 []
list-so l = (refl, refl, refl, refl, refl, refl, refl)

pub no-list-so : (l : ListRefused) → Says (of_list (Err l)) (Err l.refusal) l.place 0 0 0 0 []
no-list-so l = (refl, refl, refl, refl, refl, refl, refl)

pub write-so : (length : ℕ) (buffer : List ℕ) → Says (of_write (Ok length) buffer) Accepted 0 0 0 0 length buffer
write-so length buffer = (refl, refl, refl, refl, refl, refl, refl)

pub no-write-so : (r : Refusal) (buffer : List ℕ) → Says (of_write (Err r) buffer) (Err r) 0 0 0 0 0 buffer
no-write-so r buffer = (refl, refl, refl, refl, refl, refl, refl)
