-- How contracts name what a call is lent and gives back: the tables and the passing times as it found them and as it left them, and
-- its answer. Assumes nothing.
use Rattle.std.specs.Prelude.{ℕ, ◌≡◌, true, cond, List, [], Result, Ok, Err, leb, length}
use Rattle.book.specs.Hall.{Layout, laid, Tables, most_stops, most_ways, scale, up_to, sized, valid_passing, no_passing, right}
use Rattle.book.specs.Call.{Outcome, Accepted, Answer, refused_at, plain, writes, chain}
use Rattle.book.specs.declared.Edited.{Edited}
use Rattle.book.specs.declared.ListEdited.{ListEdited}
use Rattle.book.specs.declared.ListRefused.{ListRefused}
use Rattle.book.specs.declared.Refusal.{Refusal}
use Rattle.book.specs.declared.Refusal.TheVariants.{ShortBuffer}
use Rattle.book.specs.declared.lent.Lent.{Lent}
use Rattle.book.specs.declared.lent.LentMut.{LentMut}

-- the tables of these lists
abbrev pub tables : (cost passing time ways share score : List ℕ) → Tables
tables cost passing time ways share score = record { layout = laid cost passing; time = time; ways = ways; share = share; score = score }

-- a contract hands over what its lent lists hold: for the tables as a call found them `.old` of a list that is lent to be written, and
-- `.now` of one that is lent to be read; for the tables as it left them `.new` of the former
abbrev pub these : (cost passing time ways share score : List ℕ) → Tables
these cost passing time ways share score = tables cost passing time ways share score

abbrev pub found : (cost passing time ways share score : List ℕ) → Tables
found cost passing time ways share score = these cost passing time ways share score

abbrev pub left : (cost passing time ways share score : List ℕ) → Tables
left cost passing time ways share score = these cost passing time ways share score

-- the same beside a cost table that is lent to be read
abbrev pub left_beside : (cost passing time ways share score : List ℕ) → Tables
left_beside cost passing time ways share score = these cost passing time ways share score

-- the same for the moving call, which is lent no passing times and has 0 for each of n stops; costs, times and ways are lent to be read
abbrev pub found_unpassed : ℕ → (cost time ways share score : List ℕ) → Tables
found_unpassed n cost time ways share score = tables cost (no_passing n) time ways share score

abbrev pub left_shares : ℕ → (cost time ways share score : List ℕ) → Tables
left_shares n cost time ways share score = tables cost (no_passing n) time ways share score

-- the layout of two lent tables, as they are and as a call found them
abbrev pub this_layout : (cost passing : List ℕ) → Layout
this_layout cost passing = laid cost passing

abbrev pub found_layout : (cost passing : List ℕ) → Layout
found_layout cost passing = this_layout cost passing

-- the tables that are lent together, to be read and to be written
abbrev pub seen : Lent → Tables
seen t = tables t.cost.now t.passing.now t.time.now t.ways.now t.share.now t.score.now

abbrev pub held : LentMut → Tables
held t = tables t.cost.now t.passing.now t.time.now t.ways.now t.share.now t.score.now

-- a call leaves the same loans in the struct, so that what it wrote stands where the host lent it, and the passing times as they were
pub record SameLoans (t t' : LentMut) : Type 0 where
  pub cost : t'.cost.ghost_name ≡ t.cost.ghost_name
  pub passing : t'.passing.now ≡ t.passing.now
  pub time : t'.time.ghost_name ≡ t.time.ghost_name
  pub ways : t'.ways.ghost_name ≡ t.ways.ghost_name
  pub share : t'.share.ghost_name ≡ t.share.ghost_name
  pub score : t'.score.ghost_name ≡ t.score.ghost_name

-- an answer as the code gives it: of a call that tells nothing more than its refusal, of an edit, of a list, and of a call that writes with
-- its buffer
abbrev pub of_refusal : Outcome → Answer
of_refusal r = plain r []

abbrev pub of_edit : Result Edited Refusal → Answer
of_edit (Ok e) = record { refusal = Accepted; place = 0; touched = e.touched; rows = e.rows; before = e.before; length = 0; buffer = [] }
of_edit (Err r) = plain (Err r) []

abbrev pub of_list : Result ListEdited ListRefused → Answer
of_list (Ok l) = record { refusal = Accepted; place = 0; touched = l.touched; rows = l.rows; before = 0; length = 0; buffer = [] }
of_list (Err l) = refused_at (Err l.refusal) l.place []

abbrev pub of_write : Result ℕ Refusal → List ℕ → Answer
of_write (Ok length) buffer = record { refusal = Accepted; place = 0; touched = 0; rows = 0; before = 0; length = length; buffer = buffer }
of_write (Err r) buffer = plain (Err r) buffer

-- the answer of a call that writes, behind the tests before 10: its bytes at the front of the buffer where they fit, else the buffer as it was
abbrev pub stored : (bytes buffer : List ℕ) → Answer
stored bytes buffer = cond (leb (length bytes) (length buffer)) (writes bytes buffer) (plain (Err ShortBuffer) buffer)

-- the door: tests 1, 2 and 13 of the lent tables
abbrev pub door_tests : ℕ → Tables → Outcome
door_tests n t = chain n (sized n t) (valid_passing n t.layout.passing) true Accepted

-- what the door found, and what the audit found behind it
pub record Inside (n : ℕ) (t : Tables) : Type 0 where
  pub size : up_to most_stops n ≡ true
  pub lengths : sized n t ≡ true
  pub passable : valid_passing n t.layout.passing ≡ true

pub record Audited (n : ℕ) (t : Tables) : Type 0 where
  pub inside : Inside n t
  pub sound : right scale most_ways n t ≡ true
