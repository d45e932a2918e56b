-- What the parts of a list of edits promise: its tests, the turn of an edit, and the way back. Assumes nothing.
use Rattle.std.specs.Prelude.{ℕ, ◌+◌, ◌*◌, ◌<◌, ◌≡◌, true, false, cond, List, [], ◌∷◌, ◌++◌, Result, Ok, Err, eqb, leb, length, get_or, set, take}
use Rattle.std.specs.Int.Bits.{bit_or}
use Rattle.std.specs.List.{All}
use Rattle.routes.specs.Route.{has}
use Rattle.book.specs.Hall.{Layout, laid, Tables, most_stops, most_ways, most_edits, scale, up_to, costs_in, filled, sized, valid_costs, valid_passing, right}
use Rattle.book.specs.Call.{Outcome, Accepted, need, chain, edit, with_layout, Done}
use Rattle.book.specs.Contract.{of_edit}
use Rattle.book.specs.declared.Edit.{Edit}
use Rattle.book.specs.declared.Edited.{Edited}
use Rattle.book.specs.declared.Refusal.{Refusal}
use Rattle.book.specs.declared.Refusal.TheVariants.{ListTooLong}
use Rattle.tables.specs.Promise.{parts, row_of}
use Rattle.course.specs.declared.Change.{Change}
use Rattle.course.specs.declared.Course.{Course}

-- tests 1, 2, 13, 3 and 12: what refuses a list of this length before its first edit
abbrev pub admits : (n length : ℕ) → Tables → Outcome
admits n length t = chain n (sized n t) (valid_passing n t.layout.passing) (right scale most_ways n t) (need (leb length most_edits) ListTooLong Accepted)

-- the list that a function gives edit by edit: `gives i e` says that it gives e at the place i
pub record Lists (gives : ℕ → Edit → Type 0) (many : ℕ) (edits : List Edit) : Type 0 where
  pub long : length edits ≡ many
  pub each : (i : ℕ) (e : Edit) → i < many → gives i e → (d : Edit) → e ≡ get_or edits i d

-- the change of the cost table by an accepted edit, to be put back
abbrev pub change_of : ℕ → Edit → Edited → Change
change_of n e a = record { spot = e.u * n + e.v; cost = a.before }

-- the changes that a course keeps: the first of its room
abbrev pub kept : Course → List Change
kept c = take c.done c.changes

-- the course after an edit with this answer: accepted, its sources join and its change is kept; refused, nothing is noted
unfoldable pub Noted : ℕ → Edit → Result Edited Refusal → Course → Course → Type 0
Noted n e (Ok a) c c' = (c'.touched ≡ bit_or c.touched a.touched) × (c'.done ≡ c.done + 1) × (kept c' ≡ kept c ++ change_of n e a ∷ [])
Noted n e (Err r) c c' = c' ≡ c

abbrev pub outcome_of : Result Edited Refusal → Outcome
outcome_of (Ok a) = Accepted
outcome_of (Err r) = Err r

-- a turn: the edit is made, and noted
pub record Turned (n : ℕ) (e : Edit) (c c' : Course) (t t' : Tables) (said : Outcome) : Type 0 where
  pub answer : Result Edited Refusal
  pub done : Done (record { n = n; ask = edit e }) t t' (of_edit answer)
  pub told : said ≡ outcome_of answer
  pub noted : Noted n e answer c c'

-- the costs before the changes: the last one is put back first
unfoldable pub undone : List Change → List ℕ → List ℕ
undone [] cost = cost
undone (c ∷ rest) cost = set (undone rest cost) c.spot c.cost

abbrev pub undo : List Change → Layout → Layout
undo changes l = laid (undone changes l.cost) l.passing

abbrev pub IsInside : ℕ → List Change → Type 0
IsInside entries changes = All (λ c. c.spot < entries) changes

-- tables with valid costs, whose rows outside a set are those of their hall
pub record RightOutside (n sources : ℕ) (t : Tables) : Type 0 where
  pub size : up_to most_stops n ≡ true
  pub lengths : sized n t ≡ true
  pub valid : valid_costs n t.layout.cost ≡ true
  pub passable : valid_passing n t.layout.passing ≡ true
  pub below : (s : ℕ) → has sources s ≡ true → s < n
  pub rows : (s : ℕ) → s < n → has sources s ≡ false → parts n t.time t.ways t.share s ≡ row_of most_ways scale (costs_in n t.layout s) n s

-- what a refused list leaves: the tables as they are where no edit was made, else those of the costs before the changes
abbrev pub restored : ℕ → Course → Tables → Tables
restored n c t = cond (eqb c.done 0) t (filled scale most_ways n (undo (kept c) t.layout))

-- what putting back asks: the changes lie inside the cost table, and with the costs before them the tables are as said
pub record Undoes (n sources : ℕ) (changes : List Change) (t : Tables) : Type 0 where
  pub inside : IsInside (length t.layout.cost) changes
  pub outside : RightOutside n sources (with_layout (undo changes t.layout) t)
