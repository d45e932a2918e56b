-- What printing promises: how long a printed line is at most, and where a text is written. Assumes nothing.
use Rattle.std.specs.Prelude.{ℕ, ◌+◌, ◌≤◌, ◌≡◌, List, length}
use Rattle.std.proofs.lemmas.List.Edits.{sets}
use Rattle.print.specs.declared.Output.{Output}

-- the most bytes of a printed line, its line feed among them: `hall 64 scale 27720`; `32769 unread`; an edit's `32769 0 63 65535`,
-- longer than a refused one's `32769 8 0 0`; `stop 63 score ` and 20 digits
abbrev pub hall_bytes : ℕ
hall_bytes = 20

abbrev pub unread_bytes : ℕ
unread_bytes = 13

abbrev pub line_bytes : ℕ
line_bytes = 17

abbrev pub stop_bytes : ℕ
stop_bytes = 35

-- the text is written into `out` from place `at` on, `end` is the place behind it, and all of it fits
pub record Printed (text : List ℕ) (at : ℕ) (out : List ℕ) (end : ℕ) (out' : List ℕ) : Type 0 where
  pub behind : end ≡ at + length text
  pub written : out' ≡ sets out at text
  pub inside : end ≤ length out

-- the output has room for a text behind what is written
abbrev pub Fits : List ℕ → Output → Type 0
Fits text o = o.written + length text ≤ length o.out.now

-- the text is written behind what was written, and the output is still the one that was lent
pub record Prints (text : List ℕ) (o o' : Output) : Type 0 where
  pub printed : Printed text o.written o.out.now o'.written o'.out.now
  pub same : o'.out.ghost_name ≡ o.out.ghost_name
