-- What hallscore's functions promise: the room of its output, a line's step on the tables, and the whole. Assumes nothing.
use Rattle.std.specs.Prelude.{ℕ, ◌+◌, ◌≤◌, ◌≡◌, cond, List, [], ◌∷◌, ◌++◌, Option, Some, None, ltb, length, drop}
use Rattle.book.specs.Hall.{Tables, most_ways, scale, filled}
use Rattle.book.specs.Book.{Book}
use Rattle.words.specs.Text.{longest, said, next, listing}
use Rattle.book.specs.declared.Edit.{Edit}
use Rattle.print.specs.Promise.{hall_bytes, line_bytes, Prints}
use Rattle.print.specs.declared.Output.{Output}

-- room for the listing of any text. A text has at most 32,768 bytes. For each byte of a line, its line feed among them, which the last
-- line may lack, at most 13 bytes are printed: an empty line is unread, and the 17 of an edit come from ten or more. With the first line
-- and 64 scores: 20 + 32,769 × 13 + 64 × 35 = 428,257 bytes, rounded up
abbrev pub room : ℕ
room = 430000

-- the book with the layout of tables of n stops
abbrev pub book_of : ℕ → Tables → Book
book_of n t = record { stops = n; layout = t.layout }

-- the bytes of lines, each with a line feed
unfoldable pub size : List (List ℕ) → ℕ
size [] = 0
size (line ∷ rest) = length line + 1 + size rest

-- line i has room behind what is written
pub record Room (i : ℕ) (o : Output) : Type 0 where
  pub count : i ≤ longest + 1
  pub space : o.written + line_bytes ≤ length o.out.now

-- line i, with what it says, has left the tables of the book after it, and printed what the book says
pub record Stepped (n i : ℕ) (e : Option Edit) (t t' : Tables) (o o' : Output) : Type 0 where
  pub left : t' ≡ filled scale most_ways n (next (book_of n t) e).layout
  pub printed : Prints (said i (book_of n t) e) o o'

-- the lines behind the first of a text that is read, and an output with room for them behind the first printed line
pub record Ready (lines : List (List ℕ)) (o : Output) : Type 0 where
  pub short : size lines ≤ longest
  pub early : o.written ≤ hall_bytes
  pub space : room ≤ length o.out.now

-- the listing from the front of the output, the bytes past it as they were; an output that is too short for some listing stays as it is
unfoldable pub wrote : List ℕ → List ℕ → Option ℕ × List ℕ
wrote input output =
    let text : List ℕ = listing input in
    cond (ltb (length output) room) (None, output) (Some (length text), text ++ drop (length text) output)
