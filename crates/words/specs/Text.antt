-- hallscore, whole (document 01, with requests 1, 3, 7 and 8 of document 02): the listing that it prints, for any text. A text is the list of
-- its bytes. Assumes nothing.
use Rattle.std.specs.Prelude.{ℕ, zero, suc, ◌+◌, ◌*◌, ◌-◌, ◌/◌, ◌%◌, Bool, true, cond, ◌&&◌, List, [], ◌∷◌, ◌++◌, eqb, ltb, leb, length, Option, Some, None}
use Prim.Native.Char.{code}
use Prim.Native.String.{String, [] as end, ◌∷◌ as ◌then◌}
use Rattle.routes.specs.Route.{join_to, same, score}
use Rattle.book.specs.Hall.{most_stops, most_ways, scale, up_to, costs_in, no_passing, no_links}
use Rattle.book.specs.Call.{edit, number, Answer}
use Rattle.book.specs.Book.{Book, book_after, book_answer}
use Rattle.book.specs.declared.Edit.{Edit}
use Rattle.book.specs.declared.Kind.{Kind}
use Rattle.book.specs.declared.Kind.TheVariants.{Insert, Cheapen, Raise, Delete}

-- the longest text that is read, in bytes
abbrev pub longest : ℕ
longest = 32768

-- the bytes of a quoted text
unfoldable pub bytes : String → List ℕ
bytes end = []
bytes (c then s) = code c ∷ bytes s

-- a text in parts, at each byte d; `last` are the parts of an empty text
unfoldable pub before : ℕ → List (List ℕ) → List (List ℕ)
before x [] = (x ∷ []) ∷ []
before x (part ∷ rest) = (x ∷ part) ∷ rest

unfoldable pub parts : ℕ → List (List ℕ) → List ℕ → List (List ℕ)
parts d last [] = last
parts d last (x ∷ text) = cond (eqb x d) ([] ∷ parts d last text) (before x (parts d last text))

-- lines end in a line feed, which the last may lack: after it no line is open
abbrev pub lines : List ℕ → List (List ℕ)
lines text = parts 10 [] text

-- words part at one space: after it a word is open, if only an empty one
abbrev pub words : List ℕ → List (List ℕ)
words line = parts 32 ([] ∷ []) line

-- a number is 1 to 10 digits, at most 4294967295
unfoldable pub digits : List ℕ → Bool
digits [] = true
digits (x ∷ word) = (leb 48 x && leb x 57) && digits word

unfoldable pub value_from : ℕ → List ℕ → ℕ
value_from x [] = x
value_from x (d ∷ word) = value_from (10 * x + (d - 48)) word

unfoldable pub number_of : List ℕ → Option ℕ
number_of word =
    let x : ℕ = value_from 0 word in
    cond (up_to 10 (length word) && (digits word && leb x 4294967295)) (Some x) None

-- the n of the line `hall n`, and as a number of stops: 0 where the line is none
unfoldable pub hall_word : List (List ℕ) → Option ℕ
hall_word [] = None
hall_word (h ∷ []) = None
hall_word (h ∷ n ∷ []) = cond (same h (bytes "hall")) (number_of n) None
hall_word (h ∷ n ∷ x ∷ more) = None

abbrev pub stops_of : Option ℕ → ℕ
stops_of (Some n) = n
stops_of None = 0

abbrev pub hall_of : List (List ℕ) → ℕ
hall_of words = stops_of (hall_word words)

-- the kind of edit that a word names: of those with a cost, and of those without
unfoldable pub kind_in : List (List ℕ × Kind) → List ℕ → Option Kind
kind_in [] word = None
kind_in (k ∷ more) word = cond (same word k.0) (Some k.1) (kind_in more word)

abbrev pub costly_kind : List ℕ → Option Kind
costly_kind =
    kind_in
    ((bytes "insert", Insert) ∷
    (bytes "cheapen", Cheapen) ∷
    (bytes "raise", Raise) ∷
    [])

abbrev pub plain_kind : List ℕ → Option Kind
plain_kind =
    kind_in
    ((bytes "delete", Delete) ∷
    [])

-- the edit of a kind, u, v and a cost
unfoldable pub edit_of : Option Kind → Option ℕ → Option ℕ → Option ℕ → Option Edit
edit_of (Some k) (Some u) (Some v) (Some c) = Some (record { kind = k; u = u; v = v; cost = c })
edit_of (Some k) (Some u) (Some v) None = None
edit_of (Some k) (Some u) None c = None
edit_of (Some k) None v c = None
edit_of None u v c = None

-- an edit line is the kind, u, v and, where the kind has one, the cost
unfoldable pub line_of : List (List ℕ) → Option Edit
line_of [] = None
line_of (k ∷ []) = None
line_of (k ∷ u ∷ []) = None
line_of (k ∷ u ∷ v ∷ []) = edit_of (plain_kind k) (number_of u) (number_of v) (Some 0)
line_of (k ∷ u ∷ v ∷ c ∷ []) = edit_of (costly_kind k) (number_of u) (number_of v) (number_of c)
line_of (k ∷ u ∷ v ∷ c ∷ x ∷ more) = None

-- a number in decimal, of at most k + 1 digits; 20 hold every 64-bit number
unfoldable pub decimal_to : ℕ → ℕ → List ℕ
decimal_to zero x = (48 + x % 10) ∷ []
decimal_to (suc k) x = cond (ltb x 10) ((48 + x) ∷ []) (decimal_to k (x / 10) ++ ((48 + x % 10) ∷ []))

abbrev pub decimal : ℕ → List ℕ
decimal x = decimal_to 19 x

-- a text and a number behind it
abbrev pub labelled : String → ℕ → List ℕ
labelled text x = bytes text ++ decimal x

-- the printed lines: n and scale; an edit's line number, refusal, touched rows and cost before; an unread line's number; a stop's score
abbrev pub hall_line : ℕ → List ℕ
hall_line n = labelled "hall " n ++ labelled " scale " scale ++ bytes "\n"

abbrev pub edit_line : ℕ → Answer → List ℕ
edit_line i a = decimal i ++ labelled " " (number a.refusal) ++ labelled " " a.rows ++ labelled " " a.before ++ bytes "\n"

abbrev pub unread_line : ℕ → List ℕ
unread_line i = decimal i ++ bytes " unread\n"

abbrev pub stop_line : ℕ → ℕ → List ℕ
stop_line v x = labelled "stop " v ++ labelled " score " x ++ bytes "\n"

-- line i over the book: what it prints, and the book after it
unfoldable pub said : ℕ → Book → Option Edit → List ℕ
said i b None = unread_line i
said i b (Some e) = edit_line i (book_answer (record { n = b.stops; ask = edit e }) b)

unfoldable pub next : Book → Option Edit → Book
next b None = b
next b (Some e) = book_after (record { n = b.stops; ask = edit e }) b

-- the book at first: no links, and every passing time 0
abbrev pub empty_book : ℕ → Book
empty_book n = record { stops = n; layout = no_links n (no_passing n) }

-- the lines from line i on, and then the scores
unfoldable pub report : ℕ → Book → List (List ℕ) → List ℕ
report i b [] = join_to b.stops (λ v. stop_line v (score (costs_in b.stops b.layout) b.stops most_ways scale v))
report i b (line ∷ rest) = said i b (line_of (words line)) ++ report (i + 1) (next b (line_of (words line))) rest

-- the whole: the first line is the hall
unfoldable pub of_lines : List (List ℕ) → List ℕ
of_lines [] = bytes "no hall\n"
of_lines (line ∷ rest) =
    let n : ℕ = hall_of (words line) in
    cond (up_to most_stops n) (hall_line n ++ report 2 (empty_book n) rest) (bytes "no hall\n")

unfoldable pub listing : List ℕ → List ℕ
listing input = cond (ltb longest (length input)) (bytes "too long\n") (of_lines (lines input))
