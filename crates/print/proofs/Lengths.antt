-- Laws of the lengths of printed lines. Assumes nothing.
use Prim.Native.Nat.{ℕ, ◌+◌, ◌*◌, ◌^◌, ◌<◌, ◌≤◌}
use mathlib.Core.Path.{◌≡◌}
use mathlib.Core.Bool.{Bool, true, false, cond}
use mathlib.Core.List.{List, [], ◌∷◌}
use native.Mathlib.Omega.{arith}
use lib.Dec.{lit<}
use lib.ListN.{length, length-append}
use Rattle.std.specs.Prelude.{Option, Some, None, Ok, Err}
use Rattle.routes.specs.Route.{sum_to}
use Rattle.routes.proofs.Sums.{sum_to-bound}
use Rattle.book.specs.Hall.{most_stops, largest_cost, scale, entry, touched}
use Rattle.book.specs.Call.{Call, edit, Outcome, number, accepted, with_edit, rule}
use Rattle.book.specs.Book.{Book, book_refusal, book_answer}
use Rattle.book.proofs.Answers.{reply-either}
use Rattle.book.proofs.Sizes.{stops}
use Rattle.book.proofs.Tables.{valid-costs}
use Rattle.book.proofs.Passed.{permitted}
use Rattle.book.proofs.Steps.{Held, accepted-book}
use Rattle.book.specs.declared.Edit.{Edit}
use Rattle.book.specs.declared.Refusal.TheVariants.{BadSize, BadLength, BadTables, BadStop, BadCost, LinkPresent, LinkAbsent, CostWrongSide, BadImage, ShortBuffer, TooManyWays, ListTooLong, BadPassing, CrowdedPair}
use Rattle.words.specs.Text.{longest, bytes, parts, words, line_of, decimal, hall_line, edit_line, unread_line, stop_line, said}
use Rattle.print.specs.Promise.{hall_bytes, unread_bytes, line_bytes, stop_bytes}
use Rattle.print.proofs.Printing.{decimal-below}

-- a printed line is short
number_short : (r : Outcome) → number r < 100
number_short (Ok t) = lit< tt
number_short (Err BadSize) = lit< tt
number_short (Err BadLength) = lit< tt
number_short (Err BadTables) = lit< tt
number_short (Err BadStop) = lit< tt
number_short (Err BadCost) = lit< tt
number_short (Err LinkPresent) = lit< tt
number_short (Err LinkAbsent) = lit< tt
number_short (Err CostWrongSide) = lit< tt
number_short (Err BadImage) = lit< tt
number_short (Err ShortBuffer) = lit< tt
number_short (Err TooManyWays) = lit< tt
number_short (Err ListTooLong) = lit< tt
number_short (Err BadPassing) = lit< tt
number_short (Err CrowdedPair) = lit< tt

ones : (n : ℕ) (p : ℕ → Bool) → sum_to n (λ s. cond (p s) 1 0) ≤ n
ones n p = omega (arith, sum_to-bound n 1 {f = λ s. cond (p s) 1 0} (λ s l. one (p s)))
  where
    one : (x : Bool) → cond x 1 0 ≤ 1
    one true = omega arith
    one false = omega arith

-- of an edit of a hall: its number is short where it is refused, its rows and the cost before where it is accepted
edit-short : (i : ℕ) (x : Edit) (b : Book) → i ≤ longest + 1 → Held b.stops b.layout → length (edit_line i (book_answer (record { n = b.stops; ask = edit x }) b)) ≤ line_bytes
unfolding book_answer rule bytes
edit-short i x b h held =
    reply-either (λ a. length (edit_line i a) ≤ line_bytes) (book_refusal call b) (rule n (edit x) b.layout)
    (λ ok. simp length-append (omega (arith, line, decimal-below 0 0 (lit< tt), decimal-below 1 rows (omega (arith, few)), decimal-below 4 before (omega (arith, most ok)))))
    (simp length-append (omega (arith, line, decimal-below 1 (number (book_refusal call b)) (number_short (book_refusal call b)), decimal-below 0 0 (lit< tt))))
  where
    n : ℕ
    n = b.stops

    call : Call
    call = record { n = n; ask = edit x }

    rows : ℕ
    rows = sum_to n (λ s. cond (touched n b.layout (with_edit n x b.layout) x.u x.v s) 1 0)

    before : ℕ
    before = entry n b.layout.cost x.u x.v

    line : length (decimal i) ≤ 5
    line = decimal-below 4 i (omega arith)

    few : rows ≤ most_stops
    few = omega (arith, ones n (touched n b.layout (with_edit n x b.layout) x.u x.v), (stops n held.size).1)

    most : accepted (book_refusal call b) ≡ true → before ≤ largest_cost
    most ok =
        let p = permitted n x b.layout (accepted-book call b ok).4 in
        (valid-costs n b.layout.cost held.valid).most x.u x.v p.from p.to

pub unread-short : (i : ℕ) → i ≤ longest + 1 → length (unread_line i) ≤ unread_bytes
unfolding bytes
unread-short i h = simp length-append (omega (arith, decimal-below 4 i (omega arith)))

-- a line prints at most so much
pub said-short : (i : ℕ) (b : Book) (l : Option Edit) → i ≤ longest + 1 → Held b.stops b.layout → length (said i b l) ≤ line_bytes
unfolding said
said-short i b None h held = omega (arith, unread-short i h)
said-short i b (Some x) h held = edit-short i x b h held

-- and at most an unread line for each of its bytes, its line feed among them: an empty one is unread
pub said-within : (i : ℕ) (b : Book) (line : List ℕ) → i ≤ longest + 1 → Held b.stops b.layout → length (said i b (line_of (words line))) ≤ unread_bytes * (length line + 1)
unfolding said line_of parts
said-within i b [] h held = omega (arith, unread-short i h)
said-within i b (x ∷ line) h held = omega (arith, said-short i b (line_of (words (x ∷ line))) h held)

pub stop-short : (v x : ℕ) → v < 100 → x < 2 ^ 64 → length (stop_line v x) ≤ stop_bytes
unfolding bytes
stop-short v x h fits = simp length-append (omega (arith, decimal-below 1 v h, decimal-below 19 x (omega arith)))

pub head-short : (n : ℕ) → n < 100 → length (hall_line n) ≤ hall_bytes
unfolding bytes
head-short n h = simp length-append (omega (arith, decimal-below 1 n h, decimal-below 4 scale (lit< tt)))
