-- Document 01's example of hallscore with the costs before, one with raises, and lines at the edge of its rules, computed. Assumes nothing.
use Prim.Native.Nat.{ℕ}
use Prim.Native.String.{String}
use mathlib.Core.Path.{◌≡◌, refl}
use mathlib.Core.List.{[], ◌∷◌, map}
use lib.ListN.{replicate}
use Rattle.std.specs.Prelude.{Option, Some, None}
use Rattle.routes.specs.Route.{sum_to, join_to, list_to, all_to, same, set_of, count, visits, uses, time, least, extend, hops, routes, least_time, quickest, ways, through, portion, open_share, used, score}
use Rattle.book.specs.Hall.{valid_costs, valid_passing, uncrowded, touched}
use Rattle.book.specs.Call.{rule}
use Rattle.book.specs.Book.{book_refusal, book_after, book_answer}
use Rattle.book.specs.declared.Edit.{Edit}
use Rattle.book.specs.declared.Kind.{Kind}
use Rattle.book.specs.declared.Kind.TheVariants.{Insert, Cheapen, Raise, Delete}
use Rattle.words.specs.Text.{bytes, before, parts, words, digits, value_from, number_of, hall_word, kind_in, edit_of, line_of, decimal_to, said, next, report, of_lines, listing}

-- document 01's input and output, each edit's line with the cost before as document 02 wants it
pub example :
    listing (bytes "hall 4\ninsert 0 1 5\ninsert 0 2 5\ninsert 1 3 5\ninsert 2 3 5\ncheapen 2 3 5\n") ≡
    bytes "hall 4 scale 27720\n2 0 1 0\n3 0 1 0\n4 0 2 0\n5 0 2 0\n6 8 0 0\nstop 0 score 0\nstop 1 score 13860\nstop 2 score 13860\nstop 3 score 0\n"
unfolding bytes before parts digits value_from number_of hall_word kind_in edit_of line_of decimal_to said next report of_lines listing sum_to join_to list_to all_to same set_of count visits uses time least extend hops routes least_time quickest ways through portion open_share used score valid_costs valid_passing uncrowded touched rule book_refusal book_after book_answer
example = refl

-- a worn link: raised to a tie, refused at its present cost, raised past it, and a link that is not there
pub raises :
    listing (bytes "hall 4\ninsert 0 1 5\ninsert 0 2 5\ninsert 1 3 5\ninsert 2 3 4\nraise 2 3 5\nraise 2 3 5\nraise 2 3 6\nraise 3 2 7") ≡
    bytes "hall 4 scale 27720\n2 0 1 0\n3 0 1 0\n4 0 2 0\n5 0 2 0\n6 0 2 4\n7 8 0 0\n8 0 2 5\n9 7 0 0\nstop 0 score 0\nstop 1 score 27720\nstop 2 score 0\nstop 3 score 0\n"
unfolding bytes before parts digits value_from number_of hall_word kind_in edit_of line_of decimal_to said next report of_lines listing sum_to join_to list_to all_to same set_of count visits uses time least extend hops routes least_time quickest ways through portion open_share used score valid_costs valid_passing uncrowded touched rule book_refusal book_after book_answer
raises = refl

-- a line alone, and what it is if it is an edit
abbrev pub read : String → Option Edit
read line = line_of (words (bytes line))

abbrev pub edit : Kind → ℕ → ℕ → ℕ → Option Edit
edit k u v c = Some (record { kind = k; u = u; v = v; cost = c })

-- 10 digits, leading zeros among them, and the largest number are read
pub read_lines :
    map read ("insert 0 1 5" ∷ "cheapen 0000000002 4294967295 0" ∷ "raise 4294967295 0 0000065536" ∷ "delete 70 1" ∷ []) ≡
    edit Insert 0 1 5 ∷ edit Cheapen 2 4294967295 0 ∷ edit Raise 4294967295 0 65536 ∷ edit Delete 70 1 0 ∷ []
unfolding bytes before parts digits value_from number_of kind_in edit_of line_of same
read_lines = refl

-- a leading, double or trailing space, a tab, a carriage return, a missing or a further word, 11 digits, too large a number, a sign,
-- another kind, a second hall line and a blank line are not
pub unread_lines :
    map read
    (" insert 0 1 5" ∷ "insert  0 1 5" ∷ "insert 0 1 5 " ∷ "insert\t0 1 5" ∷ "insert 0 1 5\r" ∷ "insert 0 1" ∷ "delete 0 1 5" ∷ "insert 00000000001 0 5" ∷
    "insert 0 1 4294967296" ∷ "insert +0 1 5" ∷ "Insert 0 1 5" ∷ "hall 4" ∷ "" ∷ "raise 0 1" ∷ "raise 0 1 5 " ∷ "raise 0 1 5 6" ∷ "raises 0 1 5" ∷ []) ≡
    replicate 17 None
unfolding bytes before parts digits value_from number_of kind_in edit_of line_of same
unread_lines = refl

-- no hall line, or no hall
pub no_hall :
    map (λ text. listing (bytes text)) ("" ∷ "\n" ∷ "\nhall 1" ∷ "hall" ∷ "hall 0" ∷ "hall 65\n" ∷ "hall 1 1" ∷ " hall 1" ∷ "hall 1\r\n" ∷ []) ≡
    replicate 9 (bytes "no hall\n")
unfolding bytes before parts digits value_from number_of hall_word kind_in edit_of line_of decimal_to said next report of_lines listing same sum_to join_to open_share score
no_hall = refl

-- the last line feed may lack, and opens no line; an unread line changes nothing
pub line_feeds :
    (listing (bytes "hall 1") ≡ bytes "hall 1 scale 27720\nstop 0 score 0\n") × (listing (bytes "hall 1\n") ≡ listing (bytes "hall 1")) ×
    (listing (bytes "hall 2\n\nhall 1\ndelete 0 1\ninsert 1 0 5 \ninsert 0 2 5") ≡
    bytes "hall 2 scale 27720\n2 unread\n3 unread\n4 7 0 0\n5 unread\n6 4 0 0\nstop 0 score 0\nstop 1 score 0\n")
unfolding bytes before parts digits value_from number_of hall_word kind_in edit_of line_of decimal_to said next report of_lines listing sum_to join_to list_to all_to same set_of count visits uses time least extend hops routes least_time quickest ways through portion open_share used score valid_costs valid_passing uncrowded touched rule book_refusal book_after book_answer
line_feeds = (refl, refl, refl)
