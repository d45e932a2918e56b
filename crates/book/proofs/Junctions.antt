-- Halls where passing a stop takes time, worked out by hand, and what the calls say to them. Assumes nothing.
use Prim.Native.Nat.{ℕ, ◌+◌, ◌*◌, ◌/◌}
use mathlib.Core.Path.{◌≡◌, refl}
use mathlib.Core.Bool.{true}
use mathlib.Core.List.{List, [], ◌∷◌, ◌++◌, map}
use lib.ListN.{replicate, take, drop}
use Rattle.routes.specs.Route.{sum_to, join_to, list_to, all_to, same, set_of, count, chosen, ahead, among, in_order, visits, uses, time, least, extend, hops, routes, least_time, quickest, ways, quickest_routes, through, portion, open_share, used, score}
use Rattle.book.specs.Hall.{Layout, laid, Tables, most_ways, scale, filled, sized, valid_costs, valid_passing, links_alone, uncrowded, right, touched, route_bytes, route_list, low_first, field, image_of, valid_record, is_image, costs_of}
use Rattle.book.specs.Call.{Call, Ask, empty_hall, audit, move_over, work_out, edit, edit_list, list_routes, image_write, image_read, number, run, touched_by, judged, with_layout, rule, Answer, refusal, after, answer}
use Rattle.book.specs.Book.{Book, Step, kept, book_refusal, book_after, book_answer, book_answers}
use Rattle.book.proofs.Sequence.{steps_of}
use Rattle.book.proofs.Moves.{moving}
use Rattle.book.proofs.Cases.{sevens, edit_of, change, empty_book}
use Rattle.book.proofs.Corners.{line_costs, line_image, line, damaged, old_line, Corner, corner, answers_so, nowhere}
use Rattle.book.specs.declared.Kind.TheVariants.{Insert, Raise}

-- from 0 to 3 two links of 2 over stop 1, which takes x to pass, and two of 3 over stop 2; and a link of 4 back
abbrev pub fork : (x : ℕ) → Layout
fork x = laid (0 ∷ 2 ∷ 3 ∷ 0 ∷ 0 ∷ 0 ∷ 0 ∷ 2 ∷ 0 ∷ 0 ∷ 0 ∷ 3 ∷ 4 ∷ 0 ∷ 0 ∷ 0 ∷ []) (1 ∷ x ∷ 1 ∷ 2 ∷ [])

-- its tables, with this time and these ways from 0 to 3, and these shares of 1 and of 2 in the routes from 0
abbrev pub fork_tables : (x t w over₁ over₂ : ℕ) → Tables
fork_tables x t w over₁ over₂ = record {
  layout = fork x;
  time = 0 ∷ 2 ∷ 3 ∷ t ∷ 8 ∷ 0 ∷ 12 ∷ 2 ∷ 9 ∷ 12 ∷ 0 ∷ 3 ∷ 4 ∷ 7 ∷ 8 ∷ 0 ∷ [];
  ways = 1 ∷ 1 ∷ 1 ∷ w ∷ replicate 12 1;
  share = 0 ∷ over₁ ∷ over₂ ∷ 0 ∷ scale ∷ 0 ∷ 0 ∷ 2 * scale ∷ scale ∷ 0 ∷ 0 ∷ 2 * scale ∷ 2 * scale ∷ 0 ∷ 0 ∷ 0 ∷ [];
  score = 4 * scale ∷ over₁ ∷ over₂ ∷ 4 * scale ∷ [];
}

-- the way over 1 has the cheaper links; a passing time of 7 makes the other one quicker, and one of 3 makes a tie
pub junction-slow : (filled scale most_ways 4 (fork 2) ≡ fork_tables 2 6 1 scale 0) × (filled scale most_ways 4 (fork 7) ≡ fork_tables 7 7 1 0 scale)
unfolding sum_to join_to list_to count visits time least extend hops routes least_time quickest ways through portion open_share score filled
junction-slow = (refl, refl)

pub junction-tie : filled scale most_ways 4 (fork 3) ≡ fork_tables 3 7 2 (scale / 2) (scale / 2)
unfolding sum_to join_to list_to count visits time least extend hops routes least_time quickest ways through portion open_share score filled
junction-tie = refl

-- on the line from 0 over 1 to 2, passing times of 0 and 2 count for nothing, however long: these stops are ends only
pub ends-uncounted : let l : Layout = laid line_costs (65535 ∷ 0 ∷ 9 ∷ []) in filled scale most_ways 3 l ≡ with_layout l line
unfolding sum_to join_to list_to count visits time least extend hops routes least_time quickest ways through portion open_share score filled
ends-uncounted = refl

-- route lists by these times: over 2, over both, and with links alone over 1; and the one way from 1 to 2
pub junction-lists :
    (route_list 4 (fork 7) 0 3 ≡ 1 ∷ 3 ∷ 0 ∷ 2 ∷ 3 ∷ []) × (route_list 4 (fork 3) 0 3 ≡ 2 ∷ 3 ∷ 0 ∷ 1 ∷ 3 ∷ 3 ∷ 0 ∷ 2 ∷ 3 ∷ []) ×
    (route_list 4 (links_alone 4 (fork 7)) 0 3 ≡ 1 ∷ 3 ∷ 0 ∷ 1 ∷ 3 ∷ []) × (route_list 4 (fork 7) 1 2 ≡ 1 ∷ 4 ∷ 1 ∷ 3 ∷ 0 ∷ 2 ∷ [])
unfolding join_to chosen ahead among in_order visits time least extend hops routes least_time quickest_routes route_bytes route_list
junction-lists = (refl, refl, refl, refl)

-- the sources that a raise of the link 1 to 3, or of 2 to 3, touches: by the passing time of 1, source 0 is not among the first, and is
-- among the second; with links alone it is the other way round
pub junction-touched :
    let sets : Layout → List ℕ = λ l.
    map (λ a. (book_answer (record { n = 4; ask = a }) (record { stops = 4; layout = l })).touched) (change Raise 1 3 3 ∷ change Raise 2 3 4 ∷ []) in
    (sets (fork 7) ≡ 2 ∷ 5 ∷ []) × (sets (links_alone 4 (fork 7)) ≡ 3 ∷ 4 ∷ [])
unfolding sum_to join_to list_to all_to set_of count visits uses time least extend hops routes least_time quickest ways used valid_costs valid_passing uncrowded touched rule book_refusal book_answer
junction-touched = (refl, refl)

-- the line's tables where stop 1 takes x to pass; tables beside other passing times; and passing times of which one, of an end, is too long
abbrev pub line_over : (x : ℕ) → Tables
line_over x = record { layout = laid line_costs (0 ∷ x ∷ 0 ∷ []); time = 0 ∷ 1 ∷ (x + 2) ∷ drop 3 line.time; ways = line.ways; share = line.share; score = line.score }

abbrev pub beside : (passing : List ℕ) → Tables → Tables
beside passing t = with_layout (laid t.layout.cost passing) t

abbrev pub too_long : List ℕ
too_long = 0 ∷ 0 ∷ 65536 ∷ []

abbrev pub corners : List Corner
corners =
    -- the longest passing time, and one more, on tables that are right for both; times that do without it
    corner 3 (line_over 65535) audit 0 ∷ corner 3 (line_over 65536) audit 13 ∷ corner 3 (beside (0 ∷ 5 ∷ 0 ∷ []) line) audit 3 ∷
    -- 13 before 3, also of an end; 2 before 13, 1 before both
    corner 3 damaged audit 3 ∷ corner 3 (beside too_long damaged) audit 13 ∷ corner 3 (beside (drop 1 too_long) line) audit 2 ∷ corner 3 (beside (too_long ++ (0 ∷ [])) line) audit 2 ∷
    corner 0 (beside (drop 1 too_long) line) audit 1 ∷
    -- 13 before 4, 12 and 10 in the other calls that look at the tables
    corner 3 (beside too_long line) (edit nowhere) 13 ∷ corner 3 (line_over 65535) (edit nowhere) 4 ∷ corner 3 (beside too_long line) (edit_list (replicate 33 nowhere)) 13 ∷
    corner 3 (line_over 65535) (edit_list (replicate 33 nowhere)) 12 ∷ corner 3 (beside too_long line) (list_routes 3 3 []) 13 ∷ corner 3 (beside too_long line) (image_write []) 13 ∷
    -- in those that bring passing times 2 and 13 are of the brought ones, whatever the present ones are; 13 before 5 and 9
    corner 3 (line_over 65536) (empty_hall (replicate 3 65535)) 0 ∷ corner 3 line (empty_hall too_long) 13 ∷ corner 3 line (empty_hall (drop 1 too_long)) 2 ∷
    corner 3 (line_over 65536) (work_out (laid line_costs (replicate 3 65535))) 0 ∷ corner 3 line (work_out (laid (replicate 9 1) too_long)) 13 ∷
    corner 3 line (work_out (laid line_costs (too_long ++ (0 ∷ [])))) 2 ∷ corner 3 (line_over 65536) (image_read line_image (replicate 3 65535)) 0 ∷
    corner 3 line (image_read [] too_long) 13 ∷ corner 3 line (image_read line_image (drop 1 too_long)) 2 ∷
    -- the moving call does without passing times
    corner 3 (beside too_long old_line) move_over 0 ∷ []

pub passing-corners : map answers_so corners ≡ replicate 24 true
unfolding answers_so sum_to join_to list_to all_to same set_of count chosen ahead among in_order visits uses time least extend hops routes least_time quickest ways quickest_routes through portion open_share used score filled sized valid_costs valid_passing uncrowded right touched touched_by judged route_bytes route_list low_first field image_of valid_record is_image costs_of run rule refusal after answer
passing-corners = refl

-- an empty hall with passing times, the links of the fork, and a route list; a work out that brings other passing times, and a refused empty
-- hall, work out and image read, which bring others in vain, and a route list; an image read that brings others still, and a route list
abbrev pub brought : List Ask
brought =
    empty_hall (1 ∷ 7 ∷ 1 ∷ 2 ∷ []) ∷
    edit_list (edit_of Insert 0 1 2 ∷ edit_of Insert 0 2 3 ∷ edit_of Insert 1 3 2 ∷ edit_of Insert 2 3 3 ∷ edit_of Insert 3 0 4 ∷ []) ∷
    list_routes 0 3 (replicate 9 7) ∷
    work_out (fork 3) ∷ empty_hall (9 ∷ 65536 ∷ 9 ∷ 9 ∷ []) ∷ work_out (laid (replicate 16 1) (replicate 4 9)) ∷ image_read [] (replicate 4 9) ∷
    list_routes 0 3 (replicate 9 7) ∷
    image_read (image_of 4 (fork 2).cost) (1 ∷ 2 ∷ 1 ∷ 2 ∷ []) ∷ list_routes 0 3 (replicate 9 7) ∷ []

-- what is said to them, in the book and on tables full of sevens; the layouts after the edits, the work out, the refused calls and the image
-- read; and the tables at the end
pub passing-brought :
    let calls : List Call = map (λ a. record { n = 4; ask = a }) brought in
    let steps : List Step = steps_of calls (sevens 4) in
    let at : ℕ → Layout = λ k. (run book_after (take k calls) (empty_book 4)).layout in
    let numbers : List Answer → List ℕ = λ said. map (λ a. number a.refusal) said in
    let listed : List Answer → List (List ℕ) = λ said. map (λ a. take a.length a.buffer) said in
    (numbers (book_answers calls (empty_book 4)) ≡ 0 ∷ 0 ∷ 0 ∷ 0 ∷ 13 ∷ 5 ∷ 9 ∷ 0 ∷ 0 ∷ 0 ∷ []) ×
    (listed (book_answers calls (empty_book 4)) ≡
    [] ∷ [] ∷ (1 ∷ 3 ∷ 0 ∷ 2 ∷ 3 ∷ []) ∷ [] ∷ [] ∷ [] ∷ [] ∷ (2 ∷ 3 ∷ 0 ∷ 1 ∷ 3 ∷ 3 ∷ 0 ∷ 2 ∷ 3 ∷ []) ∷ [] ∷ (1 ∷ 3 ∷ 0 ∷ 1 ∷ 3 ∷ []) ∷ []) ×
    (at 2 ∷ at 4 ∷ at 7 ∷ at 9 ∷ [] ≡ fork 7 ∷ fork 3 ∷ fork 3 ∷ fork 2 ∷ []) ×
    (map (λ s. s.answer) steps ≡ book_answers calls (empty_book 4)) × (run kept steps (sevens 4) ≡ filled scale most_ways 4 (fork 2))
unfolding sum_to join_to list_to all_to same set_of count chosen ahead among in_order visits uses time least extend hops routes least_time quickest ways quickest_routes through portion open_share used score filled sized valid_costs valid_passing uncrowded right touched touched_by judged route_bytes route_list low_first field image_of valid_record is_image costs_of run rule refusal after answer book_refusal book_after book_answer book_answers steps_of
passing-brought = (refl, refl, refl, refl, refl)

-- from 0 to 2 a link of cost c, and two of 1 over stop 1, which takes 5 to pass
abbrev pub shortcut : (c : ℕ) → Layout
shortcut c = laid (0 ∷ 1 ∷ c ∷ 0 ∷ 0 ∷ 1 ∷ 0 ∷ 0 ∷ 0 ∷ []) (4 ∷ 5 ∷ 6 ∷ [])

-- the moving call, where with passing times every share is 0: with a link of 1 it leaves all tables and passing times as they are; with one
-- of 3 the time of that pair would be 2 with links alone, so it says 3; the book says the same
pub passing-moves :
    let t : ℕ → Tables = λ c. filled scale most_ways 3 (shortcut c) in
    let steps : ℕ → List Step = λ c. steps_of (moving 3 ∷ []) (t c) in
    let said : ℕ → List Answer = λ c. map (λ s. s.answer) (steps c) in
    let book : ℕ → Book = λ c. record { stops = 3; layout = shortcut c } in
    ((t 1).share ∷ (t 3).share ∷ [] ≡ replicate 2 (replicate 9 0)) × (map (λ a. number a.refusal) (said 1 ++ said 3) ≡ 0 ∷ 3 ∷ []) ×
    (run kept (steps 1) (t 1) ≡ t 1) × (run kept (steps 3) (t 3) ≡ t 3) × (said 1 ≡ book_answers (moving 3 ∷ []) (book 1)) × (said 3 ≡ book_answers (moving 3 ∷ []) (book 3)) ×
    (book_after (moving 3) (book 1) ≡ book 1)
unfolding sum_to join_to list_to all_to same count visits time least extend hops routes least_time quickest ways through portion open_share score filled sized valid_costs valid_passing uncrowded right run rule refusal after answer book_refusal book_after book_answer book_answers steps_of
passing-moves = (refl, refl, refl, refl, refl, refl, refl)
