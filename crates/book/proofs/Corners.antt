-- Each call at the corners of its rules, on tables that are right, damaged or too short, every passing time 0: one table, one theorem.
-- Assumes nothing.
use Prim.Native.Nat.{ℕ, ◌+◌}
use mathlib.Core.Path.{◌≡◌, refl}
use mathlib.Core.Bool.{Bool, true, ◌&&◌, ◌||◌}
use mathlib.Core.List.{List, [], ◌∷◌, ◌++◌, map}
use lib.ListN.{replicate, take, drop}
use lib.Dec.{eqb}
use Rattle.routes.specs.Route.{mark, sum_to, join_to, list_to, all_to, same, set_of, count, chosen, ahead, among, in_order, visits, uses, time, least, extend, hops, routes, least_time, quickest, ways, quickest_routes, through, portion, open_share, used, score}
use Rattle.book.specs.Hall.{laid, Tables, scale, old_scale, filled, sized, valid_costs, valid_passing, no_passing, uncrowded, right, touched, route_bytes, route_list, low_first, field, image_of, valid_record, is_image, costs_of}
use Rattle.book.specs.Call.{Call, Ask, empty_hall, audit, move_over, work_out, edit_list, list_routes, image_write, image_read, number, run, touched_by, judged, rule, Answer, refusal, after, answer, image_check}
use Rattle.book.specs.Book.{book_refusal, book_after, book_answer, book_answers}
use Rattle.book.proofs.Refused.{buffer_of}
use Rattle.book.proofs.Cases.{edit_of, change, empty_book}
use Rattle.book.specs.declared.Edit.{Edit}
use Rattle.book.specs.declared.Kind.TheVariants.{Insert, Cheapen, Raise, Delete}

-- the one-way line of three stops, each link of cost 1, and its image
abbrev pub line_costs : List ℕ
line_costs = 0 ∷ 1 ∷ 0 ∷ 0 ∷ 0 ∷ 1 ∷ 0 ∷ 0 ∷ 0 ∷ []

abbrev pub line_image : List ℕ
line_image = 0 ∷ 1 ∷ 1 ∷ 0 ∷ 1 ∷ 2 ∷ 1 ∷ 0 ∷ 3 ∷ 1 ∷ 2 ∷ 0 ∷ 8 ∷ 0 ∷ 0 ∷ 0 ∷ []

-- its tables by the scale L, but with these ways from 0 to 2 and these scores
abbrev pub line_tables : (L w : ℕ) → List ℕ → Tables
line_tables L w scores = record {
  layout = laid line_costs (no_passing 3);
  time = 0 ∷ 1 ∷ 2 ∷ mark ∷ 0 ∷ 1 ∷ mark ∷ mark ∷ 0 ∷ [];
  ways = 1 ∷ 1 ∷ w ∷ 0 ∷ 1 ∷ 1 ∷ 0 ∷ 0 ∷ 1 ∷ [];
  share = 0 ∷ L ∷ 0 ∷ 0 ∷ 0 ∷ 0 ∷ 0 ∷ 0 ∷ 0 ∷ [];
  score = scores;
}

abbrev pub line : Tables
line = line_tables scale 1 (0 ∷ scale ∷ 0 ∷ [])

abbrev pub damaged : Tables
damaged = line_tables scale 2 (0 ∷ scale ∷ 0 ∷ [])

abbrev pub short : Tables
short = line_tables scale 1 (0 ∷ scale ∷ [])

-- its tables by the old numbers, and those with a share and a score that is one too large
abbrev pub old_line : Tables
old_line = line_tables old_scale 1 (0 ∷ old_scale ∷ 0 ∷ [])

abbrev pub old_damaged : Tables
old_damaged = line_tables (old_scale + 1) 1 (0 ∷ (old_scale + 1) ∷ 0 ∷ [])

-- its other four tables beside costs that have a link from 0 to 2 of cost c too
abbrev pub direct : ℕ → Tables
direct c = record { layout = laid (0 ∷ 1 ∷ c ∷ drop 3 line_costs) (no_passing 3); time = line.time; ways = line.ways; share = line.share; score = line.score }

-- its tables, each in turn an entry short
abbrev pub short_of : (cost time ways share : ℕ) → Tables
short_of cost time ways share = record {
  layout = laid (drop cost line_costs) (no_passing 3);
  time = drop time line.time;
  ways = drop ways line.ways;
  share = drop share line.share;
  score = line.score;
}

-- the tables of two stops with a link, in which no share is above 0
abbrev pub pair_tables : Tables
pair_tables = record { layout = laid (0 ∷ 9 ∷ 0 ∷ 0 ∷ []) (no_passing 2); time = 0 ∷ 9 ∷ mark ∷ 0 ∷ []; ways = 1 ∷ 1 ∷ 0 ∷ 1 ∷ []; share = replicate 4 0; score = replicate 2 0 }

-- a call on tables, and its refusal
pub record Corner : Type 0 where
  pub n : ℕ
  pub tables : Tables
  pub ask : Ask
  pub number : ℕ

abbrev pub corner : ℕ → Tables → Ask → ℕ → Corner
corner n tables ask number = record { n = n; tables = tables; ask = ask; number = number }

abbrev pub flat : Tables → List ℕ
flat t = t.layout.cost ++ (t.layout.passing ++ (t.time ++ (t.ways ++ (t.share ++ t.score))))

-- the call answers so, and if it is refused the tables and the buffer stay and the answer is empty
unfoldable pub answers_so : Corner → Bool
answers_so k =
    let c : Call = record { n = k.n; ask = k.ask } in
    let a : Answer = answer c k.tables in
    let empty : Bool = eqb a.touched 0 && (eqb a.rows 0 && (eqb a.before 0 && eqb a.length 0)) in
    let stays : Bool = same (flat (after c k.tables)) (flat k.tables) && same a.buffer (buffer_of c k.tables) in
    eqb (number a.refusal) k.number && (eqb k.number 0 || (empty && stays))

-- the calls that bring passing times bring those of three stops, every one 0
abbrev pub emptied : Ask
emptied = empty_hall (no_passing 3)

abbrev pub worked : (cost : List ℕ) → Ask
worked cost = work_out (laid cost (no_passing 3))

abbrev pub read : (image : List ℕ) → Ask
read image = image_read image (no_passing 3)

-- an edit between no two stops
abbrev pub nowhere : Edit
nowhere = edit_of Insert 3 3 0

abbrev pub corners : List Corner
corners =
    -- empty hall: any content, but these lengths
    corner 3 damaged emptied 0 ∷ corner 3 short emptied 2 ∷ corner 2 line emptied 2 ∷ corner 65 line emptied 1 ∷
    corner 3 (short_of 1 0 0 0) emptied 2 ∷ corner 3 (short_of 0 1 0 0) emptied 2 ∷ corner 3 (short_of 0 0 1 0) emptied 2 ∷
    corner 3 (short_of 0 0 0 1) emptied 2 ∷
    -- work out: lengths before entries, and the lent content does not matter
    corner 3 damaged (worked line_costs) 0 ∷ corner 3 line (worked (65536 ∷ [])) 2 ∷ corner 3 line (worked (0 ∷ 65536 ∷ drop 2 line_costs)) 5 ∷
    corner 3 line (worked (line_costs ++ (0 ∷ []))) 2 ∷ corner 3 line (worked (0 ∷ 65535 ∷ drop 2 line_costs)) 0 ∷ corner 3 line (worked (1 ∷ drop 1 line_costs)) 5 ∷ corner 0 line (worked []) 1 ∷
    -- audit
    corner 3 line audit 0 ∷ corner 3 damaged audit 3 ∷ corner 3 short audit 2 ∷ corner 4 line audit 2 ∷ corner 3 (line_tables scale 1 (0 ∷ 0 ∷ 0 ∷ [])) audit 3 ∷
    -- a cost that no quickest route uses may differ, one that ties or improves may not
    corner 3 (direct 5) audit 0 ∷ corner 3 (direct 6) audit 0 ∷ corner 3 (direct 2) audit 3 ∷ corner 3 (direct 1) audit 3 ∷
    -- the moving call: tables of the old numbers, damaged or short ones, another n; tables of the new ones, with shares and without
    corner 3 old_line move_over 0 ∷ corner 3 old_damaged move_over 3 ∷ corner 3 (line_tables old_scale 2 (0 ∷ old_scale ∷ 0 ∷ [])) move_over 3 ∷
    corner 3 (line_tables old_scale 1 (0 ∷ old_scale ∷ [])) move_over 2 ∷ corner 4 old_line move_over 2 ∷ corner 0 old_line move_over 1 ∷ corner 3 line move_over 3 ∷
    corner 2 pair_tables move_over 0 ∷
    -- but to the other calls those of the old numbers are damaged
    corner 3 old_line audit 3 ∷ corner 3 old_line (change Insert 0 2 5) 3 ∷ corner 3 old_line (image_write (replicate 16 7)) 3 ∷
    -- edits: 3 before 4, 4 before 5, 5 before 6, 7 and 8, 7 before 8; a raise has its 8 on the other side; a delete's cost is not read
    corner 3 damaged (change Insert 3 3 0) 3 ∷ corner 3 line (change Insert 3 1 0) 4 ∷ corner 3 line (change Insert 0 1 0) 5 ∷ corner 3 line (change Insert 0 1 5) 6 ∷
    corner 3 line (change Insert 0 1 65536) 5 ∷ corner 3 line (change Cheapen 0 2 65536) 5 ∷
    corner 3 line (change Insert 0 2 5) 0 ∷ corner 3 line (change Cheapen 0 2 4) 7 ∷ corner 3 line (change Cheapen 0 1 1) 8 ∷ corner 3 line (change Cheapen 0 1 0) 5 ∷
    corner 3 line (change Cheapen 0 1 65536) 5 ∷ corner 3 line (change Raise 0 1 0) 5 ∷ corner 3 line (change Raise 0 1 1) 8 ∷ corner 3 line (change Raise 0 1 2) 0 ∷
    corner 3 damaged (change Raise 3 3 0) 3 ∷ corner 3 short (change Raise 0 1 2) 2 ∷
    corner 3 line (change Delete 0 2 4) 7 ∷ corner 3 line (change Delete 1 1 4) 4 ∷ corner 3 line (change Delete 0 1 65536) 0 ∷ corner 3 short (change Delete 0 1 1) 2 ∷
    -- a list: 1, 2 and 3 of the tables even if it is empty or too long, 12 before its edits, and these in turn
    corner 3 line (edit_list []) 0 ∷ corner 0 line (edit_list []) 1 ∷ corner 3 short (edit_list []) 2 ∷ corner 3 damaged (edit_list (replicate 33 nowhere)) 3 ∷
    corner 3 line (edit_list (replicate 33 nowhere)) 12 ∷ corner 3 line (edit_list (replicate 32 nowhere)) 4 ∷
    corner 3 line (edit_list (edit_of Delete 0 1 0 ∷ edit_of Raise 0 1 2 ∷ [])) 7 ∷ corner 3 line (edit_list (edit_of Delete 0 1 0 ∷ edit_of Insert 0 1 2 ∷ [])) 0 ∷
    -- route list: a buffer that fits, one byte short; a stop to itself; no route, which takes a byte; a stop of n before the buffer, tables
    -- before both, and lengths and n before those
    corner 3 line (list_routes 0 2 (replicate 5 7)) 0 ∷ corner 3 line (list_routes 0 2 (replicate 4 7)) 10 ∷ corner 3 line (list_routes 1 1 (replicate 3 7)) 0 ∷
    corner 3 line (list_routes 2 0 (7 ∷ [])) 0 ∷ corner 3 line (list_routes 2 0 []) 10 ∷ corner 3 line (list_routes 3 0 (replicate 5 7)) 4 ∷ corner 3 line (list_routes 0 3 []) 4 ∷
    corner 3 damaged (list_routes 3 3 []) 3 ∷ corner 3 short (list_routes 3 3 []) 2 ∷ corner 0 line (list_routes 3 3 []) 1 ∷
    -- image write: a buffer that fits, one byte short, and tables that do not belong to their hall
    corner 3 line (image_write (replicate 16 7)) 0 ∷ corner 3 line (image_write (replicate 15 7)) 10 ∷ corner 3 damaged (image_write (replicate 16 7)) 3 ∷
    corner 3 damaged (image_write []) 3 ∷
    -- image read: the lent content does not matter; a missing byte, another n, equal records, cost 0
    corner 3 damaged (read line_image) 0 ∷ corner 3 short (read line_image) 2 ∷ corner 3 line (read (drop 1 line_image)) 9 ∷
    corner 3 line (read (0 ∷ 1 ∷ 1 ∷ 0 ∷ 0 ∷ 1 ∷ drop 6 line_image)) 9 ∷ corner 3 line (read (0 ∷ 1 ∷ 0 ∷ drop 3 line_image)) 9 ∷
    corner 3 line (read (take 8 line_image ++ (2 ∷ drop 9 line_image))) 9 ∷ []

pub corners-hold : map answers_so corners ≡ replicate 83 true
unfolding answers_so sum_to join_to list_to all_to same set_of count chosen ahead among in_order visits uses time least extend hops routes least_time quickest ways quickest_routes through portion open_share used score filled sized valid_costs valid_passing uncrowded right touched touched_by judged route_bytes route_list low_first field image_of valid_record is_image costs_of run rule refusal after answer
corners-hold = refl

-- what accepted calls leave on these tables: no links, the costs brought, those of the image, those of the edit; the tables as they were; and
-- of the tables of the old numbers those of the new ones
pub leaves-so :
    let left : Tables → Ask → List ℕ = λ t ask. flat (after (record { n = 3; ask = ask }) t) in
    (take 9 (left damaged emptied) ≡ replicate 9 0) × (left (direct 5) (worked line_costs) ≡ flat line) × (left (direct 5) (read line_image) ≡ flat line) ×
    (take 9 (left line (change Insert 0 2 5)) ≡ 0 ∷ 1 ∷ 5 ∷ drop 3 line_costs) × (left line audit ≡ flat line) × (left line (image_write (replicate 16 7)) ≡ flat line) ×
    (left old_line move_over ≡ flat line)
unfolding sum_to join_to list_to all_to same set_of count visits uses time least extend hops routes least_time quickest ways through portion open_share used score filled sized valid_costs valid_passing uncrowded right touched low_first field image_of valid_record is_image costs_of rule refusal after
leaves-so = (refl, refl, refl, refl, refl, refl, refl)

-- an image write answers its length and leaves the bytes past it
pub writes-so : let a : Answer = answer (record { n = 3; ask = image_write (replicate 18 7) }) line in (a.length ≡ 16) × (a.buffer ≡ line_image ++ (7 ∷ 7 ∷ []))
unfolding sum_to join_to list_to all_to same set_of count visits uses time least extend hops routes least_time quickest ways through portion open_share used score filled sized valid_costs valid_passing uncrowded right touched low_first image_of rule refusal answer
writes-so = (refl, refl)

-- the book of an image that is read, and written again into a buffer that is too short, and into a longer one
pub book-images :
    let calls : List Call = map (λ a. record { n = 3; ask = a }) (read line_image ∷ image_write (replicate 15 7) ∷ image_write (replicate 18 7) ∷ []) in
    let said : List Answer = book_answers calls (empty_book 3) in
    (map (λ a. number a.refusal) said ≡ 0 ∷ 10 ∷ 0 ∷ []) × (map (λ a. a.length) said ≡ 0 ∷ 0 ∷ 16 ∷ []) ×
    (map (λ a. a.buffer) said ≡ [] ∷ replicate 15 7 ∷ (line_image ++ (7 ∷ 7 ∷ [])) ∷ []) × ((run book_after calls (empty_book 3)).layout.cost ≡ line_costs)
unfolding sum_to join_to list_to all_to count visits time least extend hops routes least_time quickest ways valid_costs valid_passing uncrowded low_first field image_of valid_record is_image costs_of rule book_refusal book_after book_answer book_answers run
book-images = (refl, refl, refl, refl)

-- the book of route lists: before and after an insert that makes two routes of one, into buffers that are too long; between them one with
-- a stop of n, and one into a buffer that is a byte too short
pub book-lists :
    let asks : List Ask = worked line_costs ∷ list_routes 0 2 (replicate 6 7) ∷ change Insert 0 2 2 ∷ list_routes 3 2 [] ∷ list_routes 0 2 (replicate 7 7) ∷ list_routes 0 2 (replicate 9 7) ∷ [] in
    let calls : List Call = map (λ a. record { n = 3; ask = a }) asks in
    (map (λ a. number a.refusal ∷ a.length ∷ a.buffer) (book_answers calls (empty_book 3)) ≡
    (0 ∷ 0 ∷ []) ∷ (0 ∷ 5 ∷ 1 ∷ 3 ∷ 0 ∷ 1 ∷ 2 ∷ 7 ∷ []) ∷ (0 ∷ 0 ∷ []) ∷ (4 ∷ 0 ∷ []) ∷ (10 ∷ 0 ∷ replicate 7 7) ∷
    (0 ∷ 8 ∷ 2 ∷ 3 ∷ 0 ∷ 1 ∷ 2 ∷ 2 ∷ 0 ∷ 2 ∷ 7 ∷ []) ∷ []) × ((run book_after calls (empty_book 3)).layout.cost ≡ 0 ∷ 1 ∷ 2 ∷ drop 3 line_costs)
unfolding sum_to join_to list_to all_to set_of count chosen ahead among in_order visits uses time least extend hops routes least_time quickest ways quickest_routes used valid_costs valid_passing uncrowded touched route_bytes route_list rule book_refusal book_after book_answer book_answers run
book-lists = (refl, refl)

-- the book of moving calls: with no links, with a share above 0, after the link behind it is closed, and with another n
pub book-moves :
    let calls : List Call =
    map (λ a. record { n = 3; ask = a }) (move_over ∷ worked line_costs ∷ move_over ∷ change Delete 1 2 0 ∷ move_over ∷ []) ++ (record { n = 2; ask = move_over } ∷ []) in
    (map (λ a. number a.refusal) (book_answers calls (empty_book 3)) ≡ 0 ∷ 0 ∷ 3 ∷ 0 ∷ 0 ∷ 2 ∷ []) × ((run book_after calls (empty_book 3)).layout.cost ≡ 0 ∷ 1 ∷ replicate 7 0)
unfolding sum_to join_to list_to all_to same set_of count visits uses time least extend hops routes least_time quickest ways through portion open_share used score filled sized valid_costs valid_passing uncrowded right touched rule book_refusal book_after book_answer book_answers run
book-moves = (refl, refl)

-- the place that a refused list tells: none for 1, 2, 3 and 12, though its first edit would be refused too
pub places-so :
    let place : ℕ → Tables → List Edit → ℕ = λ n t edits. (answer (record { n = n; ask = edit_list edits }) t).place in
    (place 0 line (nowhere ∷ []) ∷ place 3 short (nowhere ∷ []) ∷ place 3 damaged (nowhere ∷ []) ∷ place 3 line (replicate 33 nowhere) ∷ [] ≡ replicate 4 0) ×
    (place 3 line (replicate 32 nowhere) ∷ place 3 line (edit_of Delete 0 1 0 ∷ nowhere ∷ []) ∷ [] ≡ 1 ∷ 2 ∷ [])
unfolding sum_to join_to list_to all_to same set_of count visits uses time least extend hops routes least_time quickest ways through portion open_share used score filled sized valid_costs valid_passing uncrowded right touched touched_by judged run rule refusal answer
places-so = (refl, refl)

-- image check answers 0, 1 and 9
pub checks-so :
    (number (image_check 3 line_image) ≡ 0) × (number (image_check 65 line_image) ≡ 1) × (number (image_check 0 (0 ∷ 1 ∷ replicate 6 0)) ≡ 1) ×
    (number (image_check 3 (drop 4 line_image)) ≡ 9)
unfolding sum_to all_to field valid_record is_image image_check
checks-so = (refl, refl, refl, refl)
