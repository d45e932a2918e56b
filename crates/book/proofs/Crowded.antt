-- Halls of six stops with exactly 12 ways of a pair, and with more, a crowded pair, every passing time 0: the calls that leave one, its
-- tables, a touched row that stays as it was, route lists, the moving call and audit; most of it computed over the book, which demand 3 ties
-- to the tables. The tables were worked out apart; lister_try writes the scores of `fewer` too. Assumes nothing.
use Rattle.std.specs.Prelude.{Err}
use Prim.Native.Nat.{ℕ, ◌-◌}
use mathlib.Core.Path.{◌≡◌, refl}
use mathlib.Core.Bool.{Bool, true, false, cond, not, ◌&&◌, ◌||◌}
use mathlib.Core.List.{List, [], ◌∷◌, ◌++◌, map}
use lib.ListN.{replicate, take, drop}
use lib.Dec.{eqb, ltb}
use Rattle.routes.specs.Route.{mark, sum_to, join_to, list_to, all_to, same, set_of, has, count, chosen, ahead, among, in_order, visits, uses, time, least, extend, hops, routes, least_time, quickest, ways, quickest_routes, through, portion, open_share, used, score}
use Rattle.book.specs.Hall.{Layout, laid, Tables, most_ways, scale, table, costs_in, filled, sized, valid_costs, valid_passing, no_passing, right, touched, route_bytes, route_list, low_first, field, image_of, valid_record, is_image, costs_of}
use Rattle.book.specs.Call.{Ask, audit, work_out, edit, edit_list, list_routes, image_read, Call, Answer, number, run, judged, writing, rule, refusal, reversal, image_check}
use Rattle.book.specs.Book.{Book, changed, book_refusal, book_after, book_answer, book_answers}
use Rattle.book.proofs.Moves.{moving}
use Rattle.book.proofs.Cases.{edit_of, change, empty_book}
use Rattle.book.specs.declared.Refusal.TheVariants.{BadTables}
use Rattle.book.specs.declared.Kind.TheVariants.{Insert, Raise, Delete}

-- from each stop to every later one a link as long as the links over all stops between: 16 ways from 0 to 5
abbrev pub dense : Layout
dense = laid (table 6 (λ u v. v - u)) (no_passing 6)

-- the same with n stops, but to the last only from these; with six, from 3 and 4, 12 ways from 0 to 5, and from 1 too, 13
abbrev pub towards : (n : ℕ) → (ℕ → Bool) → Layout
towards n from = laid (table n (λ u v. cond (eqb v (n - 1) && not (from u)) 0 (v - u))) (no_passing n)

abbrev pub fewer : Layout
fewer = towards 6 (λ u. eqb u 3 || eqb u 4)

abbrev pub thirteen : Layout
thirteen = towards 6 (λ u. eqb u 1 || (eqb u 3 || eqb u 4))

-- the first, but a link of cost c from 0 to 5, which below 5 is quicker than all others; with 0, without it, 15 ways are left
abbrev pub quicker : ℕ → Layout
quicker c = laid (table 6 (λ u v. cond (eqb u 0 && eqb v 5) c (v - u))) (no_passing 6)

-- the image of the first hall, and one that is none: its kind is 2
abbrev pub dense_image : List ℕ
dense_image = image_of 6 dense.cost

abbrev pub other_kind : List ℕ
other_kind = take 61 dense_image ++ (2 ∷ drop 62 dense_image)

-- what the book says to these calls with n = 6, and the layout that it has after them
abbrev pub calls : List Ask → List Call
calls asks = map (λ a. record { n = 6; ask = a }) asks

abbrev pub told : List Ask → List ℕ
told asks = map (λ a. number a.refusal) (book_answers (calls asks) (empty_book 6))

abbrev pub left : List Ask → Layout
left asks = (run book_after (calls asks) (empty_book 6)).layout

-- 16 and 13 ways from 0 to 5: accepted by image read and work out, and by audit
abbrev pub more : List Ask
more = image_read dense_image (no_passing 6) ∷ image_read other_kind (no_passing 6) ∷ work_out thirteen ∷ work_out dense ∷ audit ∷ []

-- exactly 12 ways from 0 to 5; an insert makes them 13, and 6 is told as ever; a delete makes them 12 again
abbrev pub most : List Ask
most = work_out fewer ∷ change Insert 1 5 4 ∷ change Insert 1 5 4 ∷ audit ∷ change Delete 1 5 0 ∷ audit ∷ []

-- one way from 0 to 5, a link of 3: a raise makes them 16, and a delete 15; an insert of 4 is the one way, and closing it leaves 15; a list
-- has 15 in passing, and one has 15 and then 16, and is refused at its third edit, with 6
abbrev pub one : List Ask
one =
    work_out (quicker 3) ∷ change Raise 0 5 5 ∷ change Delete 0 5 0 ∷ change Insert 0 5 4 ∷ change Delete 0 5 0 ∷ edit_list (edit_of Insert 0 5 4 ∷ edit_of Delete 0 5 0 ∷ edit_of Insert 0 5 3 ∷ []) ∷
    edit_list (edit_of Delete 0 5 0 ∷ edit_of Insert 0 5 5 ∷ edit_of Insert 0 5 4 ∷ []) ∷ audit ∷ []

pub crowded-told :
    (told more ≡ 0 ∷ 9 ∷ 0 ∷ 0 ∷ 0 ∷ []) × (left more ≡ dense) × (left (take 2 more) ≡ dense) × (told most ≡ 0 ∷ 0 ∷ 6 ∷ 0 ∷ 0 ∷ 0 ∷ []) × (left (take 4 most) ≡ thirteen) × (left most ≡ fewer) ×
    (told one ≡ 0 ∷ 0 ∷ 0 ∷ 0 ∷ 0 ∷ 0 ∷ 6 ∷ 0 ∷ []) × (map (λ a. a.place) (book_answers (calls one) (empty_book 6)) ≡ 0 ∷ 0 ∷ 0 ∷ 0 ∷ 0 ∷ 0 ∷ 3 ∷ 0 ∷ []) ×
    (left (take 2 one) ≡ dense) × (left (take 4 one) ≡ quicker 4) × (left (take 5 one) ≡ quicker 0) × (left one ≡ quicker 3)
unfolding sum_to join_to list_to all_to low_first field image_of valid_record is_image costs_of valid_costs valid_passing judged rule book_refusal book_after book_answer book_answers run
crowded-told = (refl, refl, refl, refl, refl, refl, refl, refl, refl, refl, refl, refl)

-- the tables of the first hall, with w ways from 0 to 5 and this row of shares of 0, beside a layout
abbrev pub dense_tables : (w : ℕ) → (row : List ℕ) → Layout → Tables
dense_tables w row l = record {
  layout = l;
  time = table 6 (λ u v. cond (ltb v u) mark (v - u));
  ways = 1 ∷ 1 ∷ 2 ∷ 4 ∷ 8 ∷ w ∷ 0 ∷ 1 ∷ 1 ∷ 2 ∷ 4 ∷ 8 ∷ 0 ∷ 0 ∷ 1 ∷ 1 ∷ 2 ∷ 4 ∷ 0 ∷ 0 ∷ 0 ∷ 1 ∷ 1 ∷ 2 ∷ 0 ∷ 0 ∷ 0 ∷ 0 ∷ 1 ∷ 1 ∷ 0 ∷ 0 ∷ 0 ∷ 0 ∷ 0 ∷ 1 ∷ [];
  share = row ++ (0 ∷ 0 ∷ 41580 ∷ 27720 ∷ 13860 ∷ 0 ∷ 0 ∷ 0 ∷ 0 ∷ 27720 ∷ 13860 ∷ 0 ∷ 0 ∷ 0 ∷ 0 ∷ 0 ∷ 13860 ∷ 0 ∷ replicate 12 0);
  score = 0 ∷ 41580 ∷ 69300 ∷ 69300 ∷ 41580 ∷ 0 ∷ [];
}

-- what the pairs other than 0, 5 add to shares of 0
abbrev pub others : List ℕ
others = 0 ∷ 41580 ∷ 27720 ∷ 13860 ∷ 0 ∷ 0 ∷ []

-- times, ways, shares and scores are the same: those of the first hall, and without the link from 0 to 5, which leaves 15 ways, they are so
abbrev pub Same : Tables → Tables → Type 0
Same t t' = (t.time ≡ t'.time) × (t.ways ≡ t'.ways) × (t.share ≡ t'.share) × (t.score ≡ t'.score)

pub dense-tables : Same (filled scale most_ways 6 dense) (dense_tables 13 others dense)
unfolding sum_to join_to list_to count visits time least extend hops routes least_time quickest ways through portion open_share score filled
dense-tables = (refl, refl, refl, refl)

pub closed-tables : Same (filled scale most_ways 6 (quicker 0)) (dense_tables 13 others (quicker 0))
unfolding sum_to join_to list_to count visits time least extend hops routes least_time quickest ways through portion open_share score filled
closed-tables = (refl, refl, refl, refl)

-- so the delete of that link touches source 0, and its row stays as it was: that each touched row changes is true only without crowded
-- pairs. The reversal gives back the layout
pub touched-alike :
    let b : Book = record { stops = 6; layout = dense } in
    let c : Call = record { n = 6; ask = change Delete 0 5 0 } in
    let a : Answer = book_answer c b in
    let back : Call = record { n = 6; ask = edit (reversal Delete 0 5 a) } in
    let t : Layout → Tables = λ l. filled scale most_ways 6 l in
    (a.touched ∷ a.rows ∷ a.before ∷ [] ≡ 1 ∷ 1 ∷ 5 ∷ []) × ((book_after c b).layout ≡ quicker 0) × (has a.touched 0 ≡ true) × (changed 6 (t dense) (t (quicker 0)) 0 ≡ false) × (book_after back (book_after c b) ≡ b)
unfolding sum_to join_to list_to all_to set_of has count visits uses time least extend hops routes least_time quickest used valid_costs valid_passing touched rule book_refusal book_after book_answer changed
touched-alike =
    let (time, ways, share, score) = dense-tables in
    let (time', ways', share', score') = closed-tables in
    (refl, refl, refl, rw (time, ways, share, time', ways', share'), refl)

-- the rows of 0 with 13 ways: the crowded pair adds nothing; an edit that takes one way gives back what it adds. And all scores then
pub shares-back :
    let t : Layout → Tables = λ l. filled scale most_ways 6 l in
    (take 6 (t thirteen).ways ≡ 1 ∷ 1 ∷ 2 ∷ 4 ∷ 8 ∷ 13 ∷ []) × (take 6 (t thirteen).share ≡ others) × (take 6 (t fewer).ways ≡ 1 ∷ 1 ∷ 2 ∷ 4 ∷ 8 ∷ 12 ∷ []) ×
    (take 6 (t fewer).share ≡ 0 ∷ 55440 ∷ 41580 ∷ 32340 ∷ 18480 ∷ 0 ∷ []) × ((t fewer).score ≡ 0 ∷ 55440 ∷ 83160 ∷ 97020 ∷ 69300 ∷ 0 ∷ [])
unfolding sum_to join_to list_to count visits time least extend hops routes least_time quickest ways through portion open_share score filled
shares-back = (refl, refl, refl, refl, refl)

-- the true ways of that pair
pub crowded-ways : map (λ l. ways (costs_in 6 l 0) 6 0 5) (dense ∷ quicker 0 ∷ thirteen ∷ fewer ∷ quicker 4 ∷ []) ≡ 16 ∷ 15 ∷ 13 ∷ 12 ∷ 1 ∷ []
unfolding join_to list_to count visits time least extend hops routes least_time quickest ways
crowded-ways = refl

-- route lists of the first hall: 14 for the crowded pair, before 10, and the buffer stays; 4 for a stop of n; another pair is listed, or 10.
-- 13 ways are 14, 12 are not; and where 4, 14 and 10 all hold, 4 is told
pub crowded-lists :
    let said : Layout → List Ask → List (List ℕ) = λ l asks. map (λ a. number a.refusal ∷ a.length ∷ a.buffer) (book_answers (calls asks) (record { stops = 6; layout = l })) in
    (said dense (list_routes 0 5 (replicate 3 7) ∷ list_routes 0 5 [] ∷ list_routes 0 6 [] ∷ list_routes 6 5 [] ∷ list_routes 2 4 (replicate 9 7) ∷ list_routes 2 4 [] ∷ []) ≡
    (14 ∷ 0 ∷ 7 ∷ 7 ∷ 7 ∷ []) ∷ (14 ∷ 0 ∷ []) ∷ (4 ∷ 0 ∷ []) ∷ (4 ∷ 0 ∷ []) ∷ (0 ∷ 8 ∷ 2 ∷ 3 ∷ 2 ∷ 3 ∷ 4 ∷ 2 ∷ 2 ∷ 4 ∷ 7 ∷ []) ∷ (10 ∷ 0 ∷ []) ∷ []) ×
    (said fewer (list_routes 0 5 [] ∷ []) ≡ (10 ∷ 0 ∷ []) ∷ []) × (said thirteen (list_routes 0 5 [] ∷ []) ≡ (14 ∷ 0 ∷ []) ∷ []) ×
    (number (writing 6 false true (7 ∷ []) [] dense).tests ≡ 4)
unfolding sum_to join_to list_to all_to count chosen ahead among in_order visits time least extend hops routes least_time quickest ways quickest_routes valid_passing route_bytes route_list rule book_refusal book_after book_answer book_answers
crowded-lists = (refl, refl, refl, refl)

-- the moving call is 3 in the book
pub crowded-moved : book_refusal (moving 6) (record { stops = 6; layout = dense }) ≡ Err BadTables
unfolding sum_to join_to list_to all_to same count visits time least extend hops routes least_time quickest ways valid_costs valid_passing filled right rule book_refusal
crowded-moved = refl

-- audit passes the tables of the first hall, and not with 14 or with the true number in the place of 13, or with shares that the crowded pair
-- adds to
pub crowded-audited :
    let said : (w : ℕ) → (row : List ℕ) → ℕ = λ w row. number (refusal (record { n = 6; ask = audit }) (dense_tables w row dense)) in
    (said 13 others ≡ 0) × (said 14 others ≡ 3) × (said 16 others ≡ 3) × (said 13 (0 ∷ 55440 ∷ 41580 ∷ 27720 ∷ 13860 ∷ 0 ∷ []) ≡ 3)
unfolding join_to list_to all_to same valid_costs valid_passing sized right rule refusal
crowded-audited =
    let (time, ways, share, score) = dense-tables in
    (rw (time, ways, share, score), rw (time, ways), rw (time, ways), rw (time, ways, share))

-- an image passes the check even so
pub crowded-check : number (image_check 6 dense_image) ≡ 0
unfolding sum_to join_to list_to all_to low_first field image_of valid_record is_image image_check
crowded-check = refl
