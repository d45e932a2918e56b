-- Document 01's halls P1 to P8 and halls with slower links: one table of cases, and one theorem over the definitions that covers it; and
-- route lists worked out by hand. Assumes nothing.
use Prim.Native.Nat.{ℕ, ◌+◌, ◌*◌, ◌-◌, ◌/◌, ◌^◌}
use mathlib.Core.Path.{◌≡◌, refl}
use mathlib.Core.Bool.{Bool, true, false, ◌&&◌}
use mathlib.Core.List.{List, [], ◌∷◌, ◌++◌, map}
use lib.ListN.{replicate, drop}
use lib.Dec.{ltb}
use Rattle.routes.specs.Route.{mark, sum_to, join_to, list_to, all_to, same, set_of, count, chosen, ahead, among, in_order, visits, uses, time, least, extend, hops, routes, least_time, quickest, ways, quickest_routes, through, portion, open_share, used, score}
use Rattle.book.specs.Hall.{Layout, laid, Tables, most_stops, largest_cost, largest_passing, most_ways, scale, old_most_ways, old_scale, old_per_new, filled, sized, valid_costs, valid_passing, no_passing, no_links, uncrowded, right, touched, route_bytes, route_list, low_first, field, image_of, valid_record, is_image, costs_of}
use Rattle.book.specs.Call.{Call, Ask, empty_hall, audit, work_out, edit, edit_list, number, run, touched_by, judged, rule, Answer, refusal, after, answer, reversal}
use Rattle.book.specs.Book.{Book, Step, kept, book_refusal, book_after, book_answer, book_answers}
use Rattle.book.proofs.Calls.{all_divide}
use Rattle.book.proofs.Sequence.{steps_of}
use Rattle.book.specs.declared.Edit.{Edit}
use Rattle.book.specs.declared.Kind.{Kind}
use Rattle.book.specs.declared.Kind.TheVariants.{Insert, Cheapen, Raise, Delete}

-- the documents' numbers: the largest time, with links alone and with passing times, the bound of scores, which fits 32 bits, and the mark in
-- 32 bits; 1 to 12 divide the scale, 13 does not
pub numbers :
    ((most_stops - 1) * largest_cost ≡ 4128705) × ((most_stops - 1) * largest_cost + (most_stops - 2) * largest_passing ≡ 8191875) × ((most_stops - 1) * (most_stops - 2) * scale ≡ 108274320) × (ltb 108274320 (2 ^ 32) ≡ true) × (mark + 1 ≡ 2 ^ 32) ×
    (all_divide most_ways scale ≡ true) × (all_divide (most_ways + 1) scale ≡ false)
unfolding all_to
numbers = (refl, refl, refl, refl, refl, refl, refl)

-- the present limit and scale beside the old ones: 1 to 22 divide the old scale, 23 does not, and 8,398 is the quotient of the scales
pub old-numbers :
    (most_ways ∷ scale ∷ old_most_ways ∷ old_scale ∷ old_per_new ∷ [] ≡ 12 ∷ 27720 ∷ 22 ∷ 232792560 ∷ 8398 ∷ []) × (232792560 ≡ 27720 * 8398) ×
    (all_divide old_most_ways old_scale ≡ true) × (all_divide (old_most_ways + 1) old_scale ≡ false)
unfolding all_to
old-numbers = (refl, refl, refl, refl)

-- the image of document 01's example, worked out by hand; it is read back, and not if a byte is missing
pub image-worked :
    let cost : List ℕ = 0 ∷ 5 ∷ 5 ∷ 0 ∷ 0 ∷ 0 ∷ 0 ∷ 5 ∷ 0 ∷ 0 ∷ 0 ∷ 5 ∷ 0 ∷ 0 ∷ 0 ∷ 0 ∷ [] in
    let image : List ℕ = 0 ∷ 1 ∷ 5 ∷ 0 ∷ 0 ∷ 2 ∷ 5 ∷ 0 ∷ 1 ∷ 3 ∷ 5 ∷ 0 ∷ 2 ∷ 3 ∷ 5 ∷ 0 ∷ 4 ∷ 1 ∷ 4 ∷ 0 ∷ 16 ∷ 0 ∷ 0 ∷ 0 ∷ [] in
    (image_of 4 cost ≡ image) × (is_image 4 image ≡ true) × (costs_of 4 image ≡ cost) × (is_image 4 (drop 1 image) ≡ false)
unfolding sum_to join_to list_to all_to low_first field image_of valid_record is_image costs_of
image-worked = (refl, refl, refl, refl)

-- an empty hall with n and passing times of 0, on tables full of sevens, then these calls: the refusal, the touched rows and the cost
-- before of each, and the scores left
pub record Case : Type 0 where
  pub n : ℕ
  pub asks : List Ask
  pub refusals : List ℕ
  pub rows : List ℕ
  pub costs_before : List ℕ
  pub scores : List ℕ

abbrev pub case : ℕ → List Ask → List ℕ → List ℕ → List ℕ → List ℕ → Case
case n asks refusals rows costs_before scores =
    record { n = n; asks = asks; refusals = refusals; rows = rows; costs_before = costs_before; scores = scores }

abbrev pub sevens : ℕ → Tables
sevens n =
    let square : List ℕ = replicate (n * n) 7 in
    record { layout = laid square (replicate n 7); time = square; ways = square; share = square; score = replicate n 7 }

abbrev pub calls : Case → List Call
calls c = map (λ a. record { n = c.n; ask = a }) (empty_hall (no_passing c.n) ∷ c.asks)

unfoldable pub holds : Case → Bool
holds c =
    let steps : List Step = steps_of (calls c) (sevens c.n) in
    let said : List Answer = map (λ s. s.answer) steps in
    let scores : List ℕ = (run kept steps (sevens c.n)).score in
    let are : (Answer → ℕ) → List ℕ → Bool = λ part l. same (map part said) l in
    are (λ a. number a.refusal) c.refusals && (are (λ a. a.rows) c.rows && (are (λ a. a.before) c.costs_before && same scores c.scores))

-- an edit of the link u to v, and the call that makes it
abbrev pub edit_of : Kind → (u v cost : ℕ) → Edit
edit_of kind u v cost = record { kind = kind; u = u; v = v; cost = cost }

abbrev pub change : Kind → (u v cost : ℕ) → Ask
change kind u v cost = edit (edit_of kind u v cost)

-- the edits of document 01's example
abbrev pub diamond : List Ask
diamond = change Insert 0 1 5 ∷ change Insert 0 2 5 ∷ change Insert 1 3 5 ∷ change Insert 2 3 5 ∷ change Cheapen 2 3 5 ∷ []

-- layouts to begin with, every passing time 0: a link of 5 from 0 to 1 beside 3 and 3 over 2; the halls of P1 and of P2; and from 0 to 3
-- a link of 10 beside 5 and 5 over 2, from where to 3 there are 3 and 3 over 1 too
abbrev pub bypass : Layout
bypass = laid (0 ∷ 5 ∷ 3 ∷ 0 ∷ 0 ∷ 0 ∷ 0 ∷ 3 ∷ 0 ∷ []) (no_passing 3)

abbrev pub even : Layout
even = laid (0 ∷ 5 ∷ 5 ∷ 0 ∷ 0 ∷ 0 ∷ 0 ∷ 5 ∷ 0 ∷ 0 ∷ 0 ∷ 5 ∷ 0 ∷ 0 ∷ 0 ∷ 0 ∷ []) (no_passing 4)

abbrev pub uneven : Layout
uneven = laid (0 ∷ 5 ∷ 5 ∷ 0 ∷ 0 ∷ 0 ∷ 0 ∷ 5 ∷ 0 ∷ 0 ∷ 0 ∷ 4 ∷ 0 ∷ 0 ∷ 0 ∷ 0 ∷ []) (no_passing 4)

abbrev pub ties : Layout
ties = laid (0 ∷ 0 ∷ 5 ∷ 10 ∷ 0 ∷ 0 ∷ 0 ∷ 3 ∷ 0 ∷ 3 ∷ 0 ∷ 5 ∷ 0 ∷ 0 ∷ 0 ∷ 0 ∷ []) (no_passing 4)

-- route lists worked out by hand: in the hall of P1 two routes, a stop to itself, and no route; and with five stops five routes of time 5,
-- whose order is neither that from the back nor one by length, beside a slower link
pub lists-worked :
    let five : Layout = laid (0 ∷ 1 ∷ 3 ∷ 2 ∷ 6 ∷ 0 ∷ 0 ∷ 0 ∷ 1 ∷ 0 ∷ 0 ∷ 0 ∷ 0 ∷ 0 ∷ 2 ∷ 0 ∷ 0 ∷ 1 ∷ 0 ∷ 3 ∷ 0 ∷ 0 ∷ 0 ∷ 0 ∷ 0 ∷ []) (no_passing 5) in
    (route_list 4 even 0 3 ≡ 2 ∷ 3 ∷ 0 ∷ 1 ∷ 3 ∷ 3 ∷ 0 ∷ 2 ∷ 3 ∷ []) × (route_list 4 even 2 2 ≡ 1 ∷ 1 ∷ 2 ∷ []) × (route_list 4 even 3 0 ≡ 0 ∷ []) ×
    (route_list 5 five 0 4 ≡ 5 ∷ 5 ∷ 0 ∷ 1 ∷ 3 ∷ 2 ∷ 4 ∷ 4 ∷ 0 ∷ 1 ∷ 3 ∷ 4 ∷ 3 ∷ 0 ∷ 2 ∷ 4 ∷ 4 ∷ 0 ∷ 3 ∷ 2 ∷ 4 ∷ 3 ∷ 0 ∷ 3 ∷ 4 ∷ [])
unfolding join_to chosen ahead among in_order visits time least extend hops routes least_time quickest_routes route_bytes route_list
lists-worked = (refl, refl, refl, refl)

abbrev pub cases : List Case
cases =
    -- P1: the example
    case 4 diamond (0 ∷ 0 ∷ 0 ∷ 0 ∷ 0 ∷ 8 ∷ []) (0 ∷ 1 ∷ 1 ∷ 2 ∷ 2 ∷ 0 ∷ []) (0 ∷ 0 ∷ 0 ∷ 0 ∷ 0 ∷ 0 ∷ []) (0 ∷ scale / 2 ∷ scale / 2 ∷ 0 ∷ []) ∷
    -- P2: then the lower way is quicker
    case 4 (diamond ++ change Cheapen 2 3 4 ∷ []) (0 ∷ 0 ∷ 0 ∷ 0 ∷ 0 ∷ 8 ∷ 0 ∷ []) (0 ∷ 1 ∷ 1 ∷ 2 ∷ 2 ∷ 0 ∷ 2 ∷ []) (0 ∷ 0 ∷ 0 ∷ 0 ∷ 0 ∷ 0 ∷ 5 ∷ []) (0 ∷ 0 ∷ scale ∷ 0 ∷ []) ∷
    -- P3: then it closes
    case 4 (diamond ++ change Cheapen 2 3 4 ∷ change Delete 2 3 0 ∷ []) (0 ∷ 0 ∷ 0 ∷ 0 ∷ 0 ∷ 8 ∷ 0 ∷ 0 ∷ []) (0 ∷ 1 ∷ 1 ∷ 2 ∷ 2 ∷ 0 ∷ 2 ∷ 2 ∷ []) (0 ∷ 0 ∷ 0 ∷ 0 ∷ 0 ∷ 0 ∷ 5 ∷ 4 ∷ []) (0 ∷ scale ∷ 0 ∷ 0 ∷ []) ∷
    -- P4: one stop has no link (one-stop, in Calls, says it of every edit)
    case 1 (change Insert 0 0 5 ∷ change Insert 0 1 5 ∷ change Cheapen 0 0 0 ∷ change Raise 0 0 5 ∷ change Delete 7 9 0 ∷ []) (0 ∷ 4 ∷ 4 ∷ 4 ∷ 4 ∷ 4 ∷ [])
    (replicate 6 0) (replicate 6 0) (0 ∷ []) ∷
    -- P5: no stop is no hall
    case 0 (change Insert 0 1 5 ∷ []) (1 ∷ 1 ∷ []) (0 ∷ 0 ∷ []) (0 ∷ 0 ∷ []) [] ∷
    -- P6, P7: the largest cost, and one more
    case 2 (change Insert 0 1 65535 ∷ []) (0 ∷ 0 ∷ []) (0 ∷ 1 ∷ []) (0 ∷ 0 ∷ []) (0 ∷ 0 ∷ []) ∷
    case 2 (change Insert 0 1 65536 ∷ []) (0 ∷ 5 ∷ []) (0 ∷ 0 ∷ []) (0 ∷ 0 ∷ []) (0 ∷ 0 ∷ []) ∷
    -- P8: a cost of 0 is told before an absent link
    case 2 (change Cheapen 0 1 0 ∷ []) (0 ∷ 5 ∷ []) (0 ∷ 0 ∷ []) (0 ∷ 0 ∷ []) (0 ∷ 0 ∷ []) ∷
    -- a raise that loses every route of its link, and then one of a link that no quickest route uses, which touches nothing
    case 3 (work_out bypass ∷ change Raise 0 1 7 ∷ change Raise 0 1 9 ∷ []) (0 ∷ 0 ∷ 0 ∷ 0 ∷ []) (0 ∷ 0 ∷ 1 ∷ 0 ∷ []) (0 ∷ 0 ∷ 5 ∷ 7 ∷ []) (0 ∷ 0 ∷ scale ∷ []) ∷
    -- raises that keep some: P2's link back to the tie of P1; and one that loses a tie, from 0 to 3, and comes into another, from 2 to 3
    case 4 (work_out uneven ∷ change Raise 2 3 5 ∷ []) (0 ∷ 0 ∷ 0 ∷ []) (0 ∷ 0 ∷ 2 ∷ []) (0 ∷ 0 ∷ 4 ∷ []) (0 ∷ scale / 2 ∷ scale / 2 ∷ 0 ∷ []) ∷
    case 4 (work_out ties ∷ change Raise 2 3 6 ∷ []) (0 ∷ 0 ∷ 0 ∷ []) (0 ∷ 0 ∷ 2 ∷ []) (0 ∷ 0 ∷ 5 ∷ []) (0 ∷ scale / 2 ∷ scale ∷ 0 ∷ []) ∷
    -- refusals of a raise: 4 before 5, 5 before 7; 5 before 8, 8 at the present cost and below it; the largest cost, and one more
    case 2 (change Raise 1 1 0 ∷ change Raise 0 1 0 ∷ change Raise 0 1 65536 ∷ change Raise 0 1 5 ∷ []) (0 ∷ 4 ∷ 5 ∷ 5 ∷ 7 ∷ []) (replicate 5 0) (replicate 5 0)
    (0 ∷ 0 ∷ []) ∷
    case 2 (change Insert 0 1 9 ∷ change Raise 0 1 0 ∷ change Raise 0 1 9 ∷ change Raise 0 1 8 ∷ change Raise 0 1 65536 ∷ change Raise 0 1 65535 ∷ [])
    (0 ∷ 0 ∷ 5 ∷ 8 ∷ 8 ∷ 5 ∷ 0 ∷ []) (0 ∷ 1 ∷ 0 ∷ 0 ∷ 0 ∷ 0 ∷ 1 ∷ []) (0 ∷ 0 ∷ 0 ∷ 0 ∷ 0 ∷ 0 ∷ 9 ∷ []) (0 ∷ 0 ∷ []) ∷ []

-- the book of an empty hall, every passing time 0
abbrev pub empty_book : ℕ → Book
empty_book n = record { stops = n; layout = no_links n (no_passing n) }

-- the cost tables that an insert, a cheapen, a raise and a delete leave
pub costs-left :
    let left : List Ask → List ℕ = λ asks. (run kept (steps_of (calls (case 2 asks [] [] [] [])) (sevens 2)) (sevens 2)).layout.cost in
    (left (change Insert 0 1 65535 ∷ []) ≡ 0 ∷ 65535 ∷ 0 ∷ 0 ∷ []) ×
    (left (change Insert 0 1 9 ∷ change Insert 1 0 9 ∷ change Cheapen 0 1 4 ∷ []) ≡ 0 ∷ 4 ∷ 9 ∷ 0 ∷ []) ×
    (left (change Insert 0 1 9 ∷ change Insert 1 0 9 ∷ change Raise 1 0 12 ∷ []) ≡ 0 ∷ 9 ∷ 12 ∷ 0 ∷ []) ×
    (left (change Insert 0 1 9 ∷ change Insert 1 0 9 ∷ change Delete 1 0 9 ∷ []) ≡ 0 ∷ 9 ∷ 0 ∷ 0 ∷ [])
unfolding sum_to join_to list_to all_to same set_of count visits uses time least extend hops routes least_time quickest ways through portion open_share used score filled sized valid_costs valid_passing uncrowded right touched rule refusal after answer run steps_of
costs-left = (refl, refl, refl, refl)

pub cases-hold : map holds cases ≡ replicate 13 true
unfolding holds sum_to join_to list_to all_to same set_of count visits uses time least extend hops routes least_time quickest ways through portion open_share used score filled sized valid_costs valid_passing uncrowded right touched rule refusal after answer run steps_of
cases-hold = refl

-- P2's edit, reversed by what its kind, its stops and its answer give, leaves the five tables of P1, and answers the cost that it had set
pub reversed-so :
    let t : Tables = filled scale most_ways 4 even in
    let c : Call = record { n = 4; ask = change Cheapen 2 3 4 } in
    let back : Call = record { n = 4; ask = edit (reversal Cheapen 2 3 (answer c t)) } in
    let a : Answer = answer back (after c t) in
    (run kept (steps_of (calls (case 4 diamond [] [] [] [])) (sevens 4)) (sevens 4) ≡ t) × (back.ask ≡ change Raise 2 3 5) ×
    (after back (after c t) ≡ t) × (number a.refusal ∷ a.touched ∷ a.before ∷ [] ≡ 0 ∷ 5 ∷ 4 ∷ [])
unfolding sum_to join_to list_to all_to same set_of count visits uses time least extend hops routes least_time quickest ways through portion open_share used score filled sized valid_costs valid_passing uncrowded right touched rule refusal after answer run steps_of
reversed-so = (refl, refl, refl, refl)

-- what a list answers: refusal, place, set and number
abbrev pub told : Answer → List ℕ
told a = number a.refusal ∷ a.place ∷ a.touched ∷ a.rows ∷ []

-- a list whose second edit takes back its first: the rows of 0 and 2 are in the union, and all five tables are as they were
pub list_back :
    let t : Tables = filled scale most_ways 4 even in
    let c : Call = record { n = 4; ask = edit_list (edit_of Cheapen 2 3 4 ∷ edit_of Raise 2 3 5 ∷ []) } in
    let a : Answer = answer c t in
    (told a ≡ 0 ∷ 0 ∷ 5 ∷ 2 ∷ []) × (after c t ≡ t)
unfolding sum_to join_to list_to all_to same set_of count visits uses time least extend hops routes least_time quickest ways through portion open_share used score filled sized valid_costs valid_passing uncrowded right touched touched_by judged rule refusal after answer run
list_back = (refl, refl)

-- lists in the book: the hall of P1 in one go; then refused at the second edit, though the first is accepted, and at the first, which its
-- successors would have helped; and on two stops one with as many edits as a list may have, one with one more, and one of none
pub lists-run :
    let said : ℕ → List (List Edit) → List Answer = λ n lists. book_answers (map (λ l. record { n = n; ask = edit_list l }) lists) (empty_book n) in
    let small : List Answer =
    said 4 ((edit_of Insert 0 1 5 ∷ edit_of Insert 0 2 5 ∷ edit_of Insert 1 3 5 ∷ edit_of Insert 2 3 5 ∷ []) ∷ (edit_of Cheapen 2 3 4 ∷ edit_of Insert 0 1 4 ∷ []) ∷ (edit_of Delete 3 2 0 ∷ edit_of Insert 3 2 1 ∷ []) ∷ []) in
    let to-and-fro : List Edit = join_to 16 (λ i. edit_of Insert 1 0 1 ∷ edit_of Delete 1 0 9 ∷ []) in
    let long : List Answer = said 2 (to-and-fro ∷ (edit_of Insert 0 1 3 ∷ to-and-fro) ∷ [] ∷ []) in
    (map told small ≡ (0 ∷ 0 ∷ 7 ∷ 3 ∷ []) ∷ (6 ∷ 2 ∷ 0 ∷ 0 ∷ []) ∷ (7 ∷ 1 ∷ 0 ∷ 0 ∷ []) ∷ []) ×
    (map told long ≡ (0 ∷ 0 ∷ 2 ∷ 1 ∷ []) ∷ (12 ∷ 0 ∷ 0 ∷ 0 ∷ []) ∷ (0 ∷ 0 ∷ 0 ∷ 0 ∷ []) ∷ [])
unfolding sum_to join_to list_to all_to same set_of count visits uses time least extend hops routes least_time quickest ways through portion open_share used score filled sized valid_costs valid_passing uncrowded right touched touched_by judged rule book_refusal book_after book_answer book_answers run
lists-run = (refl, refl)

-- the sets of touched sources of raises in the book, a refused one among them and one of a link that no quickest route uses, and the
-- links that they leave
pub raises-run :
    let at : ℕ → List Ask → List Call = λ n asks. map (λ a. record { n = n; ask = a }) asks in
    let sets : ℕ → List Ask → List ℕ = λ n asks. map (λ a. a.touched) (book_answers (at n asks) (empty_book n)) in
    (sets 4 (work_out uneven ∷ change Raise 2 3 5 ∷ change Raise 2 3 6 ∷ change Raise 2 3 7 ∷ []) ≡ 0 ∷ 5 ∷ 5 ∷ 4 ∷ []) ×
    (sets 3 (work_out bypass ∷ change Raise 2 1 2 ∷ change Raise 2 1 4 ∷ change Raise 0 1 8 ∷ change Raise 0 1 9 ∷ []) ≡ 0 ∷ 0 ∷ 4 ∷ 1 ∷ 0 ∷ []) ×
    ((run book_after (at 3 (work_out bypass ∷ change Raise 2 1 2 ∷ change Raise 2 1 4 ∷ [])) (empty_book 3)).layout.cost ≡ 0 ∷ 5 ∷ 3 ∷ 0 ∷ 0 ∷ 0 ∷ 0 ∷ 4 ∷ 0 ∷ [])
unfolding sum_to join_to list_to all_to same set_of count visits uses time least extend hops routes least_time quickest ways through portion open_share used score filled sized valid_costs valid_passing uncrowded right touched rule book_refusal book_after book_answer book_answers run
raises-run = (refl, refl, refl)

-- the book of P3's calls, and then of another n, a link that is there already and a cost table that is too short; of an empty hall
-- after them; and of a work out after them
pub book-runs :
    let calls : List Call = map (λ a. record { n = 4; ask = a }) (diamond ++ change Cheapen 2 3 4 ∷ change Delete 2 3 0 ∷ []) in
    let more : List Call = record { n = 3; ask = audit } ∷ record { n = 4; ask = change Insert 0 1 4 } ∷ record { n = 4; ask = work_out (laid (replicate 15 0) (no_passing 4)) } ∷ [] in
    let none : List ℕ = replicate 16 0 in
    (map (λ a. number a.refusal ∷ a.touched ∷ a.before ∷ []) (book_answers (calls ++ more) (empty_book 4)) ≡
    (0 ∷ 1 ∷ 0 ∷ []) ∷ (0 ∷ 1 ∷ 0 ∷ []) ∷ (0 ∷ 3 ∷ 0 ∷ []) ∷ (0 ∷ 5 ∷ 0 ∷ []) ∷ (8 ∷ 0 ∷ 0 ∷ []) ∷ (0 ∷ 5 ∷ 5 ∷ []) ∷ (0 ∷ 5 ∷ 4 ∷ []) ∷
    (2 ∷ 0 ∷ 0 ∷ []) ∷ (6 ∷ 0 ∷ 0 ∷ []) ∷ (2 ∷ 0 ∷ 0 ∷ []) ∷ []) ×
    ((run book_after (calls ++ more) (empty_book 4)).layout.cost ≡ 0 ∷ 5 ∷ 5 ∷ 0 ∷ 0 ∷ 0 ∷ 0 ∷ 5 ∷ 0 ∷ 0 ∷ 0 ∷ 0 ∷ 0 ∷ 0 ∷ 0 ∷ 0 ∷ []) ×
    ((run book_after (calls ++ (record { n = 4; ask = empty_hall (no_passing 4) } ∷ [])) (empty_book 4)).layout.cost ≡ none) ×
    ((run book_after (calls ++ (record { n = 4; ask = work_out (laid (0 ∷ 7 ∷ drop 2 none) (no_passing 4)) } ∷ [])) (empty_book 4)).layout.cost ≡ 0 ∷ 7 ∷ drop 2 none)
unfolding sum_to join_to list_to all_to same set_of count visits uses time least extend hops routes least_time quickest ways through portion open_share used score filled sized valid_costs valid_passing uncrowded right touched rule book_refusal book_after book_answer book_answers run
book-runs = (refl, refl, refl, refl)
