-- Halls of the old numbers, which have no passing times, and what the moving call says to them, computed. Assumes nothing.
use Rattle.std.specs.Prelude.{Err}
use mathlib.Core.Path.{◌≡◌, refl}
use mathlib.Core.Bool.{◌||◌}
use mathlib.Core.List.{List, [], ◌∷◌, map}
use lib.Dec.{eqb}
use Rattle.routes.specs.Route.{sum_to, join_to, list_to, all_to, same, set_of, count, visits, uses, time, least, extend, hops, routes, least_time, quickest, ways, through, portion, open_share, used, score}
use Rattle.book.specs.Hall.{Layout, laid, Tables, most_ways, scale, old_most_ways, old_scale, filled, sized, valid_costs, valid_passing, no_passing, uncrowded, right, touched}
use Rattle.book.specs.Call.{Call, audit, move_over, number, run, rule, refusal, after}
use Rattle.book.specs.Book.{Book, at_moved_hall, first_book, book_refusal, book_after, book_answer, book_answers}
use Rattle.book.specs.declared.Kind.TheVariants.{Insert}
use Rattle.book.specs.declared.Refusal.TheVariants.{TooManyWays, BadTables}
use Rattle.book.proofs.Moves.{moving, old-told}
use Rattle.book.proofs.Cases.{change}
use Rattle.book.proofs.Corners.{line_costs, old_line}
use Rattle.book.proofs.Crowded.{towards, thirteen}

-- five stops, with two ways from 0 to 3 and from 1 to 4, among others, and three from 0 to 4; its scores by the old scale and by the new
-- one, worked out apart
abbrev pub ties : Layout
ties = laid (0 ∷ 2 ∷ 2 ∷ 0 ∷ 0 ∷ 0 ∷ 0 ∷ 0 ∷ 3 ∷ 4 ∷ 0 ∷ 0 ∷ 0 ∷ 3 ∷ 0 ∷ 0 ∷ 0 ∷ 0 ∷ 0 ∷ 1 ∷ 5 ∷ 0 ∷ 0 ∷ 0 ∷ 0 ∷ []) (no_passing 5)

pub ties-moved :
    let old : Tables = filled old_scale old_most_ways 5 ties in
    let new : Tables = filled scale most_ways 5 ties in
    (number (refusal (moving 5) old) ≡ 0) × (after (moving 5) old ≡ new) × (old.score ≡ 1629547920 ∷ 387987600 ∷ 310390080 ∷ 1202761560 ∷ 1629547920 ∷ []) × (new.score ≡ 194040 ∷ 46200 ∷ 36960 ∷ 143220 ∷ 194040 ∷ [])
unfolding sum_to join_to list_to all_to same count visits time least extend hops routes least_time quickest ways through portion open_share score filled sized valid_costs valid_passing uncrowded right rule refusal after
ties-moved = (refl, refl, refl, refl)

-- 13 ways from 0 to 5, and 22 from 0 to 6: within the old limit, so 11; 23 ways from 0 to 6 are more than that, so 3
abbrev pub most : Layout
most = towards 7 (λ u. eqb u 2 || (eqb u 3 || eqb u 5))

abbrev pub more : Layout
more = towards 7 (λ u. eqb u 1 || (eqb u 2 || (eqb u 3 || eqb u 5)))

pub limits-told :
    (refusal (moving 6) (filled old_scale old_most_ways 6 thirteen) ≡ Err TooManyWays) × (refusal (moving 7) (filled old_scale old_most_ways 7 most) ≡ Err TooManyWays) ×
    (refusal (moving 7) (filled old_scale old_most_ways 7 more) ≡ Err BadTables)
unfolding join_to list_to all_to count visits time least extend hops routes least_time quickest ways valid_costs uncrowded
limits-told = (old-told 6 thirteen refl refl refl, old-told 7 most refl refl refl, old-told 7 more refl refl refl)

-- the book of a sequence from the moved line: its links are there at first, and a second move is 3
pub book-moved :
    let first : Book = first_book at_moved_hall 3 (after (moving 3) old_line) in
    let calls : List Call = map (λ a. record { n = 3; ask = a }) (audit ∷ move_over ∷ change Insert 0 1 5 ∷ change Insert 0 2 5 ∷ []) in
    (first.layout ≡ laid line_costs (no_passing 3)) × (map (λ a. number a.refusal) (book_answers calls first) ≡ 0 ∷ 3 ∷ 6 ∷ 0 ∷ []) ×
    ((run book_after calls first).layout ≡ laid (0 ∷ 1 ∷ 5 ∷ 0 ∷ 0 ∷ 1 ∷ 0 ∷ 0 ∷ 0 ∷ []) (no_passing 3))
unfolding sum_to join_to list_to all_to same set_of count visits uses time least extend hops routes least_time quickest ways through portion open_share used score filled sized valid_costs valid_passing uncrowded right touched rule refusal after book_refusal book_after book_answer book_answers run
book-moved = (refl, refl, refl)
