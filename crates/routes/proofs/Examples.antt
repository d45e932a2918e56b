-- Three halls whose tables were worked out by hand, one of them with passing times: the definitions compute the same. Assumes nothing.
use Prim.Native.Nat.{ℕ, ◌+◌, ◌*◌, ◌/◌}
use mathlib.Core.Path.{◌≡◌, refl}
use mathlib.Core.Bool.{true, false}
use mathlib.Core.List.{List, [], ◌∷◌}
use lib.ListN.{get_or}
use Rattle.routes.specs.Route.{Costs, mark, sum_to, join_to, list_to, count, visits, time, passed, costs_from, least, extend, hops, routes, least_time, quickest, ways, through, portion, share, open_share, score}
use Rattle.routes.specs.Equations.{tight}
use Rattle.routes.specs.Walk.{leads, walk}

abbrev table : ℕ → (ℕ → ℕ → ℕ) → List ℕ
table n f = join_to n (λ s. list_to n (f s))

-- the scale, as document 02, §5 has it
abbrev L : ℕ
L = 27720

-- Document 01's hall of four stops: two routes of time 10 from 0 to 3, one over 1 and one over 2.
abbrev pub diamond : Costs
diamond u v = get_or
    (0 ∷ 5 ∷ 5 ∷ 0 ∷
    0 ∷ 0 ∷ 0 ∷ 5 ∷
    0 ∷ 0 ∷ 0 ∷ 5 ∷
    0 ∷ 0 ∷ 0 ∷ 0 ∷ []) (u * 4 + v) 0

diamond-times : table 4 (least_time diamond 4) ≡
    0 ∷ 5 ∷ 5 ∷ 10 ∷
    mark ∷ 0 ∷ mark ∷ 5 ∷
    mark ∷ mark ∷ 0 ∷ 5 ∷
    mark ∷ mark ∷ mark ∷ 0 ∷ []
unfolding join_to list_to time least extend visits hops routes least_time
diamond-times = refl

diamond-ways : table 4 (ways diamond 4) ≡
    1 ∷ 1 ∷ 1 ∷ 2 ∷
    0 ∷ 1 ∷ 0 ∷ 1 ∷
    0 ∷ 0 ∷ 1 ∷ 1 ∷
    0 ∷ 0 ∷ 0 ∷ 1 ∷ []
unfolding join_to list_to count time least extend visits hops routes least_time quickest ways
diamond-ways = refl

diamond-shares : table 4 (λ s. share diamond 4 s L) ≡
    0 ∷ L / 2 ∷ L / 2 ∷ 0 ∷
    0 ∷ 0 ∷ 0 ∷ 0 ∷
    0 ∷ 0 ∷ 0 ∷ 0 ∷
    0 ∷ 0 ∷ 0 ∷ 0 ∷ []
unfolding sum_to join_to list_to count time least extend visits hops routes least_time quickest ways through portion share
diamond-shares = refl

diamond-scores : list_to 4 (score (λ s. diamond) 4 12 L) ≡ 0 ∷ L / 2 ∷ L / 2 ∷ 0 ∷ []
unfolding sum_to join_to list_to count time least extend visits hops routes least_time quickest ways through portion open_share score
diamond-scores = refl

-- From 0 to 1 the link 0 to 2 is tight, but leads to no quickest route: the walk does not take it.
diamond-dead-end :
    let near : ℕ → ℕ = least_time diamond 4 0 in
    let far : ℕ → ℕ = λ x. least_time diamond 4 x 1 in
    (tight diamond near 0 2 ≡ true) × (leads diamond 4 near far 1 0 2 ≡ false) × (walk diamond 4 near far 1 4 [] 0 ≡ (0 ∷ 1 ∷ []) ∷ [])
unfolding join_to time least extend visits hops routes least_time walk
diamond-dead-end = (refl, refl, refl)

-- Five stops. From 0 there are two routes of time 2 to 1 and three of time 5 to 3; nothing leads to 0 or away from 4.
abbrev pub ties : Costs
ties u v = get_or
    (0 ∷ 2 ∷ 1 ∷ 0 ∷ 0 ∷
    0 ∷ 0 ∷ 0 ∷ 3 ∷ 0 ∷
    0 ∷ 1 ∷ 0 ∷ 4 ∷ 0 ∷
    0 ∷ 0 ∷ 0 ∷ 0 ∷ 1 ∷
    0 ∷ 0 ∷ 0 ∷ 0 ∷ 0 ∷ []) (u * 5 + v) 0

ties-times : table 5 (least_time ties 5) ≡
    0 ∷ 2 ∷ 1 ∷ 5 ∷ 6 ∷
    mark ∷ 0 ∷ mark ∷ 3 ∷ 4 ∷
    mark ∷ 1 ∷ 0 ∷ 4 ∷ 5 ∷
    mark ∷ mark ∷ mark ∷ 0 ∷ 1 ∷
    mark ∷ mark ∷ mark ∷ mark ∷ 0 ∷ []
unfolding join_to list_to time least extend visits hops routes least_time
ties-times = refl

ties-ways : table 5 (ways ties 5) ≡
    1 ∷ 2 ∷ 1 ∷ 3 ∷ 3 ∷
    0 ∷ 1 ∷ 0 ∷ 1 ∷ 1 ∷
    0 ∷ 1 ∷ 1 ∷ 2 ∷ 2 ∷
    0 ∷ 0 ∷ 0 ∷ 1 ∷ 1 ∷
    0 ∷ 0 ∷ 0 ∷ 0 ∷ 1 ∷ []
unfolding join_to list_to count time least extend visits hops routes least_time quickest ways
ties-ways = refl

-- From 0, stop 1 is on two of the three routes to 3 and to 4; stop 2 also on one of the two routes to 1.
ties-shares : table 5 (λ s. share ties 5 s L) ≡
    0 ∷ (2 * L / 3 + 2 * L / 3) ∷ (L / 2 + 2 * L / 3 + 2 * L / 3) ∷ L ∷ 0 ∷
    0 ∷ 0 ∷ 0 ∷ L ∷ 0 ∷
    0 ∷ (L / 2 + L / 2) ∷ 0 ∷ L ∷ 0 ∷
    0 ∷ 0 ∷ 0 ∷ 0 ∷ 0 ∷
    0 ∷ 0 ∷ 0 ∷ 0 ∷ 0 ∷ []
unfolding sum_to join_to list_to count time least extend visits hops routes least_time quickest ways through portion share
ties-shares = refl

ties-scores : list_to 5 (score (λ s. ties) 5 12 L) ≡ 0 ∷ 7 * L / 3 ∷ 11 * L / 6 ∷ 3 * L ∷ 0 ∷ []
unfolding sum_to join_to list_to count time least extend visits hops routes least_time quickest ways through portion open_share score
ties-scores = refl

-- Four stops with passing times. From 0 to 3 the links over 1 take 4 and those over 2 take 6, but passing 1 takes 7 and passing 2 takes 1.
abbrev pub fork : Costs
fork u v = get_or
    (0 ∷ 2 ∷ 3 ∷ 0 ∷
    0 ∷ 0 ∷ 0 ∷ 2 ∷
    0 ∷ 0 ∷ 0 ∷ 3 ∷
    4 ∷ 0 ∷ 0 ∷ 0 ∷ []) (u * 4 + v) 0

abbrev pub pass : ℕ → ℕ
pass v = get_or (1 ∷ 7 ∷ 1 ∷ 2 ∷ []) v 0

-- What the links of a route take, and the stops strictly between its ends: from 0 to 3 over 1 and over 2, from 1 to 2 over 3 and 0, and from
-- 0 to 1 by one link.
fork-passed :
    let both : List ℕ → List ℕ = λ r. time fork r ∷ passed pass r ∷ [] in
    (both (3 ∷ 1 ∷ 0 ∷ []) ≡ 4 ∷ 7 ∷ []) × (both (3 ∷ 2 ∷ 0 ∷ []) ≡ 6 ∷ 1 ∷ []) × (both (2 ∷ 0 ∷ 3 ∷ 1 ∷ []) ≡ 9 ∷ 3 ∷ []) × (both (1 ∷ 0 ∷ []) ≡ 2 ∷ 0 ∷ []) ×
    (time (costs_from fork pass 1) (2 ∷ 0 ∷ 3 ∷ 1 ∷ []) ≡ 9 + 3)
unfolding time passed
fork-passed = (refl, refl, refl, refl, refl)

fork-times : table 4 (λ s. least_time (costs_from fork pass s) 4 s) ≡
    0 ∷ 2 ∷ 3 ∷ 7 ∷
    8 ∷ 0 ∷ 12 ∷ 2 ∷
    9 ∷ 12 ∷ 0 ∷ 3 ∷
    4 ∷ 7 ∷ 8 ∷ 0 ∷ []
unfolding join_to list_to time least extend visits hops routes least_time
fork-times = refl
