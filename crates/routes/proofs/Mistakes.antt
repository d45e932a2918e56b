-- The four mistakes that students make, each on a hall where it gives another score than the definition; beside it the
-- same sum without the mistake, which agrees. Assumes nothing.
use Prim.Native.Nat.{ℕ, ◌+◌, ◌*◌, ◌/◌}
use mathlib.Core.Path.{◌≡◌, refl}
use mathlib.Core.Bool.{Bool, cond, not, ◌||◌}
use mathlib.Core.List.{List, [], ◌∷◌}
use lib.Dec.{eqb}
use lib.ListN.{length, get_or, take}
use Rattle.routes.specs.Route.{Costs, link, sum_to, join_to, count, visits, uses, time, least, extend, hops, routes, least_time, quickest, ways, through, portion, open_share, score}

keep : (List ℕ → Bool) → List (List ℕ) → List (List ℕ)
keep p [] = []
keep p (r ∷ rs) = cond (p r) (r ∷ keep p rs) (keep p rs)

-- the quickest routes from s to t
quick : Costs → ℕ → ℕ → ℕ → List (List ℕ)
quick W n s t = keep (λ r. eqb (time W r) (least_time W n s t)) (routes W n s t)

-- the scale, as document 02, §5 has it
abbrev L : ℕ
L = 27720

-- a score by any list of routes for each pair, and any rule on which pairs to leave out
scored : (ℕ → ℕ → List (List ℕ)) → (ℕ → ℕ → Bool) → ℕ → ℕ → ℕ
scored listed leaves n v =
    sum_to n (λ s. sum_to n (λ t. cond (leaves s t) 0 (L * count (visits v) (listed s t) / length (listed s t))))

-- the pairs that document 01 leaves out
ends : ℕ → ℕ → ℕ → Bool
ends v s t = eqb s t || (eqb s v || eqb t v)

-- 0 to 2 takes 2 over 1, and 5 on the direct link
abbrev shortcut : Costs
shortcut u v = get_or (0 ∷ 1 ∷ 5 ∷ 0 ∷ 0 ∷ 1 ∷ 0 ∷ 0 ∷ 0 ∷ []) (u * 3 + v) 0

-- Counting links instead of adding times: stop 1 loses its route to the direct link.
links-for-times : (score (λ s. shortcut) 3 12 L 1 ≡ L) × (scored (quick shortcut 3) (ends 1) 3 1 ≡ L) × (score (λ s u v. cond (link shortcut u v) 1 0) 3 12 L 1 ≡ 0)
unfolding keep quick scored ends sum_to join_to count visits time least extend hops routes least_time quickest ways through portion open_share score
links-for-times = (refl, refl, refl)

-- 0 to 3 takes 10 over 1 and over 2
abbrev diamond : Costs
diamond u v = get_or (0 ∷ 5 ∷ 5 ∷ 0 ∷ 0 ∷ 0 ∷ 0 ∷ 5 ∷ 0 ∷ 0 ∷ 0 ∷ 5 ∷ 0 ∷ 0 ∷ 0 ∷ 0 ∷ []) (u * 4 + v) 0

-- Picking one quickest route where two are equal: one junction gets everything.
one-route-picked :
    (score (λ s. diamond) 4 12 L 1 ≡ L / 2) × (score (λ s. diamond) 4 12 L 2 ≡ L / 2) × (scored (quick diamond 4) (ends 1) 4 1 ≡ L / 2) ×
    (scored (λ s t. take 1 (quick diamond 4 s t)) (ends 1) 4 1 ≡ L) × (scored (λ s t. take 1 (quick diamond 4 s t)) (ends 2) 4 2 ≡ 0)
unfolding keep quick scored ends sum_to join_to count visits time least extend hops routes least_time quickest ways through portion open_share score
one-route-picked = (refl, refl, refl, refl, refl)

-- Counting a route for the stops where it begins and ends: the ends of the diamond score too.
ends-counted : (score (λ s. diamond) 4 12 L 0 ≡ 0) × (scored (quick diamond 4) (λ s t. eqb s t) 4 0 ≡ 3 * L)
unfolding keep quick scored sum_to join_to count visits time least extend hops routes least_time quickest ways through portion open_share score
ends-counted = (refl, refl)

-- 0 to 3 takes 2 over 1 and 4 over 2; and the same hall when the link 1 to 3 has closed
abbrev two_ways : Costs
two_ways u v = get_or (0 ∷ 1 ∷ 2 ∷ 0 ∷ 0 ∷ 0 ∷ 0 ∷ 1 ∷ 0 ∷ 0 ∷ 0 ∷ 2 ∷ 0 ∷ 0 ∷ 0 ∷ 0 ∷ []) (u * 4 + v) 0

abbrev closed : Costs
closed u v = get_or (0 ∷ 1 ∷ 2 ∷ 0 ∷ 0 ∷ 0 ∷ 0 ∷ 0 ∷ 0 ∷ 0 ∷ 0 ∷ 2 ∷ 0 ∷ 0 ∷ 0 ∷ 0 ∷ []) (u * 4 + v) 0

-- Crossing out only the routes that used the closed link: the slower route over 2 is forgotten.
slower-forgotten :
    (score (λ s. two_ways) 4 12 L 2 ≡ 0) × (score (λ s. closed) 4 12 L 2 ≡ L) × (scored (quick closed 4) (ends 2) 4 2 ≡ L) ×
    (scored (λ s t. keep (λ r. not (uses 1 3 r)) (quick two_ways 4 s t)) (ends 2) 4 2 ≡ 0)
unfolding keep quick scored ends sum_to join_to count visits uses time least extend hops routes least_time quickest ways through portion open_share score
slower-forgotten = (refl, refl, refl, refl)
