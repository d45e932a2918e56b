-- What masks of links say, and what the links of a mask cost. Assumes nothing.
use Rattle.std.specs.Prelude.{ℕ, ◌+◌, ◌*◌, ◌<◌, ◌≡◌, true, cond, ◌&&◌, List, eqb, ltb, get_or}
use Rattle.routes.specs.Route.{Costs, costs_from, has}
use Rattle.links.specs.Masks.{Masks}

-- the links of a flat cost table whose bits are set: bit t of out[u] for the link u to t
abbrev pub masked : ℕ → List ℕ → List ℕ → Costs
masked n cost out u t = cond (has (get_or out u 0) t) (get_or cost (u * n + t) 0) 0

-- what they cost on routes from s, where a table has the passing times
abbrev pub masked_from : (n s : ℕ) → (cost passing out : List ℕ) → Costs
masked_from n s cost passing out = costs_from (masked n cost out) (λ v. get_or passing v 0) s

-- what it takes to pass u on a route from s: nothing where the route begins
abbrev pub stay : ℕ → List ℕ → ℕ → ℕ
stay s passing u = cond (eqb u s) 0 (get_or passing u 0)

-- the set has only stops below n
abbrev pub Below : ℕ → ℕ → Type 0
Below n set = (t : ℕ) → has set t ≡ true → t < n

-- the time of the way from s over b to t
abbrev pub via_of : (n s b : ℕ) → (cost passing time : List ℕ) → ℕ → ℕ
via_of n s b cost passing time t = get_or time b 0 + stay s passing b + get_or cost (b * n + t) 0

-- no link of a network and the stop that it leaves take more than this together: a cost and a passing time, at most 65,535 each
abbrev pub dearest : ℕ
dearest = 131070

-- no sum of ways into a stop passes this: 63 stops before it, 22 ways each, the largest limit of a measure
abbrev pub sum_bound : ℕ
sum_bound = 63 * 22

-- the masks of all links, and of the useful ones, whose cost is the time between their ends
abbrev pub AllLinks : (n : ℕ) → (cost out : List ℕ) → Type 0
AllLinks n cost out = Masks n (λ at. ltb 0 (get_or cost at 0)) out

abbrev pub UsefulLinks : (n : ℕ) → (cost time out : List ℕ) → Type 0
UsefulLinks n cost time out = Masks n (λ at. ltb 0 (get_or cost at 0) && eqb (get_or cost at 0) (get_or time at 0)) out
