-- The routes of a hall, by listing every one of them, and what document 01, with document 02, §8, counts over them.
-- A stop (vertex) is a number below n. W u v is the cost (weight) of the link (directed edge) u to v, 0 where there is none; p v is the
-- passing time of the stop v (vertex weight).
-- A route (simple path) is the list of its stops, the last one first. Assumes nothing.
use Rattle.std.specs.Prelude.{ℕ, zero, suc, ◌+◌, ◌*◌, ◌/◌, ◌%◌, ◌^◌, min, Bool, true, false, cond, ◌&&◌, ◌||◌, List, [], ◌∷◌, ◌++◌, map, reverse, eqb, ltb}

-- f 0 + .. + f (n - 1)
unfoldable pub sum_to : ℕ → (ℕ → ℕ) → ℕ
sum_to zero f = 0
sum_to (suc n) f = sum_to n f + f n

-- g 0 ++ .. ++ g (n - 1): lists joined in order; also the rows of a table, one after another
unfoldable pub join_to : {A : Type 0} → ℕ → (ℕ → List A) → List A
join_to zero g = []
join_to (suc n) g = join_to n g ++ g n

-- the list f 0 .. f (n - 1)
unfoldable pub list_to : {A : Type 0} → ℕ → (ℕ → A) → List A
list_to zero f = []
list_to (suc n) f = list_to n f ++ (f n ∷ [])

-- p holds of 0 .. n - 1
unfoldable pub all_to : ℕ → (ℕ → Bool) → Bool
all_to zero p = true
all_to (suc n) p = all_to n p && p n

-- two lists are equal
unfoldable pub same : List ℕ → List ℕ → Bool
same [] [] = true
same [] (y ∷ ys) = false
same (x ∷ xs) [] = false
same (x ∷ xs) (y ∷ ys) = eqb x y && same xs ys

-- the set of those i below n that have the property p, as a number: bit i stands for i
unfoldable pub set_of : ℕ → (ℕ → Bool) → ℕ
set_of n p = sum_to n (λ i. cond (p i) (2 ^ i) 0)

-- bit i of a set
unfoldable pub has : ℕ → ℕ → Bool
has a zero = eqb (a % 2) 1
has a (suc i) = has (a / 2) i

-- how many members of a list have the property p
unfoldable pub count : {A : Type 0} → (A → Bool) → List A → ℕ
count p [] = 0
count p (a ∷ l) = cond (p a) 1 0 + count p l

-- those members of a list that have the property p
unfoldable pub chosen : {A : Type 0} → (A → Bool) → List A → List A
chosen p [] = []
chosen p (a ∷ l) = cond (p a) (a ∷ chosen p l) (chosen p l)

-- r comes before q: their members are compared from the front (lexicographic order); a list comes before those that it begins
unfoldable pub ahead : List ℕ → List ℕ → Bool
ahead [] [] = false
ahead [] (y ∷ q) = true
ahead (x ∷ r) [] = false
ahead (x ∷ r) (y ∷ q) = ltb x y || (eqb x y && ahead r q)

-- r put in its place among lists that are in that order
unfoldable pub among : List ℕ → List (List ℕ) → List (List ℕ)
among r [] = r ∷ []
among r (q ∷ rs) = cond (ahead q r) (q ∷ among r rs) (r ∷ q ∷ rs)

-- lists brought in order (insertion sort)
unfoldable pub in_order : List (List ℕ) → List (List ℕ)
in_order [] = []
in_order (r ∷ rs) = among r (in_order rs)

abbrev pub Costs : Type 0
Costs = ℕ → ℕ → ℕ

-- the mark: the time where there is no route (infinity)
abbrev pub mark : ℕ
mark = 4294967295

abbrev pub link : Costs → ℕ → ℕ → Bool
link W u v = ltb 0 (W u v)

-- the route passes stop x, its ends included
unfoldable pub visits : ℕ → List ℕ → Bool
visits x [] = false
visits x (y ∷ r) = eqb x y || visits x r

-- the route takes the link u to v
unfoldable pub uses : ℕ → ℕ → List ℕ → Bool
uses u v [] = false
uses u v (t ∷ []) = false
uses u v (t ∷ (x ∷ r)) = (eqb x u && eqb t v) || uses u v (x ∷ r)

-- the sum of the costs of a route's links
unfoldable pub time : Costs → List ℕ → ℕ
time W [] = 0
time W (t ∷ []) = 0
time W (t ∷ (u ∷ r)) = time W (u ∷ r) + W u t

-- the passing times of the stops strictly between a route's ends, in all
unfoldable pub passed : (ℕ → ℕ) → List ℕ → ℕ
passed p [] = 0
passed p (t ∷ []) = 0
passed p (t ∷ (u ∷ [])) = 0
passed p (t ∷ (u ∷ (x ∷ r))) = p u + passed p (u ∷ (x ∷ r))

-- a route's time: the sum of the costs of its links and of the passing times of the stops strictly between its ends
abbrev pub route_time : Costs → (ℕ → ℕ) → List ℕ → ℕ
route_time W p r = time W r + passed p r

-- what the links cost on routes from s: one that leaves another stop than s also takes what it takes to pass that stop. So the costs of a
-- route's links from s add up to its time (`time-from`, proved), and all below is over these costs, as the costs W
abbrev pub costs_from : Costs → (ℕ → ℕ) → ℕ → Costs
costs_from W p s u v = cond (link W u v) (W u v + cond (eqb u s) 0 (p u)) 0

-- the least time of a list of routes, the mark where it is empty
unfoldable pub least : Costs → List (List ℕ) → ℕ
least W [] = mark
least W (r ∷ rs) = min (time W r) (least W rs)

-- those routes of a list that do not visit t, each led on to t
unfoldable pub extend : ℕ → List (List ℕ) → List (List ℕ)
extend t [] = []
extend t (r ∷ rs) = cond (visits t r) (extend t rs) ((t ∷ r) ∷ extend t rs)

-- the costs W are those on routes from s
module _ (W : Costs) (n s : ℕ) where
  -- the routes of k links from s to t: by the last link, which comes from any stop u
  unfoldable pub hops : ℕ → ℕ → List (List ℕ)
  hops zero t = cond (eqb t s) ((s ∷ []) ∷ []) []
  hops (suc k) t = join_to n (λ u. cond (link W u t) (extend t (hops k u)) [])

  -- all routes from s to t: n different stops have at most n - 1 links between them
  unfoldable pub routes : ℕ → List (List ℕ)
  routes t = join_to n (λ k. hops k t)

  -- the least time from s to t (distance)
  unfoldable pub least_time : ℕ → ℕ
  least_time t = least W (routes t)

  -- the number of quickest routes (shortest paths) from s to t that have the property p
  unfoldable pub quickest : (List ℕ → Bool) → ℕ → ℕ
  quickest p t = let d : ℕ = least_time t in count (λ r. eqb (time W r) d && p r) (routes t)

  -- the number of quickest routes from s to t (σ)
  unfoldable pub ways : ℕ → ℕ
  ways t = quickest (λ r. true) t

  -- those routes themselves, each with its first stop first, in order
  unfoldable pub quickest_routes : ℕ → List (List ℕ)
  quickest_routes t = let d : ℕ = least_time t in in_order (map reverse (chosen (λ r. eqb (time W r) d) (routes t)))

  -- the number of those that pass v
  unfoldable pub through : ℕ → ℕ → ℕ
  through v t = quickest (visits v) t

  -- what the pair s, t adds to v, for t other than s and v; zero over zero is zero (pair dependency × scale)
  unfoldable pub portion : ℕ → ℕ → ℕ → ℕ
  portion scale v t = cond (eqb t s || eqb t v) 0 (scale * through v t / ways t)

  -- the share of v in the routes from s, by document 01 (dependency δ × scale)
  unfoldable pub share : ℕ → ℕ → ℕ
  share scale v = cond (eqb v s) 0 (sum_to n (portion scale v))

  -- the pair s, t is crowded: it has more ways than the limit
  abbrev pub crowded : (limit t : ℕ) → Bool
  crowded limit t = ltb limit (ways t)

  -- the ways of the pair as a table has them: counted up to limit + 1, which is the entry of a crowded pair
  abbrev pub capped_ways : (limit t : ℕ) → ℕ
  capped_ways limit t = min (suc limit) (ways t)

  -- the share of v as a table has it: a crowded pair adds nothing
  unfoldable pub open_share : (limit scale v : ℕ) → ℕ
  open_share limit scale v = cond (eqb v s) 0 (sum_to n (λ t. cond (crowded limit t) 0 (portion scale v t)))

  -- some quickest route from s uses the link u to v
  unfoldable pub used : ℕ → ℕ → Bool
  used u v = ltb 0 (sum_to n (quickest (uses u v)))

-- the score of v: the sum over all sources of its shares as a table has them, C s being the costs on routes from s (betweenness × scale,
-- ordered pairs)
unfoldable pub score : (ℕ → Costs) → (n limit scale v : ℕ) → ℕ
score C n limit scale v = sum_to n (λ s. open_share (C s) n s limit scale v)
