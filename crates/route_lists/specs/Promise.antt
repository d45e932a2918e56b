-- What the parts of the route list promise. Assumes nothing.
use Rattle.std.specs.Prelude.{ℕ, ◌+◌, ◌*◌, ◌<◌, ◌≤◌, ◌≡◌, true, false, cond, List, Ok, Err, eqb, length}
use Rattle.routes.specs.Route.{sum_to}
use Rattle.book.specs.Hall.{Layout, Tables, most_ways, scale, entry, filled, valid_costs, valid_passing, crowded_pair}
use Rattle.book.specs.Call.{list_routes, plain, Done, Outcome}
use Rattle.book.specs.Contract.{Audited}
use Rattle.route_walk.specs.Promise.{on_from}

-- a table of ways, no entry of which is above that of a crowded pair
pub record Few (n : ℕ) (ways : List ℕ) : Type 0 where
  pub counts : length ways ≡ n * n
  pub few : (u v : ℕ) → u < n → v < n → entry n ways u v ≤ most_ways + 1

-- how many quickest routes visit a stop: the ways to it times the ways on from it where the times add up, the one on from it with what it
-- takes to pass it, and none elsewhere
abbrev pub visiting_by : (near far all coming going : ℕ) → ℕ
visiting_by near far all coming going = cond (eqb (near + far) all) (coming * going) 0

-- the sum over all stops
abbrev pub stops_in_all : (n s t : ℕ) → (passing time ways : List ℕ) → ℕ
stops_in_all n s t passing time ways = sum_to n (λ v. visiting_by (entry n time s v) (on_from n s t passing time v) (entry n time s t) (entry n ways s v) (entry n ways v t))

-- two stops that are no crowded pair, and the layout, times and ways of right tables
pub record Listable (n s t : ℕ) (l : Layout) (time ways : List ℕ) : Type 0 where
  pub most : n ≤ 64
  pub from : s < n
  pub to : t < n
  pub square : length l.cost ≡ n * n
  pub long : length l.passing ≡ n
  pub valid : valid_costs n l.cost ≡ true
  pub passable : valid_passing n l.passing ≡ true
  pub free : crowded_pair most_ways n l s t ≡ false
  pub times : time ≡ (filled scale most_ways n l).time
  pub counts : ways ≡ (filled scale most_ways n l).ways

-- right tables, and two of their stops that are no crowded pair
pub record Open (n s x : ℕ) (t : Tables) : Type 0 where
  pub sound : Audited n t
  pub from : s < n
  pub to : x < n
  pub free : crowded_pair most_ways n t.layout s x ≡ false

-- the tests before the buffer's: a list that fails one is refused by it, whatever its buffer, and else there are such tables and stops
abbrev pub Admits : (n s x : ℕ) → (t : Tables) → Outcome → Type 0
Admits n s x t (Ok _) = Open n s x t
Admits n s x t (Err r) = (buffer : List ℕ) → Done (record { n = n; ask = list_routes s x buffer }) t t (plain (Err r) buffer)
