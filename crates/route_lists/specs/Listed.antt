-- The list of a trip. Assumes nothing.
use Rattle.std.specs.Prelude.{ℕ, List}
use Rattle.book.specs.Hall.{entry, laid, route_list}
use Rattle.route_walk.specs.declared.trip.Trip.{Trip}
use Rattle.route_walk.specs.Promise.{on_from}
use Rattle.route_lists.specs.Promise.{visiting_by, stops_in_all, Listable}

-- how many of its quickest routes visit a stop, and how many stops they have in all
abbrev pub visits : Trip → (ways : List ℕ) → ℕ → ℕ
visits h ways v = visiting_by (entry h.n h.time.now h.s v) (on_from h.n h.s h.t h.passing.now h.time.now v) (entry h.n h.time.now h.s h.t) (entry h.n ways h.s v) (entry h.n ways v h.t)

abbrev pub all_stops : Trip → (ways : List ℕ) → ℕ
all_stops h ways = stops_in_all h.n h.s h.t h.passing.now h.time.now ways

-- its stops are no crowded pair, and it has the times of right tables, as the ways are theirs
abbrev pub Lists : Trip → (ways : List ℕ) → Type 0
Lists h ways = Listable h.n h.s h.t (laid h.cost.now h.passing.now) h.time.now ways

-- the bytes of its list
abbrev pub list_of : Trip → List ℕ
list_of h = route_list h.n (laid h.cost.now h.passing.now) h.s h.t
