-- What the walk of a trip promises. Assumes nothing.
use Rattle.std.specs.Prelude.{ℕ, ◌<◌, Bool, List, Option, None, Some}
use Rattle.route_walk.specs.declared.trip.Trip.{Trip}
use Rattle.route_walk.specs.Promise.{leads_on, Next, Standing, bytes_from, bytes_along, bytes_whole}

-- the link u to y leads on
abbrev pub leading : Trip → ℕ → ℕ → Bool
leading h u y = leads_on h.n h.s h.t h.cost.now h.passing.now h.time.now u y

-- the first stop, counted from `from`, to which a link from u leads on
abbrev pub First : Trip → (u from : ℕ) → Option ℕ → Type 0
First h u from None = Next h.n h.s h.t h.cost.now h.passing.now h.time.now u from h.n
First h u from (Some y) = Next h.n h.s h.t h.cost.now h.passing.now h.time.now u from y × (y < h.n)

-- the walk stands at u, behind the first k stops of a path
abbrev pub Stands : Trip → (k u : ℕ) → (path : List ℕ) → Type 0
Stands h k u path = Standing h.n h.s h.t h.cost.now h.passing.now h.time.now k u path

-- the bytes of the routes that go on from u, of those that do by a link to a stop counted from `from`, and of all
abbrev pub from_bytes : Trip → (k : ℕ) → (path : List ℕ) → (u : ℕ) → List ℕ
from_bytes h k path u = bytes_from h.n h.s h.t h.cost.now h.passing.now h.time.now k path u

abbrev pub along_bytes : Trip → (k : ℕ) → (path : List ℕ) → (u from : ℕ) → List ℕ
along_bytes h k path u from = bytes_along h.n h.s h.t h.cost.now h.passing.now h.time.now k path u from

abbrev pub whole_bytes : Trip → List ℕ
whole_bytes h = bytes_whole h.n h.s h.t h.cost.now h.passing.now h.time.now
