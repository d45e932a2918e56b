-- What the walk over the quickest routes promises. Assumes nothing.
use Rattle.std.specs.Prelude.{ℕ, ◌+◌, ◌*◌, ◌-◌, ◌<◌, ◌≤◌, ◌≡◌, Bool, true, false, cond, List, [], eqb, length, take}
use Rattle.std.proofs.lemmas.List.Edits.{sets}
use Rattle.routes.specs.Route.{Costs}
use Rattle.routes.specs.Walk.{earlier_than, leads, walk, walk_from}
use Rattle.links.specs.Promise.{stay}
use Rattle.book.specs.Hall.{laid, entry, costs_in, route_bytes}

-- the time from y on to t on a route from s, with what it takes to pass y; at t nothing is left
abbrev pub on_from : (n s t : ℕ) → (passing time : List ℕ) → ℕ → ℕ
on_from n s t passing time y = cond (eqb y t) 0 (stay s passing y + entry n time y t)

module _ (n s t : ℕ) (cost passing time : List ℕ) where
  -- the costs, the passing times and the times of a hall, its first stop s and its last stop t
  pub record Ready : Type 0 where
    pub most : n ≤ 64
    pub from : s < n
    pub to : t < n
    pub square : length cost ≡ n * n
    pub long : length passing ≡ n
    pub times : length time ≡ n * n

  -- the costs as they count on routes from s, the times from s, and those on to t
  abbrev pub from_s : Costs
  from_s = costs_in n (laid cost passing) s

  abbrev pub near : ℕ → ℕ
  near x = entry n time s x

  abbrev pub far : ℕ → ℕ
  far = on_from n s t passing time

  -- the link u to y leads on
  abbrev pub leads_on : ℕ → ℕ → Bool
  leads_on u y = leads from_s n near far t u y

  -- y is the first stop, counted from `from`, to which a link from u leads on, n where there is none
  pub record Next (u from y : ℕ) : Type 0 where
    pub after : from ≤ y
    pub most : y ≤ n
    pub none : (i : ℕ) → from ≤ i → i < y → leads_on u i ≡ false
    pub one : y < n → leads_on u y ≡ true

  -- the walk stands at u, behind the first k stops of a path, which has room for all that may come: no more stops stand in front of u than
  -- have a lower time; the times from s to u and from u on to t add up, so that u is no dead end
  pub record Standing (k u : ℕ) (path : List ℕ) : Type 0 where
    pub ready : Ready
    pub inside : u < n
    pub adds : near u + far u ≡ near t
    pub front : k ≤ earlier_than n near u
    pub long : n ≤ length path

  -- the routes that go on from u behind the stops p, at most m stops from u on; and those that go on from u, the last stop of p, by a link
  -- to a stop counted from `from`, at most m stops behind u
  abbrev pub routes_from : (m : ℕ) → (p : List ℕ) → (u : ℕ) → List (List ℕ)
  routes_from m p u = walk from_s n near far t m p u

  abbrev pub routes_along : (m : ℕ) → (p : List ℕ) → (u from : ℕ) → List (List ℕ)
  routes_along m p u from = walk_from from_s n near far t m p u from

  -- their bytes, where u stands behind the first k stops of a path, and where it is the last of the first k + 1
  abbrev pub bytes_from : (k : ℕ) → (path : List ℕ) → (u : ℕ) → List ℕ
  bytes_from k path u = route_bytes (routes_from (n - k) (take k path) u)

  abbrev pub bytes_along : (k : ℕ) → (path : List ℕ) → (u from : ℕ) → List ℕ
  bytes_along k path u from = route_bytes (routes_along (n - (k + 1)) (take (k + 1) path) u from)

  -- and of all routes from s
  abbrev pub bytes_whole : List ℕ
  bytes_whole = route_bytes (routes_from n [] s)

-- the falling numbers of the walk, made of stops left and links left: for every stop that may still come n + 2, and of these one for each
-- link that is left
abbrev pub from_left : (n k : ℕ) → ℕ
from_left n k = (n - k) * (n + 2) + n + 1

abbrev pub along_left : (n k from : ℕ) → ℕ
along_left n k from = (n - k) * (n + 2) + (n - from)

-- bytes were stored from place `at` to the place end, and the others stay
pub record Wrote (bytes : List ℕ) (at end : ℕ) (before after : List ℕ) : Type 0 where
  pub place : end ≡ at + length bytes
  pub stored : after ≡ sets before at bytes
