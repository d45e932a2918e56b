-- A layout whose rows can be worked out: from every source a link and the stop that it leaves take little, so that no route takes the mark.
-- Assumes nothing.
use Prim.Native.Nat.{ℕ, ◌+◌, ◌*◌, ◌<◌, ◌≤◌}
use native.Mathlib.Nat.{mul-le-mul_right}
use native.Mathlib.Omega.{arith}
use mathlib.Core.Path.{◌≡◌}
use mathlib.Core.Bool.{true}
use lib.ListN.{length, get_or}
use Rattle.routes.specs.Route.{mark}
use Rattle.routes.specs.Equations.{Within}
use Rattle.routes.proofs.Flows.{Flows, flows}
use Rattle.routes.proofs.Passing.{from-within}
use Rattle.book.specs.Hall.{Layout, most_stops, largest_cost, largest_passing, entry, costs_in, valid_costs, valid_passing}
use Rattle.book.proofs.Sizes.{stops}
use Rattle.book.proofs.Tables.{valid-costs, valid-passing}
use Rattle.book.proofs.Steps.{Held}

-- its two tables have their lengths and hold costs and passing times
pub record Workable (n : ℕ) (lay : Layout) : Type 0 where
  pub most : n ≤ most_stops
  pub square : length lay.cost ≡ n * n
  pub long : length lay.passing ≡ n
  pub valid : valid_costs n lay.cost ≡ true
  pub passable : valid_passing n lay.passing ≡ true

-- what a book has at every point of a sequence is one
pub workable : {n : ℕ} {lay : Layout} → Held n lay → Workable n lay
workable {n} h = record { most = (stops n h.size).1; square = h.square; long = h.long; valid = h.valid; passable = h.passable }

-- the most that a link and the stop that it leaves take
abbrev pub dearest : ℕ
dearest = largest_cost + largest_passing

module _ {n : ℕ} {lay : Layout} (h : Workable n lay) where
  pub costs-within : Within (entry n lay.cost) n largest_cost
  costs-within = (valid-costs n lay.cost h.valid).most

  pub passing-within : (v : ℕ) → v < n → get_or lay.passing v 0 ≤ largest_passing
  passing-within = valid-passing n lay.passing h.passable

  pub within : (s : ℕ) → Within (costs_in n lay s) n dearest
  within s = from-within (entry n lay.cost) (λ v. get_or lay.passing v 0) s n largest_cost largest_passing costs-within passing-within

  pub small : n * dearest < mark
  small = omega (arith, mul-le-mul_right dearest h.most)

  pub flow : (s : ℕ) → s < n → Flows (costs_in n lay s) n s
  flow s k = flows (costs_in n lay s) n s dearest k (within s) small
