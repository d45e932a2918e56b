use Prim.Native.Nat.{◌*◌, ◌≤◌}
use mathlib.Core.Path.{◌≡◌}
use Rattle.routes.specs.Route.{sum_to}
use Rattle.route_lists.specs.Listed.{visits}
use Rattle.route_lists.proofs.stops_in_all.Given as goal

abbrev pub invariant-loop-v : goal.invariant-loop-v
invariant-loop-v l = (l.v ≤ l.trip.n) × (l.stops ≤ 169 * l.v) × (l.stops ≡ sum_to l.v (visits l.trip l.ways))
