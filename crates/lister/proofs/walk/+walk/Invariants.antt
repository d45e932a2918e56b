use Rattle.std.proofs.Common.{◌≡◌, ◌-◌, length}
use Rattle.lister.proofs.walk.+walk.Given as goal

-- the stops that the route can still take
abbrev pub decreases-walk : goal.decreases-walk
decreases-walk g l = 64 - length l.route.now.stops.items

abbrev pub invariant-loop-v : goal.invariant-loop-v
invariant-loop-v g l = record {
  route : l.route.stops.items ≡ l.initial.route.stops.items;
  visits : g.V.Visit.Becomes l.initial.visits l.visits;
}
