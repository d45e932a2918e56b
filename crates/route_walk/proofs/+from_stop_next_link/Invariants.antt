-- The falling number of the walk is made of the stops and the links that are left.
use Rattle.route_walk.specs.Promise.{from_left, along_left}
use Rattle.route_walk.proofs.+from_stop_next_link.Given as goal

abbrev pub decreases-from_stop : goal.decreases-from_stop
decreases-from_stop l = from_left l.trip.now.n l.k

abbrev pub decreases-next_link : goal.decreases-next_link
decreases-next_link l = along_left l.trip.now.n l.k l.from
