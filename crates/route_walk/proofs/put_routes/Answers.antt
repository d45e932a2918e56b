use mathlib.Core.Path.{ap}
use native.Mathlib.Omega.{arith}
use lib.ListN.{length, replicate}
use Rattle.route_walk.proofs.Steps.{stands-first, first-bytes, wrote-same}
use Rattle.route_walk.proofs.put_routes.Goals as goal

pub from_stop-requires : goal.from_stop-requires
from_stop-requires c =
    let R = c.args.trip.now.ready in
    record { standing = stands-first R (replicate 64 0) R.most c.requires.own; u_in_bounds = omega (arith, ap length (first-bytes R (replicate 64 0) R.most), c.requires.time_in_bounds) }

pub returns : goal.returns
returns c =
    let R = c.args.trip.now.ready in
    wrote-same (first-bytes R (replicate 64 0) R.most) c.from_stop.ensures.wrote
