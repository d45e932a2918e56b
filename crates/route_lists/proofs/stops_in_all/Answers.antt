use mathlib.Core.Path.{refl}
use native.Mathlib.Numerals.{add-one}
use native.Mathlib.Omega.{arith}
use Rattle.routes.specs.Route.{sum_to}
use Rattle.route_lists.proofs.stops_in_all.Goals as goal

pub loop-v-init : goal.loop-v-init
unfolding sum_to
loop-v-init c = (omega arith, omega arith, refl)

pub loop-v-preserved : goal.loop-v-preserved
unfolding sum_to
loop-v-preserved c =
    let e = c.visiting-stops.ensures in
    (omega arith, omega (arith, e.1), rw (add-one c.loop-v.v) (omega (arith, e.0, c.loop-v.invariant.2)))
