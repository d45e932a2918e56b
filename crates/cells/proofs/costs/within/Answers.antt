-- `costs::within` collects whether an entry is above the limit.
use Rattle.std.proofs.Common.{rules, arith, refl, get_or}
use Rattle.routes.specs.Route.{all_to}
use Rattle.routes.proofs.Tests.{all_more, not-above}
use Rattle.cells.proofs.costs.within.Goals as goal

pub loop-x-init : goal.loop-x-init
unfolding all_to
loop-x-init c = (omega arith, refl)

pub loop-x-preserved : goal.loop-x-preserved
loop-x-preserved c = search (rules, get_or, all_more, not-above)
