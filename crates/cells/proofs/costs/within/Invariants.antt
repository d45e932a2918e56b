-- What the loop of `costs::within` keeps: whether an entry so far is above the limit.
use Rattle.std.proofs.Common.{◌≡◌, ◌≤◌, leb, not, length, get_or}
use Rattle.routes.specs.Route.{all_to}
use Rattle.cells.proofs.costs.within.Given as goal

abbrev pub invariant-loop-x : goal.invariant-loop-x
invariant-loop-x l = (l.x-index ≤ length l.table) × (not l.bad ≡ all_to l.x-index (λ j. leb (get_or l.table j 0) l.limit))
