-- What the loop of `scores::add` keeps: the sums so far.
use Rattle.std.proofs.Common.{◌+◌, ◌≤◌, get_or, length}
use Rattle.routes.specs.Stored.{Stored}
use Rattle.cells.proofs.scores.add.Given as goal

abbrev pub invariant-loop-v : goal.invariant-loop-v
invariant-loop-v l = (l.v ≤ length l.row) × Stored (λ j. get_or l.initial.sum j 0 + get_or l.row j 0) l.v l.initial.sum l.sum
