use Rattle.std.proofs.Common.{◌≤◌, length}
use Rattle.row_check.specs.Handed.{handed_back}
use Rattle.row_check.specs.Tests.{at}
use Rattle.routes.specs.Stored.{Stored}
use Rattle.row_check.proofs.handed.divided.Given as goal

abbrev pub invariant-loop-t : goal.invariant-loop-t
invariant-loop-t l = (l.t ≤ length l.share) × Stored (λ t. handed_back l.measure.limit l.measure.scale (at l.ways t) (at l.share t)) l.t l.initial.psi l.psi
