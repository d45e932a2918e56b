use Rattle.std.proofs.Common.{◌≤◌, ◌+◌, length}
use Rattle.row_check.specs.Tests.{at}
use Rattle.routes.specs.Stored.{Stored}
use Rattle.row_check.proofs.handed.undivided.Given as goal

abbrev pub invariant-loop-t : goal.invariant-loop-t
invariant-loop-t l = (l.t ≤ length l.share) × Stored (λ t. l.scale + at l.share t) l.t l.initial.psi l.psi
