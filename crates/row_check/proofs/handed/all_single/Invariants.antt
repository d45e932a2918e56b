use Rattle.std.proofs.Common.{length}
use Rattle.row_check.specs.Tests.{single}
use Rattle.row_check.proofs.Testing.{Testing}
use Rattle.row_check.proofs.handed.all_single.Given as goal

abbrev pub invariant-loop-w : goal.invariant-loop-w
invariant-loop-w l = Testing (length l.ways) l.w-index (single l.ways) l.ok
