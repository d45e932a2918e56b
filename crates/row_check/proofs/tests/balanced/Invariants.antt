use Rattle.std.proofs.Common.{length}
use Rattle.row_check.specs.Tests.{paid}
use Rattle.row_check.proofs.Testing.{Testing}
use Rattle.row_check.proofs.tests.balanced.Given as goal

abbrev pub invariant-loop-w : goal.invariant-loop-w
invariant-loop-w l = Testing (length l.share) (length l.yielded) (paid l.ways l.share l.flow) l.ok
