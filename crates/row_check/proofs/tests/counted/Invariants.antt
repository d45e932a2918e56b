use Rattle.std.proofs.Common.{length}
use Rattle.row_check.specs.Tests.{agreed}
use Rattle.row_check.proofs.Testing.{Testing}
use Rattle.row_check.proofs.tests.counted.Given as goal

abbrev pub invariant-loop-w : goal.invariant-loop-w
invariant-loop-w l = Testing (length l.ways) (length l.yielded) (agreed l.top l.ways l.fn.sum) l.ok
