use Rattle.std.proofs.Common.{length}
use Rattle.routes.specs.Route.{mark}
use Rattle.row_check.specs.Tests.{reached}
use Rattle.row_check.proofs.Testing.{Testing}
use Rattle.row_check.proofs.tests.reached.Given as goal

abbrev pub invariant-loop-t : goal.invariant-loop-t
invariant-loop-t l = Testing (length l.time) (length l.yielded) (reached mark l.time l.ways) l.ok
