use Rattle.std.proofs.Common.{◌^◌, length, ltb}
use Rattle.row_check.specs.Tests.{little}
use Rattle.row_check.proofs.Testing.{Testing}
use Rattle.row_check.proofs.tests.light.Given as goal

abbrev pub invariant-loop-x : goal.invariant-loop-x
invariant-loop-x l = Testing (length l.share) l.x-index (little l.share) (ltb l.joined (2 ^ 40))
