use Rattle.std.proofs.Common.{◌^◌, ◌<◌}
use Rattle.lister.proofs.touched.Given as goal

abbrev pub invariant-loop-number : goal.invariant-loop-number
invariant-loop-number l = l.set < 2 ^ l.before.n
