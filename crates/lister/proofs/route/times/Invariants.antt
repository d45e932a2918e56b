use Rattle.std.proofs.Common.{◌*◌, ◌≤◌}
use Rattle.lister.proofs.route.times.Given as goal

abbrev pub invariant-loop-v : goal.invariant-loop-v
invariant-loop-v l = l.sum ≤ 4294967295 * l.v-index
