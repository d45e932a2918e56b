use Rattle.std.proofs.Common.{◌*◌, ◌≤◌, length}
use Rattle.lister.proofs.route.Route.on_links.Given as goal

abbrev pub invariant-loop-pair : goal.invariant-loop-pair
invariant-loop-pair l = l.sum ≤ 4294967295 * length l.yielded
