-- The lines of the stops passed stand one behind another.
use Rattle.std.proofs.Common.{get_or, ◌+◌, ◌*◌, ◌≤◌}
use Rattle.routes.specs.Route.{join_to}
use Rattle.words.specs.Text.{stop_line}
use Rattle.print.specs.Promise.{stop_bytes, Prints}
use Rattle.listing.proofs.run.scores.Given as goal

abbrev pub invariant-loop-v : goal.invariant-loop-v
invariant-loop-v l = (l.out.written ≤ l.fn.out.written + stop_bytes * l.v) × Prints (join_to l.v (λ v. stop_line v (get_or l.score v 0))) l.fn.out l.out
