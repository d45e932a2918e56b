-- What the loop of `read_costs` keeps: the cost table of the records passed.
use Rattle.std.proofs.Common.{◌≡◌, ◌≤◌}
use Rattle.book.proofs.Records.{costs_to}
use Rattle.images.proofs.image_read.read_costs.Given as goal

abbrev pub invariant-loop-i : goal.invariant-loop-i
invariant-loop-i l = (l.i ≤ l.links) × (l.cost ≡ costs_to l.n l.image l.i)
