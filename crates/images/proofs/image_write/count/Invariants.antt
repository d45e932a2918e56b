-- What the loop of `count` keeps: the number of links passed.
use Rattle.std.proofs.Common.{◌≡◌, ◌≤◌, length, get_or}
use Rattle.routes.specs.Route.{sum_to}
use Rattle.images.specs.Promise.{link_bit}
use Rattle.images.proofs.image_write.count.Given as goal

abbrev pub invariant-loop-c : goal.invariant-loop-c
invariant-loop-c l = (l.c-index ≤ length l.cost) × (l.links ≡ sum_to l.c-index (λ i. link_bit (get_or l.cost i 0))) × (l.links ≤ l.c-index)
