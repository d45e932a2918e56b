use mathlib.Core.Path.{◌≡◌}
use lib.ListN.{length}
use Rattle.course.specs.Promise.{undone, IsInside}
use Rattle.course.proofs.back.put_costs.Given as goal

abbrev pub invariant-loop-change : goal.invariant-loop-change
invariant-loop-change l =
    let rest = l.change-iterator.iter.rest.now in
    (length l.cost ≡ length l.initial.cost) × IsInside (length l.initial.cost) rest × (undone rest l.cost ≡ undone l.changes l.initial.cost)
