use Rattle.row.proofs.Choosing.{Choosing}
use Rattle.row.proofs.settle.nearest.Given as goal

abbrev pub invariant-loop-t : goal.invariant-loop-t
invariant-loop-t l = Choosing l.time l.frontier l.t-iterator.0 l.best l.low
