use Rattle.row.proofs.Relaxing.{Relaxing}
use Rattle.row.proofs.settle.relax.Given as goal

abbrev pub invariant-loop-t : goal.invariant-loop-t
invariant-loop-t l = Relaxing l.network.n l.s l.b l.fresh l.network.cost.now l.network.passing.now l.initial.time l.initial.pred l.t-iterator.0 l.time l.pred
