use Rattle.row.proofs.Tallying.{Tallying}
use Rattle.row.proofs.settle.tally.Given as goal

abbrev pub invariant-loop-u : goal.invariant-loop-u
invariant-loop-u l = Tallying l.limit l.first l.from l.ways l.u-iterator.0 l.count
