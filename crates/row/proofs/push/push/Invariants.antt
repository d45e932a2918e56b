use Rattle.row.proofs.Adding.{Adding}
use Rattle.row.proofs.push.push.Given as goal

abbrev pub invariant-loop-u : goal.invariant-loop-u
invariant-loop-u l = Adding l.to l.psi l.u-iterator.0 l.initial.share l.share
