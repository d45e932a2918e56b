use Rattle.row_check.specs.Tests.{at}
use Rattle.row_check.proofs.Walking.{Walking}
use Rattle.row_check.proofs.flows.scan.Given as goal

abbrev pub invariant-loop-t : goal.invariant-loop-t
invariant-loop-t l = Walking l.network.n l.s l.u (at l.network.out.now l.u) l.network.cost.now l.network.passing.now l.time l.ways l.psi l.initial.sum l.t-iterator.0 l.sum l.flow l.improves
