use Rattle.row_check.proofs.Balancing.{Balancing}
use Rattle.row_check.proofs.flows.flows.Given as goal

abbrev pub invariant-loop-u : goal.invariant-loop-u
invariant-loop-u l = Balancing l.network.n l.s l.network.cost.now l.network.passing.now l.network.out.now l.time l.ways l.psi l.initial.flow-items l.u l.sum l.flow-items
