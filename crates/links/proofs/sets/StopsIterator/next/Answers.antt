use Rattle.routes.proofs.Bits.{popped}
use Rattle.std.proofs.Common.{rules, arith}
use Rattle.links.proofs.sets.StopsIterator.next.Goals as goal

pub returns-clause-steps : goal.returns-clause-steps
returns-clause-steps c = popped _ (omega arith) (search rules)
