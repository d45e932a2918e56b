use Rattle.row.proofs.Choosing.{choosing-ends}
use Rattle.row.proofs.settle.nearest.Goals as goal

pub returns : goal.returns
returns c = choosing-ends _ _ (rw c.in-None.ensures.steps.0 at c.loop-t.invariant)
