use Rattle.row.proofs.Adding.{adding-ends}
use Rattle.row.proofs.push.push.Goals as goal

pub returns : goal.returns
returns c = adding-ends _ _ _ (rw c.in-None.ensures.steps.0 at c.loop-u.invariant)
