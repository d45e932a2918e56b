use Rattle.std.proofs.Common.{arith}
use Rattle.row.proofs.Tallying.{tallying-goes, tallying-ends}
use Rattle.row.proofs.settle.tally.Goals as goal

pub loop-u-preserved : goal.loop-u-preserved
loop-u-preserved c = tallying-goes _ _ _ _ c.requires c.loop-u.invariant c.in-Some.ensures.steps (omega arith)

pub returns : goal.returns
returns c = omega (arith, c.from.ensures, tallying-ends _ _ _ _ c.requires (rw c.in-None.ensures.steps.0 at c.loop-u.invariant))
