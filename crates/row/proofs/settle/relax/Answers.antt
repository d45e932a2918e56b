use mathlib.Core.Path.{◌∙◌}
use native.Mathlib.Nat.{min_comm}
use Rattle.row.proofs.Relaxing.{relaxing-goes, relaxing-ends}
use Rattle.row.proofs.settle.relax.Goals as goal

pub loop-t-preserved : goal.loop-t-preserved
loop-t-preserved c = relaxing-goes _ _ _ _ _ _ _ _ c.requires c.loop-t.invariant c.in-Some.ensures.steps
    (rw (c.only-bit.ensures, c.stay.ensures) at c.predecessors.ensures) (rw c.stay.ensures at (c.min.ensures ∙ min_comm _ _))

pub returns : goal.returns
returns c = relaxing-ends _ _ _ _ _ _ _ _ c.requires (rw c.in-None.ensures.steps.0 at c.loop-t.invariant)
