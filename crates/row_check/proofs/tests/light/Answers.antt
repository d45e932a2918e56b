use Rattle.row_check.proofs.Testing.{testing-starts, light-goes}
use Rattle.row_check.proofs.tests.light.Goals as goal

pub loop-x-init : goal.loop-x-init
loop-x-init c = testing-starts _ _

pub loop-x-preserved : goal.loop-x-preserved
loop-x-preserved c = light-goes _ _ c.loop-x.invariant c.loop-x-test.true
