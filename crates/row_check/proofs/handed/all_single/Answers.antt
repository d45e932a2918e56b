use Rattle.row_check.proofs.Testing.{testing-starts, testing-goes}
use Rattle.row_check.proofs.handed.all_single.Goals as goal

pub loop-w-init : goal.loop-w-init
loop-w-init c = testing-starts _ _

pub loop-w-preserved : goal.loop-w-preserved
loop-w-preserved c = testing-goes c.loop-w.invariant c.loop-w-test.true
