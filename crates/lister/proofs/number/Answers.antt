use Rattle.std.proofs.Common.{arith}
use lib.Count.{ones_step}
use Rattle.lister.proofs.number.Goals as goal

pub loop-rest-preserved : goal.loop-rest-preserved
loop-rest-preserved c = omega (arith, ones_step c.loop-rest.rest)
