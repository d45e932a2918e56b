use Rattle.lister.specs.Wrote.{goes_on}
use Rattle.lister.proofs.quickest.List.put_route.Goals as goal

pub loop-v-preserved : goal.loop-v-preserved
loop-v-preserved c = goes_on c.loop-v.invariant c.put-in-loop-v.ensures

pub returns : goal.returns
returns c = goes_on (goes_on c.count.ensures.wrote c.put.ensures) c.loop-v.invariant
