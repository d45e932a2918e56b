use lib.ListN.{length}
use Rattle.row.proofs.Paying.{Paying}
use Rattle.row.proofs.push.accumulate.Given as goal

abbrev pub invariant-loop-v : goal.invariant-loop-v
invariant-loop-v l = Paying (length l.order) l.measure.scale l.measure.limit l.ways l.pred l.order l.initial.share l.v-iterator.iter.rest.now l.share
