use Prim.Native.Nat.{◌-◌}
use lib.ListN.{length}
use Rattle.row.proofs.Turns.{Turn}
use Rattle.row.proofs.settle.settle.Given as goal

abbrev pub invariant-loop-b : goal.invariant-loop-b
invariant-loop-b l = Turn l.network.n l.s l.measure.limit l.network.cost.now l.network.passing.now l.network.out.now l.time l.ways l.pred l.order.items l.done l.frontier (length l.order.items)

abbrev pub decreases-loop-b : goal.decreases-loop-b
decreases-loop-b l = l.network.n - length l.order.items
