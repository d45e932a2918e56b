use Prim.Native.Nat.{◌≤◌}
use Rattle.hall.specs.Promise.{Diagonal}
use Rattle.hall.proofs.empty_hall.diagonal.Given as goal

abbrev pub invariant-loop-s : goal.invariant-loop-s
invariant-loop-s l = (l.s ≤ l.n) × Diagonal l.n l.s 0 l.initial.time l.time × Diagonal l.n l.s 1 l.initial.ways l.ways
