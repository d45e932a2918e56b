use Prim.Native.Nat.{◌≤◌}
use mathlib.Core.Path.{◌≡◌}
use Rattle.routes.specs.Route.{set_of}
use Rattle.links.specs.Promise.{stay}
use Rattle.book.specs.Hall.{entry}
use Rattle.touch.specs.Promise.{crosses}
use Rattle.touch.proofs.touched_set.Given as goal

abbrev pub invariant-loop-s : goal.invariant-loop-s
invariant-loop-s l = (l.s ≤ l.n) × (l.set ≡ set_of l.s (λ x. crosses l.up l.old l.new (entry l.n l.t.time.now x l.u) (stay x l.t.passing.now l.u) (entry l.n l.t.time.now x l.v)))
