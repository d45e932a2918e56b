use Prim.Native.Nat.{ℕ, ◌+◌, ◌*◌}
use mathlib.Core.Bool.{Bool}
use Rattle.links.proofs.Gathering.{Gathering}
use Rattle.links.specs.Masks.{Answers}
use Rattle.links.proofs.masks.stops_where.Given as goal

abbrev pub invariant-loop-t : goal.invariant-loop-t
invariant-loop-t g l = (p : ℕ → Bool) → Answers (goal.F-post g l.test) l.n p → Gathering l.n l.t (λ t. p (l.u * l.n + t)) l.set
