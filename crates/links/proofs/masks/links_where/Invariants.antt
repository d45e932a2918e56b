use Prim.Native.Nat.{ℕ, ◌+◌, ◌*◌}
use mathlib.Core.Bool.{Bool}
use Rattle.links.proofs.Masking.{Masking}
use Rattle.links.specs.Masks.{Answers}
use Rattle.links.proofs.masks.links_where.Given as goal

abbrev pub invariant-loop-u : goal.invariant-loop-u
invariant-loop-u g l = (p : ℕ → Bool) → Answers (goal.F-post g l.test) l.n p → Masking l.n l.u (λ u t. p (u * l.n + t)) l.out
