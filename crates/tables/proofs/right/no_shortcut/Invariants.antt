use Rattle.std.proofs.Common.{◌≡◌, ◌≤◌, ltb, not, ◌&&◌, length, get_or}
use Rattle.routes.specs.Route.{all_to}
use Rattle.tables.proofs.right.no_shortcut.Given as goal

abbrev pub invariant-loop-c : goal.invariant-loop-c
invariant-loop-c l = (length l.yielded ≤ length l.cost) × (l.ok ≡ all_to (length l.yielded) (λ j. not (ltb 0 (get_or l.cost j 0) && ltb (get_or l.cost j 0) (get_or l.time j 0))))
