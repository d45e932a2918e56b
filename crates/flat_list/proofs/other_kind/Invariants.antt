use Prim.Native.Nat.{◌-◌}
use mathlib.Core.Path.{◌≡◌}
use lib.ListN.{length}
use Rattle.flat_list.specs.Flat.{cut_short, other_from, first_other}
use Rattle.flat_list.proofs.other_kind.Given as goal

abbrev pub invariant-loop-i : goal.invariant-loop-i
invariant-loop-i l = first_other l.list ≡ other_from (cut_short (length l.list)) l.i (l.turns - l.i) l.list
