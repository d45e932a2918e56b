use mathlib.Core.Path.{◌≡◌}
use mathlib.Core.List.{◌++◌}
use lib.ListN.{take, drop}
use Rattle.book.specs.Hall.{divided}
use Rattle.moves.proofs.divide.Given as goal

abbrev pub invariant-loop-entry : goal.invariant-loop-entry
invariant-loop-entry l = l.table ≡ divided (take l.entry-index l.initial.table) ++ drop l.entry-index l.initial.table
