use borrow.Author.Rules.{rules}
use Prim.Native.Nat.{◌/◌}
use Rattle.std.proofs.lemmas.List.{take_all, drop_all}
use Rattle.std.proofs.lemmas.List.Edits.{map_over_more}
use Rattle.book.specs.Hall.{old_per_new}
use Rattle.moves.proofs.divide.Goals as goal

pub loop-entry-preserved : goal.loop-entry-preserved
loop-entry-preserved c = search (rules, map_over_more (λ x. x / old_per_new))

pub returns : goal.returns
returns c = search (rules, take_all, drop_all)
