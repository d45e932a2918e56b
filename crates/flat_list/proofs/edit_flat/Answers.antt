use borrow.Author.Rules.{rules}
use Rattle.flat_list.specs.Flat.{edits_of}
use Rattle.flat_list.proofs.Flat.{flat-lists}
use Rattle.flat_list.proofs.edit_flat.Goals as goal

pub returns-clause-done : goal.returns-clause-done
returns-clause-done c = c.edit_each.ensures.done (edits_of c.args.list.now) (flat-lists c.args.list.now (λ i e l gave. search rules))
