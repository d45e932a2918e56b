use borrow.Author.Rules.{rules}
use Rattle.routes.proofs.Stored.{stored-ends}
use Rattle.row_check.proofs.handed.divided.Goals as goal

pub returns : goal.returns
returns c = search (rules, stored-ends)
