use borrow.Author.Rules.{rules}
use Rattle.host.proofs.Handing.{handed-number}
use Rattle.host.proofs.hall_audit.Goals as goal

pub returns : goal.returns
returns c = search (rules, handed-number)
