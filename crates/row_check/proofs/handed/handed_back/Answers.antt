use borrow.Author.Rules.{rules}
use native.Mathlib.Omega.{arith}
use Rattle.row_check.proofs.Handing.{handed-one, handed-none, handed-crowded, handed-some}
use Rattle.row_check.proofs.handed.handed_back.Goals as goal

pub returns-in-1 : goal.returns-in-1
returns-in-1 c = search (rules, handed-one)

pub returns-in-0 : goal.returns-in-0
returns-in-0 c = search (rules, handed-none)

pub returns-in_default : goal.returns-in_default
returns-in_default c = search (rules, handed-crowded)

pub returns-in_default-2 : goal.returns-in_default-2
returns-in_default-2 c = rw c.from.ensures (handed-some c.args.measure.limit c.args.measure.scale c.args.w c.args.x (omega arith) c.if-measure-w.false)
