use borrow.Author.Rules.{rules}
use Rattle.tables.proofs.FilledRows.{filled_row}
use Rattle.tables.proofs.rows.fill_row.Goals as goal

pub returns : goal.returns
returns c = search (rules, filled_row)
