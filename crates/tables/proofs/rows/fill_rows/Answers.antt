use Rattle.tables.proofs.FilledRows.{filling-goes, filling-ends}
use Rattle.tables.proofs.rows.fill_rows.Goals as goal

pub loop-s-preserved : goal.loop-s-preserved
loop-s-preserved c = filling-goes _ _ _ _ _ _ _ _ c.loop-s.invariant c.in-Some.ensures.steps c.fill_row.ensures

pub returns : goal.returns
returns c = filling-ends _ _ _ _ _ _ _ _ c.in-None.ensures.steps.0 c.loop-s.invariant
