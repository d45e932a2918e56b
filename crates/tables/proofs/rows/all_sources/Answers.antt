use Rattle.tables.proofs.FilledRows.{has-all-sources}
use Rattle.tables.proofs.rows.all_sources.Goals as goal

pub returns : goal.returns
returns c = has-all-sources _ c.requires.1
