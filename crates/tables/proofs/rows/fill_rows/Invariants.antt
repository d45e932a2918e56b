use Rattle.links.specs.Costs.{linked_from}
use Rattle.tables.proofs.FilledRows.{FillingRows}
use Rattle.tables.proofs.rows.fill_rows.Given as goal

abbrev pub invariant-loop-s : goal.invariant-loop-s
invariant-loop-s l = FillingRows l.measure.limit l.measure.scale (linked_from l.network) l.network.n l.set l.s-iterator.0 l.initial.time l.initial.ways l.initial.share l.time l.ways l.share
