use Rattle.book.specs.Contract.{this_layout}
use Rattle.book.proofs.Small.{Workable}
use Rattle.tables.proofs.Masked.{job-all}
use Rattle.tables.proofs.Worked.{filled-worked}
use Rattle.tables.proofs.fill_all.fill_all.Goals.{Start}
use Rattle.tables.proofs.fill_all.fill_all.Goals as goal

workable : (c : Start) → Workable c.args.n (this_layout c.args.cost.now c.args.passing.now)
workable c = let p = c.requires in record { most = p.n_nonzero.1; square = p.n_nonzero.2; long = p.passing_len.0; valid = p.n_nonzero.3; passable = p.passing_len.1 }

pub invariant_of-network : goal.invariant_of-network
invariant_of-network c = record { linked = job-all (workable (goal.at.invariant_of-network c).Start) _ c.all_links.ensures }

pub returns : goal.returns
returns c = filled-worked _ _ _ _ _ _ _ _ _ _ _ _ (workable (goal.at.returns c).Start) c.all_links.ensures c.all_sources-all.ensures c.fill_rows.ensures
