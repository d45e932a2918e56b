use native.Mathlib.Omega.{arith}
use Rattle.book.proofs.Sizes.{stops, lengths}
use Rattle.tables.proofs.Measured.{hall-measure}
use Rattle.tables.proofs.Masked.{job-all}
use Rattle.tables.proofs.Worked.{worked-shares}
use Rattle.course.proofs.Rows.{workable-of, rows-worked, put-filled}
use Rattle.course.proofs.back.put_rows.Goals as goal

pub all_links-requires : goal.all_links-requires
all_links-requires c = ((stops _ c.requires.size).1, (lengths _ _ c.requires.lengths).costs)

pub invariant_of-network : goal.invariant_of-network
invariant_of-network c = record { linked = job-all (workable-of c.requires) _ c.all_links.ensures }

pub fill_rows-requires : goal.fill_rows-requires
fill_rows-requires c =
    let l = lengths _ _ c.requires.lengths in
    record { square = record { times = l.times; counts = l.counts; shares = l.shares }; by_index = c.requires.below }

pub sum_scores-requires : goal.sum_scores-requires
sum_scores-requires c =
    let b = c.requires in
    let w = rows-worked _ _ _ b _ c.all_links.ensures _ _ _ (rw (c.present.ensures.0, c.present.ensures.1) at c.fill_rows.ensures) in
    record { shares = worked-shares _ _ _ _ _ w.shares hall-measure.fine (workable-of b); n_in_bounds = omega (arith, (lengths _ _ b.lengths).scores) }

pub returns-clause-tables : goal.returns-clause-tables
returns-clause-tables c = put-filled _ _ _ c.requires _ c.all_links.ensures _ _ _ (rw (c.present.ensures.0, c.present.ensures.1) at c.fill_rows.ensures) _ c.sum_scores.ensures
