use borrow.Author.Rules.{rules}
use mathlib.Core.Path.{sym}
use native.Mathlib.Nat.{le_of_eq}
use Rattle.routes.proofs.Booleans.{failed, held}
use Rattle.book.proofs.Sizes.{stops, lengths}
use Rattle.hall.proofs.WorkOut.{work-invalid, work-shares, work-accepted}
use mathlib.Core.Path.{ap}
use mathlib.Core.Bool.{not}
use Rattle.hall.proofs.work_out.fill_tables.Goals as goal

pub valid-requires : goal.valid-requires
valid-requires c = ((stops _ c.requires.size).1, (lengths _ _ c.requires.lengths).costs)

pub returns-then-not-valid : goal.returns-then-not-valid
returns-then-not-valid c = search (rules, failed, work-invalid)

pub fill_all-requires : goal.fill_all-requires
fill_all-requires c = let l = lengths _ _ c.requires.lengths in
    let (some, most) = stops _ c.requires.size in
    record { n_nonzero = (some, most, l.costs, held c.valid.ensures (ap not c.if-not-valid.false)); passing_len = (l.passings, c.requires.passable); square = record { times = l.times; counts = l.counts; shares = l.shares } }

pub sum_scores-requires : goal.sum_scores-requires
sum_scores-requires c = record {
  shares = work-shares _ _ _ _ _ _ _ c.requires (held c.valid.ensures (ap not c.if-not-valid.false)) (rw (c.present.ensures.0, c.present.ensures.1) at c.fill_all.ensures);
  n_in_bounds = le_of_eq (sym (lengths _ _ c.requires.lengths).scores);
}

pub returns : goal.returns
returns c = work-accepted _ _ _ _ _ _ _ c.requires (held c.valid.ensures (ap not c.if-not-valid.false)) (rw (c.present.ensures.0, c.present.ensures.1) at c.fill_all.ensures) c.sum_scores.ensures
