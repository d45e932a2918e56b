use Rattle.changes.proofs.Changes.{lengths, worked-changed}
use Rattle.changes.proofs.Laws.{square', valid', changes, below, stays}
use Rattle.rework.proofs.set_cost.Goals as goal

pub rework-requires-clause-costs : goal.rework-requires-clause-costs
rework-requires-clause-costs c = let h = c.requires.change in
    rw c.start.ensures.place (square' h, valid' h)

pub rework-requires-clause-square : goal.rework-requires-clause-square
rework-requires-clause-square c = lengths (changes c.requires.change)

pub rework-requires-clause-by_index : goal.rework-requires-clause-by_index
rework-requires-clause-by_index c = below c.requires.change _ c.requires.found

pub returns-clause-worked : goal.returns-clause-worked
returns-clause-worked c = let h = c.requires.change in
    let r = rw (c.dearer-up.ensures, c.start.ensures.place) at c.rework.ensures in
    worked-changed (changes h) _ (stays h _ c.requires.found) _ _ _ r
