-- `start` runs from an empty hall on: its tables are those of the book at first.
use Rattle.listing.proofs.Books.{empty-audited}
use Rattle.listing.proofs.run.start.Goals as goal

pub run-requires-clause-audited : goal.run-requires-clause-audited
run-requires-clause-audited c = (empty-audited _ _ _ _ c.requires.inside.0 c.requires.inside.1 c.empty_hall.ensures.done).1

pub returns : goal.returns
returns c =
    let e = (empty-audited _ _ _ _ c.requires.inside.0 c.requires.inside.1 c.empty_hall.ensures.done).0 in
    rw e at c.run.ensures
