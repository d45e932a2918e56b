-- `scores::add` adds a row of shares to the sums, from the front.
use Rattle.std.proofs.Common.{rules}
use Rattle.routes.proofs.Stored.{stored-front}
use Rattle.cells.proofs.scores.add.Goals as goal

pub returns : goal.returns
returns c = search (rules, stored-front)
