-- `list` by cases: too short an output, and one with the listing at its front.
use Rattle.std.proofs.Common.{rules}
use Rattle.listing.proofs.Whole.{wrote_none, wrote-printed}
use Rattle.listing.proofs.list.Goals as goal

pub returns-then-output-lt-ROOM : goal.returns-then-output-lt-ROOM
returns-then-output-lt-ROOM c = wrote_none c.args.input.now c.args.output.now c.if-output-lt-ROOM.true

pub returns : goal.returns
returns c = wrote-printed c.args.input.now c.args.output.now _ _ _ c.if-output-lt-ROOM.false c.print_listing.ensures.printed (search rules)
