-- `unread_line` prints its parts one behind another; each has room in the room of the whole.
use Rattle.words.specs.Text.{bytes}
use Rattle.print.proofs.Printing.{rest-fits, then-prints}
use Rattle.print.proofs.Output.unread_line.Goals as goal

pub put-requires : goal.put-requires
unfolding bytes
put-requires c = rest-fits (bytes " unread\n") c.decimal.ensures.printed c.requires

pub returns : goal.returns
unfolding bytes
returns c = then-prints c.decimal.ensures c.put.ensures
