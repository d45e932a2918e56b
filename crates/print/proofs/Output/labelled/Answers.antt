-- `labelled` prints the text and then the number.
use Rattle.words.specs.Text.{decimal}
use Rattle.print.proofs.Printing.{rest-fits, then-prints}
use Rattle.print.proofs.Output.labelled.Goals as goal

pub decimal-requires : goal.decimal-requires
decimal-requires c = rest-fits (decimal c.args.x) c.put.ensures.printed c.requires

pub returns : goal.returns
returns c = then-prints c.put.ensures c.decimal.ensures
