-- `decimal` prints the digits that itoa gives.
use Rattle.std.proofs.Common.{◌∙◌, sym, arith}
use Rattle.print.proofs.Printing.{decimal-std}
use Rattle.print.proofs.Output.decimal.Goals as goal

pub put-requires : goal.put-requires
put-requires c =
    let text = c.as_bytes.ensures.value ∙ c.format.ensures.text ∙ sym (decimal-std c.args.x (omega arith)) in
    rw text c.requires

pub returns : goal.returns
returns c =
    let text = c.as_bytes.ensures.value ∙ c.format.ensures.text ∙ sym (decimal-std c.args.x (omega arith)) in
    rw text at c.put.ensures
