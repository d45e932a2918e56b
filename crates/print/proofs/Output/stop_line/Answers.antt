-- `stop_line` prints its parts one behind another; each has room in the room of the whole.
use Rattle.std.proofs.Common.{◌++◌}
use Rattle.words.specs.Text.{bytes, labelled}
use Rattle.print.proofs.Printing.{first_fits, rest-fits, then-prints}
use Rattle.print.proofs.Output.stop_line.Goals as goal

pub labelled-requires : goal.labelled-requires
unfolding bytes
labelled-requires c =
    let a = labelled "stop " c.args.v in
    let b = labelled " score " c.args.score in
    first_fits a b _ _ (first_fits (a ++ b) (bytes "\n") _ _ c.requires)

pub labelled-requires-2 : goal.labelled-requires-2
unfolding bytes
labelled-requires-2 c =
    let a = labelled "stop " c.args.v in
    let b = labelled " score " c.args.score in
    rest-fits b c.labelled.ensures.printed (first_fits (a ++ b) (bytes "\n") _ _ c.requires)

pub put-requires : goal.put-requires
unfolding bytes
put-requires c = rest-fits (bytes "\n") (then-prints c.labelled.ensures c.labelled-2.ensures).printed c.requires

pub returns : goal.returns
unfolding bytes
returns c = then-prints (then-prints c.labelled.ensures c.labelled-2.ensures) c.put.ensures
