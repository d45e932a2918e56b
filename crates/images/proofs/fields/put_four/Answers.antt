-- `put_four` copies the four bytes of the number.
use Rattle.std.proofs.Common.{◌∙◌, ap}
use lib.Seq.{sets}
use Rattle.std.specs.Int.{w32, to_le_bytes}
use Rattle.images.proofs.Storing.{copied, low-four}
use Rattle.images.proofs.fields.put_four.Goals as goal

pub returns : goal.returns
returns c =
    let a = c.args in
    rw (c.copy_from_slice.ensures.after, c.to_le_bytes.ensures) (copied (to_le_bytes w32 a.x) a.bytes.now a.at c.requires ∙ ap (sets a.bytes.now a.at) (low-four a.x))
