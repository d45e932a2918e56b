-- `u16_at`: a field of two bytes is its two bytes.
use Rattle.std.proofs.Common.{arith, ◌+◌}
use Rattle.book.proofs.Bytes.{field-two}
use Rattle.image_form.proofs.fields.u16_at.Goals as goal

pub returns : goal.returns
returns c =
    let b = c.args.bytes in
    omega (arith, c.from.ensures, c.from_le_bytes.ensures, field-two b.now c.args.at, c.type_inv.bytes c.args.at, c.type_inv.bytes (c.args.at + 1))
