-- `u8_at`: a byte is a field of one.
use Rattle.std.proofs.Common.{arith}
use Rattle.book.proofs.Bytes.{field-one}
use Rattle.image_form.proofs.fields.u8_at.Goals as goal

pub returns : goal.returns
returns c = omega (arith, c.type_inv.bytes c.args.at, field-one c.args.bytes.now c.args.at)
