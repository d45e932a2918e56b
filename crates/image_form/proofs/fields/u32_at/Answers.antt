-- `u32_at`: a field of four bytes is its four bytes.
use Rattle.std.proofs.Common.{arith}
use Rattle.book.proofs.Bytes.{field-four}
use Rattle.image_form.proofs.fields.u32_at.Goals as goal

pub returns : goal.returns
returns c = omega (arith, c.from_le_bytes.ensures, field-four c.args.bytes.now c.args.at)
