-- `put_record` copies the two bytes and those of the number.
use Rattle.std.proofs.Common.{◌∙◌, ap, ◌∷◌}
use lib.Seq.{sets}
use Rattle.std.specs.Int.{w16, to_le_bytes}
use Rattle.images.proofs.Storing.{copied, low-two}
use Rattle.images.proofs.fields.put_record.Goals as goal

pub returns : goal.returns
returns c =
    let a = c.args in
    rw (c.copy_from_slice.ensures.after, c.to_le_bytes.ensures) (copied (a.a ∷ (a.b ∷ to_le_bytes w16 a.x)) a.bytes.now a.at c.requires ∙ ap (λ l. sets a.bytes.now a.at (a.a ∷ (a.b ∷ l))) (low-two a.x))
