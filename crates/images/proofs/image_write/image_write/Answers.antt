-- `image_write::image_write`: the audit, and the image behind it.
use Rattle.std.proofs.Common.{refl}
use Rattle.std.proofs.lemmas.Result.{err_from_is_err_and}
use Rattle.book.proofs.Filled.{right-true}
use Rattle.book.proofs.Sizes.{stops, lengths}
use Rattle.book.proofs.Doors.{audit-passed}
use Rattle.book.proofs.Buffers.{image-writes, write-refused, write-stored}
use Rattle.images.proofs.image_write.image_write.Goals as goal

pub returns-in_err-audit : goal.returns-in_err-audit
returns-in_err-audit c =
    let p = err_from_is_err_and c.from_residual.result c.from_residual.ensures.1 in
    rw (p.1, p.2) (write-refused (image-writes _ _ _) _ c.in_err-audit.ensures refl)

pub store-requires : goal.store-requires
store-requires c =
    let a = audit-passed _ _ c.in_ok-audit.ensures refl in
    ((stops _ a.inside.size).1, (lengths _ _ a.inside.lengths).costs, (right-true _ _ _ _ a.sound).0)

pub returns : goal.returns
returns c = write-stored (image-writes _ _ _) (audit-passed _ _ c.in_ok-audit.ensures refl) refl refl c.store.ensures
