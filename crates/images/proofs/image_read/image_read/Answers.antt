-- `image_read::image_read`: the door, and the reading behind it.
use Rattle.std.proofs.Common.{refl, ◌∙◌, ap}
use Rattle.std.proofs.lemmas.Result.{err_from_is_err_and}
use Rattle.book.specs.Call.{rule}
use Rattle.book.specs.Contract.{door_tests}
use Rattle.book.proofs.Sizes.{passing-fits}
use Rattle.book.proofs.Doors.{door-refused}
use Rattle.images.proofs.image_read.image_read.Goals as goal

pub returns-in_err-door-clause-done : goal.returns-in_err-door-clause-done
unfolding rule
returns-in_err-door-clause-done c =
    let p = err_from_is_err_and c.from_residual.result c.from_residual.ensures.1 in
    rw (p.1, p.2) (door-refused _ _ (passing-fits _ _) refl _ (c.in_err-door.ensures ∙ ap (door_tests c.args.n) c.view.ensures) refl)
