use mathlib.Core.Path.{refl}
use Rattle.std.proofs.lemmas.Result.{err_from_is_err_and}
use Rattle.book.specs.Call.{rule}
use Rattle.book.proofs.Doors.{door-refused}
use Rattle.hall.proofs.WorkOut.{brought-fits}
use Rattle.hall.proofs.work_out.work_out.Goals as goal

pub returns-in_err-door : goal.returns-in_err-door
unfolding rule
returns-in_err-door c =
    let p = err_from_is_err_and c.from_residual.result c.from_residual.ensures.1 in
    rw (p.1, p.2) (door-refused _ _ (brought-fits _ _) refl _ c.in_err-door.ensures refl)
