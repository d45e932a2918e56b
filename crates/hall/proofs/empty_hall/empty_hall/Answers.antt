use mathlib.Core.Path.{refl, ◌∙◌, ap}
use Rattle.std.proofs.lemmas.Result.{err_from_is_err_and}
use Rattle.book.specs.Call.{rule}
use Rattle.book.specs.Contract.{door_tests}
use Rattle.book.proofs.Sizes.{passing-fits}
use Rattle.book.proofs.Doors.{door-passed, door-refused, behind-door, accepted-done}
use Rattle.hall.proofs.empty_hall.empty_hall.Goals as goal

pub returns-in_err-door-clause-done : goal.returns-in_err-door-clause-done
unfolding rule
returns-in_err-door-clause-done c =
    let p = err_from_is_err_and c.from_residual.result c.from_residual.ensures.1 in
    rw (p.1, p.2) (door-refused _ _ (passing-fits _ _) refl _ (c.in_err-door.ensures ∙ ap (door_tests c.args.n) c.view.ensures) refl)

pub make_empty-requires : goal.make_empty-requires
make_empty-requires c = door-passed _ _ (c.in_ok-door.ensures ∙ ap (door_tests c.args.n) c.view.ensures) refl

pub returns-clause-done : goal.returns-clause-done
unfolding rule
returns-clause-done c =
    let inside = door-passed _ _ (c.in_ok-door.ensures ∙ ap (door_tests c.args.n) c.view.ensures) refl in
    accepted-done _ _ _ _ (behind-door _ _ (passing-fits _ _) refl inside) c.make_empty.ensures.tables refl
