use Rattle.std.specs.Prelude.{Ok, Err}
use Rattle.std.proofs.lemmas.Result.{err_from_is_err_and}
use mathlib.Core.Path.{refl}
use Rattle.course.specs.Promise.{Noted}
use Rattle.course.proofs.Standing.{edit-inside}
use Rattle.course.proofs.turn.turn.Goals as goal

pub returns-in_err-edited-clause-turned : goal.returns-in_err-edited-clause-turned
unfolding Noted
returns-in_err-edited-clause-turned c =
    let p = err_from_is_err_and c.from_residual.result c.from_residual.ensures.1 in
    rw (p.1, p.2) (record { answer = Err c.in_err-edited.field-0.0; done = c.in_err-edited.ensures.done; told = refl; noted = refl })

pub note-requires : goal.note-requires
note-requires c =
    let (from, to, most) = edit-inside _ c.args.e _ _ (Ok c.in_ok-edited.edited) c.in_ok-edited.ensures.done c.requires.audited refl in
    (c.requires.room, from, to, most)

pub returns-clause-turned : goal.returns-clause-turned
unfolding Noted
returns-clause-turned c =
    record { answer = Ok c.in_ok-edited.edited; done = c.in_ok-edited.ensures.done; told = refl; noted = (c.note.ensures.touched, c.note.ensures.done, c.note.ensures.changes) }
