use mathlib.Core.Path.{refl}
use Rattle.std.proofs.lemmas.Result.{err_from_is_err_and}
use Rattle.book.specs.Call.{rule}
use Rattle.book.proofs.Doors.{audit-passed, audit-refused}
use Rattle.edits.proofs.Calls.{audit-seen}
use Rattle.edits.proofs.edit.edit.Goals as goal

pub returns-in_err-audit-clause-done : goal.returns-in_err-audit-clause-done
unfolding rule
returns-in_err-audit-clause-done c =
    let p = err_from_is_err_and c.from_residual.result c.from_residual.ensures.1 in
    rw (p.1, p.2) (audit-refused _ _ (λ s. refl) refl refl _ (audit-seen c.view.ensures c.in_err-audit.ensures) refl)

pub edit_audited-requires : goal.edit_audited-requires
edit_audited-requires c = audit-passed _ _ (audit-seen c.view.ensures c.in_ok-audit.ensures) refl
