use Rattle.std.proofs.lemmas.Result.{err_from_is_err_and}
use mathlib.Core.Path.{refl}
use native.Mathlib.Omega.{arith}
use borrow.Author.Tests.{lt-leb, le-leb}
use Rattle.course.proofs.Verdicts.{audit-refuses, audit-passes}
use Rattle.course.proofs.in_turn.admit.Goals as goal

pub returns-in_err-audit : goal.returns-in_err-audit
returns-in_err-audit c =
    let p = err_from_is_err_and c.from_residual.result c.from_residual.ensures.1 in
    rw (p.1, p.2) (audit-refuses _ c.args.length _ c.in_err-audit.ensures refl)

pub returns-then-length-gt-EDITS : goal.returns-then-length-gt-EDITS
returns-then-length-gt-EDITS c = rw (audit-passes _ c.args.length _ c.in_ok-audit.ensures refl, lt-leb c.args.length 32 (omega (arith, c.if-length-gt-EDITS.true)))

pub returns : goal.returns
returns c = rw (audit-passes _ c.args.length _ c.in_ok-audit.ensures refl, le-leb c.args.length 32 (omega (arith, c.if-length-gt-EDITS.false)))
