use Rattle.std.proofs.lemmas.Result.{err_from_is_err_and}
use mathlib.Core.Path.{refl, sym, ◌∙◌, ap}
use native.Mathlib.Omega.{arith}
use Rattle.book.specs.Call.{accepted}
use Rattle.book.specs.Contract.{held as holds}
use Rattle.course.specs.Promise.{admits}
use Rattle.course.proofs.Standing.{admitted}
use Rattle.course.proofs.Ends.{list_done}
use Rattle.course.proofs.Going.{loans_on, going-begins, going-open, going_on, going-undoes, going-stops, going-ends}
use Rattle.course.proofs.in_turn.edit_each.Goals as goal

pub returns-in_err-admit-clause-done : goal.returns-in_err-admit-clause-done
returns-in_err-admit-clause-done g c = λ edits l.
    let p = err_from_is_err_and c.from_residual.result c.from_residual.ensures.1 in
    rw (p.1, p.2) ((list_done _ edits _).0 _ (c.in_err-admit.ensures ∙ ap (admits c.args.n c.args.length) c.view.ensures ∙ ap (λ k. admits c.args.n k (holds c.args.t.now)) (sym l.long)))

pub loop-i-init : goal.loop-i-init
loop-i-init g c = (
  record { cost = refl; passing = refl; time = refl; ways = refl; share = refl; score = refl },
  going-begins _ _ _ c.args.length _ (c.in_ok-admit.ensures ∙ ap (admits c.args.n c.args.length) c.view.ensures) refl refl,
)

pub turn-requires-clause-audited : goal.turn-requires-clause-audited
turn-requires-clause-audited g c = (going-open _ _ _ _ _ _ c.loop-i.invariant.1).0

pub restore-requires-clause-room : goal.restore-requires-clause-room
restore-requires-clause-room g c =
    let few = (admitted c.args.n c.args.length _ (ap accepted (sym (c.in_ok-admit.ensures ∙ ap (admits c.args.n c.args.length) c.view.ensures)))).1 in
    omega (arith, few, c.loop-i-test.true, (going-undoes _ _ _ _ _ _ c.loop-i.invariant.1 _ c.edit_at-e.ensures _ _ _ c.in-Err.ensures.turned).0)

pub restore-requires-clause-undoes : goal.restore-requires-clause-undoes
restore-requires-clause-undoes g c = (going-undoes _ _ _ _ _ _ c.loop-i.invariant.1 _ c.edit_at-e.ensures _ _ _ c.in-Err.ensures.turned).1

pub returns-in-Err-clause-done : goal.returns-in-Err-clause-done
returns-in-Err-clause-done g c = λ edits l.
    rw c.restore.ensures.tables (going-stops _ _ _ _ _ _ c.loop-i.invariant.1 _ edits l (omega (arith, c.loop-i-test.true)) _ c.loop-i-test.true c.edit_at-e.ensures _ _ _ c.in-Err.ensures.turned
    (c.in_ok-admit.ensures ∙ ap (admits c.args.n c.args.length) c.view.ensures))

pub loop-i-preserved : goal.loop-i-preserved
loop-i-preserved g c = (loans_on c.loop-i.invariant.0 c.turn.ensures.loans, going_on _ _ _ _ _ _ c.loop-i.invariant.1 _ c.edit_at-e.ensures _ _ c.in_default.ensures.turned)

pub returns-clause-done : goal.returns-clause-done
returns-clause-done g c = λ edits l.
    going-ends _ _ _ _ _ _ c.loop-i.invariant.1 _ edits l (omega (arith, c.loop-i.auto.i-end)) (omega (arith, c.loop-i-test.false, c.loop-i.auto.i-end))
    (c.in_ok-admit.ensures ∙ ap (admits c.args.n c.args.length) c.view.ensures)
