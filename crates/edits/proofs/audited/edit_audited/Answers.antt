use mathlib.Core.Path.{refl, sym, ◌∙◌, ap}
use lib.ListN.{length}
use Rattle.std.proofs.lemmas.Result.{err_from_is_err_and}
use Rattle.book.specs.Call.{accepted}
use Rattle.book.proofs.Sizes.{stops, lengths}
use Rattle.edits.proofs.Calls.{tests-seen, change-of, edit-refused, edit-done}
use Rattle.edits.proofs.audited.edit_audited.Goals as goal

pub permit-requires : goal.permit-requires
permit-requires c = ((stops _ c.requires.inside.size).1, ap (λ x. length x.layout.cost) c.view.ensures ∙ (lengths _ _ c.requires.inside.lengths).costs)

pub returns-in_err-permit-clause-done : goal.returns-in_err-permit-clause-done
returns-in_err-permit-clause-done c =
    let p = err_from_is_err_and c.from_residual.result c.from_residual.ensures.1 in
    rw (p.1, p.2) (edit-refused _ _ _ c.requires _ (tests-seen _ c.args.e c.view.ensures c.in_err-permit.ensures) refl)

pub invariant_of-link : goal.invariant_of-link
invariant_of-link c =
    let ok = ap accepted (sym (tests-seen _ c.args.e c.view.ensures c.in_ok-permit.ensures)) in
    let h = change-of _ c.args.e _ c.requires ok in
    record { inside = (h.most, h.from, h.to) }

pub apply-requires-clause-change : goal.apply-requires-clause-change
apply-requires-clause-change c =
    let ok = ap accepted (sym (tests-seen _ c.args.e c.view.ensures c.in_ok-permit.ensures)) in
    rw c.cost_set.ensures (change-of _ c.args.e _ c.requires ok)

pub apply-requires-clause-score_len : goal.apply-requires-clause-score_len
apply-requires-clause-score_len c = (lengths _ _ c.requires.inside.lengths).scores

pub returns-clause-done : goal.returns-clause-done
returns-clause-done c =
    let ok = ap accepted (sym (tests-seen _ c.args.e c.view.ensures c.in_ok-permit.ensures)) in
    edit-done _ c.args.e _ c.requires ok (rw c.cost_set.ensures at c.apply.ensures.applied)
