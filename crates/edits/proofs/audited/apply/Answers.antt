use mathlib.Core.Path.{refl, ◌∙◌, ap, subst}
use lib.ListN.{length}
use Rattle.book.specs.Hall.{most_ways, scale, entry}
use Rattle.book.specs.Contract.{held}
use Rattle.touch.specs.Promise.{Found}
use Rattle.tables.proofs.Measured.{hall-measure}
use Rattle.changes.proofs.Changes.{lengths}
use Rattle.changes.proofs.Laws.{changes, touched-set}
use Rattle.changes.proofs.Applying.{shares-applied, applied}
use Rattle.edits.proofs.audited.apply.Goals as goal

pub touched_set-touched-requires : goal.touched_set-touched-requires
touched_set-touched-requires c = let h = c.requires.change in
    let e = c.view-found.ensures in
    (ap (λ x. length x.layout.cost) e ∙ h.square, ap (λ x. length x.layout.passing) e ∙ h.long, ap (λ x. length x.time) e ∙ (lengths (changes h)).times)

pub sum_scores-requires-clause-shares : goal.sum_scores-requires-clause-shares
sum_scores-requires-clause-shares c = let a = c.args in
    let l = a.link in
    let e = c.set_cost.ensures in
    shares-applied most_ways scale l.n l.u l.v a.new (held a.t.now) c.requires.change _ _ _ _ (rw (c.present.ensures.0, c.present.ensures.1) at e.worked) e.cost hall-measure.fine

pub returns-clause-applied : goal.returns-clause-applied
returns-clause-applied c = let a = c.args in
    let l = a.link in
    let h = c.requires.change in
    let e = c.set_cost.ensures in
    let v = c.view-found.ensures in
    let f = subst (λ x. Found l.n l.u l.v a.new x.layout.cost x.layout.passing x.time c.touched_set-touched.result) v c.touched_set-touched.ensures in
    rw e.rest.0 (applied most_ways scale l.n l.u l.v a.new (held a.t.now) h _ _ _ _ (rw (c.present.ensures.0, c.present.ensures.1) at e.worked) e.cost
    _ (touched-set h _ f) _ refl _ (c.read_entry-before.ensures ∙ ap (λ x. entry l.n x.layout.cost l.u l.v) v) c.requires.score_len _ (rw e.rest.1 at c.sum_scores.ensures))
