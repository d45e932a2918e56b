use mathlib.Core.Path.{refl, ◌∙◌}
use native.Mathlib.Omega.{arith}
use Rattle.course.proofs.Undone.{put-last, none-left}
use Rattle.course.proofs.back.put_costs.Goals as goal

pub loop-change-init : goal.loop-change-init
loop-change-init c = rw (c.into_iter-change-iterator.ensures.into_iter_gives, c.rev-change-items.ensures.source, c.iter.ensures.rest) (refl, c.requires, refl)

pub loop-change-preserved : goal.loop-change-preserved
loop-change-preserved c =
    let v = c.loop-change.invariant in
    let next = put-last _ c.in-Some.change.now _ c.in-Some.ensures.steps v.0 v.1 in
    (next.0, next.1, next.2 ∙ v.2)

pub returns : goal.returns
returns c = none-left _ _ (λ l. absurd (omega (arith, c.in-None.ensures.steps.0))) ∙ c.loop-change.invariant.2
