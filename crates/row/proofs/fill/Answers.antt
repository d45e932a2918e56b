use mathlib.Core.Path.{◌∙◌, refl}
use Rattle.row.proofs.Whole.{begun, waits, filled}
use Rattle.row.proofs.fill.Goals as goal

pub settle-requires-clause-begun : goal.settle-requires-clause-begun
settle-requires-clause-begun c = begun _ _ c.requires.source (rw c.requires.time_len at (c.fill.ensures.after (λ y e. e))) (rw c.requires.ways_len at (c.fill-2.ensures.after (λ y e. e)))

pub accumulate-requires : goal.accumulate-requires
accumulate-requires c =
    let b = begun _ _ c.requires.source (rw c.requires.time_len at (c.fill.ensures.after (λ y e. e))) (rw c.requires.ways_len at (c.fill-2.ensures.after (λ y e. e))) in
    rw c.deref.ensures.0
    (waits _ _ _ _ _ _ _ _ _ _ _ _ c.requires.source c.args.network.linked c.args.measure.measured c.settle.ensures
    (c.settle.auto.ways ∙ b.counted) (c.settle.auto.pred ∙ b.room) refl (rw c.requires.share_len at (c.fill-3.ensures.after (λ y e. e))))

pub returns : goal.returns
returns c =
    let b = begun _ _ c.requires.source (rw c.requires.time_len at (c.fill.ensures.after (λ y e. e))) (rw c.requires.ways_len at (c.fill-2.ensures.after (λ y e. e))) in
    filled _ _ _ _ _ _ _ _ _ _ _ _ c.requires.source c.args.network.linked c.args.measure.measured c.settle.ensures c.accumulate.new.share
    (c.settle.auto.time ∙ b.timed) (c.settle.auto.ways ∙ b.counted) (c.accumulate.auto.share ∙ c.fill-3.ensures.len ∙ c.requires.share_len)
    (c.settle.auto.pred ∙ b.room) refl (rw c.deref.ensures.0 at c.accumulate.ensures)
