-- `scores::sum_scores` sums source by source.
use Rattle.std.proofs.Common.{arith, refl, ◌∙◌}
use Rattle.cells.proofs.Sums.{summed-none, summed-more, summed-fits}
use Rattle.cells.proofs.scores.sum_scores.Goals as goal

pub loop-s-init : goal.loop-s-init
loop-s-init c = (omega arith, refl, summed-none _ _ _ c.requires.n_in_bounds (c.fill.ensures.after (λ y e. e)))

pub add-requires-clause-fits : goal.add-requires-clause-fits
add-requires-clause-fits c = summed-fits _ _ _ _ _ c.loop-s-test.true c.start-at.ensures c.requires.shares c.loop-s.invariant.2

pub loop-s-preserved : goal.loop-s-preserved
loop-s-preserved c = (omega arith, c.add.auto.sum ∙ c.loop-s.invariant.1, summed-more _ _ _ _ _ c.start-at.ensures c.requires.shares.square c.loop-s.invariant.2 c.add.ensures)
