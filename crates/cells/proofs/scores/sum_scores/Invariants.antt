-- What the loop of `scores::sum_scores` keeps: the sums over the sources so far.
use Rattle.std.proofs.Common.{◌≡◌, ◌≤◌, length}
use Rattle.cells.specs.Promise.{summed}
use Rattle.cells.proofs.scores.sum_scores.Given as goal

abbrev pub invariant-loop-s : goal.invariant-loop-s
invariant-loop-s l = (l.s ≤ l.n) × (length l.sum ≡ length l.initial.sum) × (l.sum ≡ summed l.n l.s l.share l.initial.sum)
