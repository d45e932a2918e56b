use Rattle.std.proofs.Common.{◌≡◌, ◌≤◌, ◌+◌, count_ones}
use Rattle.lister.proofs.number.Given as goal

-- what is counted and the ones of what is left are together the ones of the set
abbrev pub invariant-loop-rest : goal.invariant-loop-rest
invariant-loop-rest l = (l.number + count_ones l.rest ≡ count_ones l.set) × (l.number + l.rest ≤ l.set)

abbrev pub decreases-loop-rest : goal.decreases-loop-rest
decreases-loop-rest l = l.rest
