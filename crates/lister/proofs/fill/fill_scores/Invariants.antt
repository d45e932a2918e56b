use Rattle.std.proofs.Common.{◌≡◌, drop}
use Rattle.lister.proofs.fill.fill_scores.Given as goal

abbrev pub invariant-loop-v : goal.invariant-loop-v
invariant-loop-v l = drop l.hall.n l.score ≡ drop l.hall.n l.initial.score
