use Rattle.std.proofs.Common.{◌<◌, arith}
use Rattle.std.proofs.lemmas.Nat.{or_lt}
use Rattle.std.proofs.Math.Pow.{pow-lt}
use Rattle.lister.proofs.touched.Goals as goal
use Rattle.lister.proofs.touched.Goals.{then-touches, else-touches+else-touches-2}

pub loop-number-preserved : goal.loop-number-preserved
loop-number-preserved c =
    let below : c.loop-number.number < c.new-before.result.n = omega arith in
    elim c.if-touches.branch [
      | then-touches w ↦ rw (w.set-is, w.with-set.ensures) (or_lt _ _ _ c.loop-number.invariant (pow-lt below))
      | else-touches+else-touches-2 w ↦ rw w.set-is c.loop-number.invariant
    ]
