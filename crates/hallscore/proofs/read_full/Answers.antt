-- What a read gives stands behind what was read before.
use Rattle.std.proofs.Common.{◌-◌, length, rules}
use Rattle.hallscore.proofs.Filling.{more, both}
use Rattle.hallscore.proofs.read_full.Goals as goal

pub loop-done-preserved : goal.loop-done-preserved
loop-done-preserved g c =
    let part = c.read.new.buf in
    let next = more c.loop-done.done (length c.loop-done.text - c.loop-done.done) c.in_ok-n.n c.loop-done.text part c.loop-done.invariant.0 c.in_ok-n.ensures.bound.0 in
    (search rules, rw next (both _ _ _ _ _ c.loop-done.invariant.1 c.in_ok-n.ensures.bytes.0))
