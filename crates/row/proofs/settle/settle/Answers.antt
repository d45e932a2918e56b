use Rattle.std.proofs.Common.{refl, arith, lit<}
use Rattle.row.proofs.Turns.{turn-starts, turn-bounds, turn-room, turn-offers, turn-goes, turn-ends}
use Rattle.row.proofs.settle.settle.Goals as goal

pub loop-b-init : goal.loop-b-init
loop-b-init c = rw (c.requires.empty, c.only-frontier.ensures) (turn-starts _ _ _ _ _ _ c.requires.source c.args.network.linked c.args.measure.measured.few c.requires.begun)

pub push-requires : goal.push-requires
push-requires c = (lit< tt, (turn-bounds _ _ _ _ _ _ c.requires.source c.args.network.linked c.args.measure.measured.few _ _ _ _ _ _ _ _ c.loop-b.invariant c.in-Some.ensures).3)

pub relax-requires : goal.relax-requires
relax-requires c = turn-offers _ _ _ _ _ _ c.requires.source c.args.network.linked c.args.measure.measured.few _ _ _ _ _ _ _ _ c.loop-b.invariant c.in-Some.ensures _ _ _ c.only-bit.ensures refl refl

pub loop-b-smaller : goal.loop-b-smaller
loop-b-smaller c = omega (arith, turn-room _ _ _ _ _ _ c.requires.source c.args.network.linked c.args.measure.measured.few _ _ _ _ _ _ _ _ c.loop-b.invariant c.in-Some.ensures, c.push.ensures.len)

pub loop-b-preserved : goal.loop-b-preserved
loop-b-preserved c = rw (c.push.ensures.len, c.push.ensures.items)
    (turn-goes _ _ _ _ _ _ c.requires.source c.args.network.linked c.args.measure.measured.few _ _ _ _ _ _ _ _ c.loop-b.invariant c.in-Some.ensures
    _ _ _ c.only-bit.ensures refl refl _ _ _ _
    c.tally-count.ensures c.relax.ensures
    c.relax.auto.time c.relax.auto.pred
    refl)

pub returns : goal.returns
returns c = turn-ends _ _ _ _ _ _ c.requires.source c.args.network.linked c.args.measure.measured.few (rw c.in_default.ensures at c.loop-b.invariant)
