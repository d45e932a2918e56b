use native.Mathlib.Omega.{arith}
use lib.ListN.{length-drop}
use lib.Seq.{length-take-le}
use Rattle.row_check.proofs.Balancing.{balancing-starts, balancing-asks, balancing-goes, balancing-ends}
use Rattle.row_check.proofs.flows.flows.Goals as goal

pub loop-u-init : goal.loop-u-init
loop-u-init c = balancing-starts _ _ _ _ _ _ _ _ c.requires.asked _ _ (omega arith) c.requires.empty

pub scan-requires : goal.scan-requires
scan-requires c =
    let w = length-take-le c.args.network.n c.args.back.now (omega (arith, c.args.network.linked.most)) in
    balancing-asks _ _ _ _ _ _ _ _ c.requires.asked (omega (arith, c.loop-u-test.true, c.loop-u.auto.flow-items)) c.loop-u.invariant

pub loop-u-preserved : goal.loop-u-preserved
loop-u-preserved c =
    let w = length-take-le c.args.network.n c.args.back.now (omega (arith, c.args.network.linked.most)) in
    balancing-goes _ _ _ _ _ _ _ _ c.requires.asked (omega (arith, c.loop-u-test.true, c.loop-u.auto.flow-items)) (omega (arith, c.loop-u-test.true, c.loop-u.auto.flow-items)) c.loop-u.invariant c.in_ok-flow.ensures

pub returns : goal.returns
returns c =
    let w = length-take-le c.args.network.n c.args.back.now (omega (arith, c.args.network.linked.most)) in
    balancing-ends _ _ _ _ _ _ _ _ c.requires.asked _ (omega (arith, c.loop-u.auto.u-end, c.loop-u.auto.flow-items)) (omega (arith, c.loop-u-test.false, c.loop-u.auto.flow-items)) w (omega (arith, length-drop c.args.network.n c.args.back.now, c.args.network.linked.most)) c.loop-u.invariant
