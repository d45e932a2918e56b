use Prim.Native.Nat.{◌+◌}
use mathlib.Core.Path.{◌≡◌, refl, ◌∙◌, ap}
use native.Mathlib.Numerals.{add-one}
use native.Mathlib.Omega.{arith}
use lib.ListN.{length, take, set, length-set}
use lib.Seq.{length-sets, take_all}
use Rattle.route_walk.proofs.Storing.{next-stored}
use Rattle.route_walk.proofs.put_route.Goals.{At-loop-i}
use Rattle.route_walk.proofs.put_route.Goals as goal

-- what is stored has the buffer's length
long : (c : At-loop-i) → length c.loop-i.buffer ≡ length c.before.args.buffer.now
long c =
    let a = c.before.args in
    let b = set a.buffer.now a.at (length a.route.now) in
    ap length c.loop-i.invariant.1 ∙ length-sets b (a.at + 1) (take c.loop-i.i a.route.now) ∙ length-set a.buffer.now a.at (length a.route.now)

pub loop-i-init : goal.loop-i-init
loop-i-init c = (omega arith, refl)

pub bounds-buffer-at-in-loop-i : goal.bounds-buffer-at-in-loop-i
bounds-buffer-at-in-loop-i c = omega (arith, long (goal.at.bounds-buffer-at-in-loop-i c).At-loop-i, c.requires, c.loop-i-test.true)

pub loop-i-preserved : goal.loop-i-preserved
loop-i-preserved c =
    let a = c.args in
    (omega (arith, c.loop-i-test.true), rw c.loop-i.invariant.1 (next-stored c.loop-i.i (a.at + 1) a.route.now (set a.buffer.now a.at (length a.route.now)) c.loop-i-test.true))

pub returns : goal.returns
returns c =
    let end : take c.loop-i.i c.args.route.now ≡ c.args.route.now = take_all c.loop-i.i c.args.route.now (omega (arith, c.loop-i-test.false)) in
    (refl, rw (end, add-one) at c.loop-i.invariant.1)
