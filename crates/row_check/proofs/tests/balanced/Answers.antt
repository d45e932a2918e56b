use Rattle.std.proofs.Common.{◌≡◌, ◌<◌, length}
use Rattle.std.proofs.lemmas.Iterator.{YieldsList-from_slice, YieldsList-from_zip}
use Rattle.std.proofs.lemmas.Iterator.Consumers.{YieldsList-turn}
use Rattle.row_check.specs.Tests.{at}
use Rattle.row_check.proofs.Testing.{testing-starts, testing-turns, three-at, paid-fits}
use Rattle.row_check.proofs.tests.balanced.Goals.{After-from}
use Rattle.row_check.proofs.tests.balanced.Goals as goal

here : (c : After-from) → let i = length c.loop-w.yielded in
    (i < length c.args.share.now) × (c.in-Some.w.now ≡ at c.args.ways.now i) × (c.in-Some.x.now ≡ at c.args.share.now i) × (c.in-Some.back.now ≡ at c.args.flow.now i)
here c =
    let a = c.args in
    let e = YieldsList-from_zip {s = c.into_iter-w-iterator.result} (YieldsList-from_zip (YieldsList-from_slice a.ways.now (cc)) (YieldsList-from_slice a.share.now (cc))) (YieldsList-from_slice a.flow.now (cc)) in
    three-at a.ways.now a.share.now a.flow.now (length c.loop-w.yielded) c.requires.counted c.requires.flows
    (YieldsList-turn e c.loop-w.yielded c.loop-w.w-iterator c.loop-w.yielded_by c.next.result c.next.new.self _ c.in-Some.is c.next.ensures.steps)

pub loop-w-init : goal.loop-w-init
loop-w-init c = testing-starts _ _

pub overflow_mul-ok : goal.overflow_mul-ok
overflow_mul-ok c =
    let h = here (goal.at.overflow_mul-ok c).After-from in
    record { fits = rw (c.from.ensures, h.1, h.3) (paid-fits c.requires h.0) }

pub loop-w-preserved : goal.loop-w-preserved
loop-w-preserved c =
    let h = here (goal.at.loop-w-preserved c).After-from in
    testing-turns _ _ c.loop-w.invariant h.0 (cc)
