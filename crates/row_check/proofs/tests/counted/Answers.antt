use Rattle.std.proofs.lemmas.Slice.Zip.{zip_turn}
use Rattle.row_check.proofs.Testing.{testing-starts, testing-turns}
use Rattle.row_check.proofs.tests.counted.Goals as goal

pub loop-w-init : goal.loop-w-init
loop-w-init c = testing-starts _ _

pub loop-w-preserved : goal.loop-w-preserved
loop-w-preserved c =
    let turn = zip_turn c.args.ways.now c.args.sum.now c.loop-w.yielded c.into_iter-w-iterator.result c.loop-w.w-iterator c.next.new.self c.next.result (cc) (cc) c.loop-w.yielded_by _ c.in-Some.is c.next.ensures.steps in
    let w = turn.2 0 in
    let s = turn.3 0 in
    testing-turns _ _ c.loop-w.invariant turn.0 (cc)
