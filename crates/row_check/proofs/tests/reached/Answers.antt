use Rattle.std.proofs.lemmas.Slice.Zip.{zip_turn}
use Rattle.row_check.proofs.Testing.{testing-starts, testing-turns}
use Rattle.row_check.proofs.tests.reached.Goals as goal

pub loop-t-init : goal.loop-t-init
loop-t-init c = testing-starts _ _

pub loop-t-preserved : goal.loop-t-preserved
loop-t-preserved c =
    let turn = zip_turn c.args.time.now c.args.ways.now c.loop-t.yielded c.into_iter-t-iterator.result c.loop-t.t-iterator c.next.new.self c.next.result (cc) (cc) c.loop-t.yielded_by _ c.in-Some.is c.next.ensures.steps in
    let t = turn.2 0 in
    let w = turn.3 0 in
    testing-turns _ _ c.loop-t.invariant turn.0 (cc)
