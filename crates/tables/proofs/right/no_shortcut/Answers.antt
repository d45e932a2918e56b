use Rattle.std.proofs.Common.{refl, arith}
use Rattle.std.proofs.lemmas.List.{length_push}
use Rattle.std.proofs.lemmas.Slice.Zip.{zip_turn}
use Rattle.routes.specs.Route.{all_to}
use Rattle.routes.proofs.Tests.{all-next}
use Rattle.tables.proofs.right.no_shortcut.Goals as goal

pub loop-c-init : goal.loop-c-init
unfolding all_to
loop-c-init c = (omega arith, refl)

pub loop-c-preserved : goal.loop-c-preserved
loop-c-preserved c =
    let turn = zip_turn c.args.cost.now c.args.time.now c.loop-c.yielded c.into_iter-c-iterator.result c.loop-c.c-iterator c.next.new.self c.next.result (cc) (cc) c.loop-c.yielded_by _ c.in-Some.is c.next.ensures.steps in
    let x = turn.2 0 in
    let y = turn.3 0 in
    rw length_push (omega (arith, turn.0), all-next _ _ c.loop-c.invariant.1 (cc))
