-- `scores` prints a line for each stop, behind those of the stops passed.
use Rattle.std.proofs.Common.{ℕ, refl, get_or, length, ap, arith, add-one}
use lib.Seq.{length-sets}
use Rattle.routes.specs.Route.{join_to}
use Rattle.words.specs.Text.{stop_line}
use Rattle.print.proofs.Printing.{then-prints}
use Rattle.print.proofs.Lengths.{stop-short}
use Rattle.listing.proofs.run.scores.Goals as goal

pub loop-v-init : goal.loop-v-init
unfolding join_to
loop-v-init c = (omega arith, record { printed = record { behind = omega arith; written = refl; inside = omega (arith, c.requires.1) }; same = refl })

pub stop_line-requires : goal.stop_line-requires
stop_line-requires c =
    let v : ℕ = c.loop-v.v in
    let printed = c.loop-v.invariant.1.printed in
    omega (arith, c.requires, c.loop-v.invariant.0, ap length printed.written, length-sets c.args.out.now.out.now c.args.out.now.written (join_to v (λ w. stop_line w (get_or c.args.score.now w 0))), stop-short v (get_or c.args.score.now v 0) (omega (arith, c.requires.0)) (omega (arith, c.type_inv.score v)))

pub loop-v-preserved : goal.loop-v-preserved
unfolding join_to
loop-v-preserved c =
    let v : ℕ = c.loop-v.v in
    let long = stop-short v (get_or c.args.score.now v 0) (omega (arith, c.requires.0)) (omega (arith, c.type_inv.score v)) in
    (omega (arith, long, c.stop_line.ensures.printed.behind, c.loop-v.invariant.0), rw (add-one v) (then-prints c.loop-v.invariant.1 c.stop_line.ensures))
