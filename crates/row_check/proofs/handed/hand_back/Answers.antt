use mathlib.Core.Path.{sym, ◌∙◌, ap}
use lib.ListN.{length}
use Rattle.routes.specs.Route.{all_to}
use Rattle.row_check.specs.Tests.{single}
use Rattle.row_check.proofs.Handing.{single-handed, divided-ends}
use Rattle.row_check.proofs.handed.hand_back.Goals as goal
use Rattle.row_check.proofs.handed.hand_back.Goals.{then-all_single, else-all_single}

pub returns : goal.returns
returns c =
    let a = c.args in
    let p = c.requires in
    let n = length a.share.now in
    elim c.if-all_single.branch [
      | then-all_single w ↦
          let all = ap (λ k. all_to k (single a.ways.now)) (sym p.1.counted) ∙ sym c.all_single.ensures ∙ w.if-all_single.true in
          rw w.psi-is (divided-ends n a.s a.measure.limit a.measure.scale a.ways.now a.share.now p.0 p.1.undivided.room (single-handed n a.measure.limit a.measure.scale a.ways.now a.share.now a.measure.measured.some all w.undivided.ensures))
      | else-all_single w ↦ rw w.psi-is (divided-ends n a.s a.measure.limit a.measure.scale a.ways.now a.share.now p.0 p.1.undivided.room w.divided.ensures)
    ]
