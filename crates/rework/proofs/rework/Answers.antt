use Rattle.book.specs.Contract.{this_layout}
use Rattle.book.proofs.Small.{Workable}
use Rattle.tables.proofs.Masked.{job}
use Rattle.rework.proofs.rework.Goals as goal

pub invariant_of-network : goal.invariant_of-network
invariant_of-network c = let a = c.args in
    let p = c.requires in
    let e = c.choose_links.ensures in
    let work : Workable a.link.n (this_layout a.cost.now a.passing.now) =
    record { most = a.link.inside.0; square = p.costs.0; long = p.passing.0; valid = p.costs.1; passable = p.passing.1 } in
    record { linked = job work _ _ e.long e.bit }
