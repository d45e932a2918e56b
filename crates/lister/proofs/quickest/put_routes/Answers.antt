use Rattle.std.proofs.Common.{rules}
use Rattle.lister.proofs.quickest.put_routes.Goals as goal

pub returns : goal.returns
returns c =
    let wrote = c.walk.ensures.visits.wrote in
    record { rises = wrote.rises; within = wrote.within; behind = search rules }
