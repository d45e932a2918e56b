-- `next_stop` finds the first stop that a link leads on to.
use Rattle.std.proofs.Common.{rules, ◌≡◌, true, false}
use Rattle.std.proofs.lemmas.Iterator.{first_from_Range}
use Rattle.route_walk.specs.Walked.{leading}
use Rattle.route_walk.proofs.Leading.{found}
use Rattle.route_walk.proofs.trip.Trip.next_stop.Goals as goal

pub returns : goal.returns
returns c =
    let a = c.args in
    let h = a.self.now in
    found h a.u a.from c.requires.1 c.find.result
    (first_from_Range _ _ _ _ (λ y. leading h a.u y ≡ true) (λ y. leading h a.u y ≡ false) c.find.ensures.ran (λ x q k. search rules) (λ x q k. search rules))
