use borrow.Author.Rules.{rules}
use mathlib.Core.Path.{sym, ◌∙◌}
use Rattle.routes.proofs.Booleans.{failed, held}
use Rattle.book.proofs.Sizes.{stops, lengths}
use Rattle.cells.proofs.Valid.{passing-within}
use Rattle.hall.proofs.Tests.{door-size, door-length, door-passing, door-open}
use mathlib.Core.Path.{ap}
use mathlib.Core.Bool.{not}
use Rattle.hall.proofs.door.door.Goals as goal

pub returns-then-not-takes : goal.returns-then-not-takes
returns-then-not-takes c = search (rules, failed, door-size)

pub sized-requires : goal.sized-requires
sized-requires c = (stops _ (held c.takes.ensures (ap not c.if-not-takes.false))).1

pub returns-then-not-sized : goal.returns-then-not-sized
returns-then-not-sized c = search (rules, failed, held, door-length)

pub returns-then-not-within : goal.returns-then-not-within
returns-then-not-within c = let long = held c.sized.ensures (ap not c.if-not-sized.false) in
    door-passing _ _ (held c.takes.ensures (ap not c.if-not-takes.false)) long
    (sym (passing-within _ _ (lengths _ _ long).passings) ∙ failed c.within.ensures (ap not c.if-not-within.true))

pub returns : goal.returns
returns c = let long = held c.sized.ensures (ap not c.if-not-sized.false) in
    door-open _ _ (held c.takes.ensures (ap not c.if-not-takes.false)) long
    (sym (passing-within _ _ (lengths _ _ long).passings) ∙ held c.within.ensures (ap not c.if-not-within.false))
