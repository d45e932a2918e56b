-- `costs::valid`: no cost above the largest, none on the diagonal.
use Rattle.std.proofs.Common.{◌≡◌, ◌∙◌, true, false, sym}
use Rattle.book.specs.Hall.{largest_cost}
use Rattle.cells.specs.Promise.{none_above}
use Rattle.cells.proofs.Valid.{valid-tests}
use Rattle.cells.proofs.costs.valid.Goals as goal

pub returns-then-within : goal.returns-then-within
returns-then-within c =
    let low : none_above largest_cost c.args.cost.now ≡ true = sym c.within.ensures ∙ c.if-within.true in
    rw (valid-tests _ _ c.requires.1, low) c.apart.ensures

pub returns-else-within : goal.returns-else-within
returns-else-within c =
    let high : none_above largest_cost c.args.cost.now ≡ false = sym c.within.ensures ∙ c.if-within.false in
    c.if-within.false ∙ rw (valid-tests _ _ c.requires.1, high)
