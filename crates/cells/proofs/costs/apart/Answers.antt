-- `costs::apart` tests the diagonal, stop by stop.
use Rattle.std.proofs.Common.{ℕ, Bool, rules, arith, ◌≡◌, true, false, eqb, refl}
use borrow.Author.Tests.{tests}
use Rattle.std.proofs.lemmas.Iterator.{cases_from_all, YieldsList-from_range}
use Rattle.book.specs.Hall.{entry}
use Rattle.cells.proofs.Valid.{range-tested}
use Rattle.cells.proofs.costs.apart.Goals as goal

pub returns : goal.returns
returns c =
    let n = c.args.n in
    let own : ℕ → Bool = λ u. eqb (entry n c.args.cost.now u u) 0 in
    range-tested n own _ (cases_from_all _ _ _ (λ u. own u ≡ true) (λ u. own u ≡ false) c.all.ensures.ran (YieldsList-from_range 0 n n refl (omega arith)) (λ x q k. search (rules, tests)) (λ x q k. search (rules, tests)))
