use Rattle.std.proofs.Common.{ℕ, Bool, rules, arith, ◌≡◌, true, false, refl}
use borrow.Author.Tests.{tests}
use Rattle.std.proofs.lemmas.Iterator.{cases_from_all, YieldsList-from_range}
use Rattle.links.specs.Costs.{linked_from}
use Rattle.row_check.specs.Promise.{is_row}
use Rattle.cells.proofs.Valid.{range-tested}
use Rattle.tables.specs.Promise.{part}
use Rattle.tables.proofs.right.rows_pass.Goals as goal

pub returns : goal.returns
returns c =
    let a = c.args in
    let n = a.network.n in
    let good : ℕ → Bool = λ s. is_row (linked_from a.network s) n s a.measure.limit a.measure.scale (part n a.t.now.time.now s) (part n a.t.now.ways.now s) (part n a.t.now.share.now s) in
    range-tested n good _ (cases_from_all _ _ _ (λ s. good s ≡ true) (λ s. good s ≡ false) c.all.ensures.ran (YieldsList-from_range 0 n n refl (omega arith)) (λ x q k. search (rules, tests)) (λ x q k. search (rules, tests)))
