use Rattle.std.proofs.Common.{rules, ◌≡◌, ◌∙◌, ap, leb, sum}
use Rattle.links.specs.Promise.{sum_bound}
use Rattle.row_check.proofs.Testing.{sum-listed}
use Rattle.row_check.proofs.tests.few_in_all.Goals as goal

pub returns : goal.returns
returns c =
    let e : c.sum.result ≡ sum c.args.ways.now = search rules in
    ap (λ k. leb k sum_bound) (e ∙ sum-listed c.args.ways.now)
