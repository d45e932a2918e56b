use Rattle.std.proofs.Common.{arith}
use lib.ListN.{length-set}
use mathlib.Core.Path.{◌∙◌}
use Rattle.calls.specs.Lists.{number_in}
use Rattle.calls.proofs.Pointwise.{one-more}
use Rattle.calls.proofs.list.List.numbers.Goals as goal

pub loop-i-preserved : goal.loop-i-preserved
loop-i-preserved c =
    let long = c.loop-i.invariant.0 in (
      length-set c.loop-i.number-items c.loop-i.i _ ∙ long,
      λ k other h. one-more (number_in c.args.self.now.length c.args.self.now.edits other) _ _ _ (omega (arith, long, c.loop-i-test.true)) (c.number.ensures other) (λ k. c.loop-i.invariant.1 k other) k h,
    )
