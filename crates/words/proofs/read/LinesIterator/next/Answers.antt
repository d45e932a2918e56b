-- `next` takes the first line off: the text up to its first line feed, and goes on behind that.
use Rattle.std.proofs.Common.{sym, ◌∙◌, ap, length, arith}
use borrow.Author.Tests.{eqb-true, eqb-false}
use Rattle.std.proofs.lemmas.List.{nil_from_length}
use Rattle.words.specs.Text.{lines, parts}
use Rattle.words.proofs.Reading.{index-within, line-cut}
use Rattle.words.proofs.read.LinesIterator.next.Goals as goal

pub returns-then-is_empty-clause-steps : goal.returns-then-is_empty-clause-steps
unfolding parts
returns-then-is_empty-clause-steps c =
    let none = nil_from_length c.args.self.now.text.now (eqb-true _ 0 (sym c.is_empty.ensures ∙ c.if-is_empty.true)) in
    (ap lines none, ap lines none)

pub split_at-requires : goal.split_at-requires
split_at-requires c = rw c.index_of.ensures (index-within 10 c.args.self.now.text.now)

pub returns-clause-steps : goal.returns-clause-steps
returns-clause-steps c =
    let text = c.args.self.now.text.now in
    line-cut text _ _ c.min.result (omega (arith, eqb-false (length text) 0 (sym c.if-is_empty.ensures)))
    (c.split_at.ensures.front ∙ rw c.index_of.ensures) (c.split_at.ensures.back ∙ rw c.index_of.ensures) c.min.ensures

pub returns-clause-goes : goal.returns-clause-goes
returns-clause-goes c =
    let text = c.args.self.now.text.now in
    let steps =
    line-cut text _ _ c.min.result (omega (arith, eqb-false (length text) 0 (sym c.if-is_empty.ensures)))
    (c.split_at.ensures.front ∙ rw c.index_of.ensures) (c.split_at.ensures.back ∙ rw c.index_of.ensures) c.min.ensures
    in
    record { on = λ f. (tt, tt, omega (arith, ap length steps)); keeps = tt; rests = λ f. tt }
