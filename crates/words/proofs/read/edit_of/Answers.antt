-- `edit_of` takes what each word is apart: all four must be known.
use Rattle.words.specs.Text.{edit_of}
use Rattle.words.proofs.read.edit_of.Goals as goal

pub returns-in_err-kind : goal.returns-in_err-kind
unfolding edit_of
returns-in_err-kind c = rw c.in_err-kind.was c.from_residual.ensures

pub returns-in_err-u : goal.returns-in_err-u
unfolding edit_of
returns-in_err-u c = rw (c.in_ok-kind.was, c.in_err-u.was) c.from_residual-in_err-u.ensures

pub returns-in_err-v : goal.returns-in_err-v
unfolding edit_of
returns-in_err-v c = rw (c.in_ok-kind.was, c.in_ok-u.was, c.in_err-v.was) c.from_residual-in_err-v.ensures

pub returns-in_err-cost : goal.returns-in_err-cost
unfolding edit_of
returns-in_err-cost c = rw (c.in_ok-kind.was, c.in_ok-u.was, c.in_ok-v.was, c.in_err-cost.was) c.from_residual-in_err-cost.ensures

pub returns : goal.returns
unfolding edit_of
returns c = rw (c.in_ok-kind.was, c.in_ok-u.was, c.in_ok-v.was, c.in_ok-cost.was)
