-- `line_of` takes the words of a line one by one: it has three or four.
use Rattle.std.proofs.Common.{rules, ◌≡◌, ◌∷◌}
use borrow.Author.Tests.{tests}
use Rattle.words.specs.Text.{words, line_of}
use Rattle.words.proofs.Reading.{left, left-some, word_some}
use Rattle.words.proofs.read.line_of.Goals.{In_ok-kind, In_ok-u, In_ok-v, In-Some}
use Rattle.words.proofs.read.line_of.Goals as goal

-- each word that is there, and what is left behind it
kind-left : (c : In_ok-kind) → words c.args.line.now ≡ c.in_ok-kind.kind.now ∷ left c.next.new.self.done c.next.new.self.rest.now
kind-left c = rw (c.split-words.ensures.done, c.split-words.ensures.rest) at (left-some _ _ _ _ _ c.in_ok-kind.ensures.steps (λ x r q k. search (rules, tests)))

u-left : (c : In_ok-u) → left c.next.new.self.done c.next.new.self.rest.now ≡ c.in_ok-u.u.now ∷ left c.next-2.new.self.done c.next-2.new.self.rest.now
u-left c = left-some _ _ _ _ _ c.in_ok-u.ensures.steps (λ x r q k. search (rules, tests))

v-left : (c : In_ok-v) → left c.next-2.new.self.done c.next-2.new.self.rest.now ≡ c.in_ok-v.v.now ∷ left c.next-3.new.self.done c.next-3.new.self.rest.now
v-left c = left-some _ _ _ _ _ c.in_ok-v.ensures.steps (λ x r q k. search (rules, tests))

cost-left : (c : In-Some) → left c.next-3.new.self.done c.next-3.new.self.rest.now ≡ c.in-Some.cost.now ∷ left c.next-4.new.self.done c.next-4.new.self.rest.now
cost-left c = left-some _ _ _ _ _ c.in-Some.ensures.steps (λ x r q k. search (rules, tests))

pub returns-in_err-u : goal.returns-in_err-u
unfolding line_of
returns-in_err-u c =
    let at = goal.at.returns-in_err-u c in
    rw (kind-left at.In_ok-kind, c.in_err-u.ensures.steps.0) c.from_residual-in_err-u.ensures

pub returns-in_err-v : goal.returns-in_err-v
unfolding line_of
returns-in_err-v c =
    let at = goal.at.returns-in_err-v c in
    rw (kind-left at.In_ok-kind, u-left at.In_ok-u, c.in_err-v.ensures.steps.0) c.from_residual-in_err-v.ensures

pub returns-in_default : goal.returns-in_default
returns-in_default c =
    let at = goal.at.returns-in_default c in
    rw (kind-left at.In_ok-kind, u-left at.In_ok-u, v-left at.In_ok-v, c.in_default.ensures.steps.0) c.line_of_three.ensures

pub returns-in-Some-next : goal.returns-in-Some-next
unfolding line_of
returns-in-Some-next c =
    let at = goal.at.returns-in-Some-next c in
    let (w, ws, more) = word_some c.next-4.new.self.rest.now in
    rw (kind-left at.In_ok-kind, u-left at.In_ok-u, v-left at.In_ok-v, cost-left at.In-Some, c.in-Some-next.ensures.steps.0, more)

pub returns-in-None : goal.returns-in-None
returns-in-None c =
    let at = goal.at.returns-in-None c in
    rw (kind-left at.In_ok-kind, u-left at.In_ok-u, v-left at.In_ok-v, cost-left at.In-Some, c.in-None.ensures.steps.0) c.line_of_four.ensures
