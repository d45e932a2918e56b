-- `hall_of` takes the words of a line one by one: it has two, the first of them `hall`.
use Rattle.std.proofs.Common.{rules, ◌≡◌, ◌∷◌, sym, ◌∙◌, true, false}
use borrow.Author.Tests.{tests}
use Rattle.routes.specs.Route.{same}
use Rattle.words.specs.Text.{bytes, words, hall_word}
use Rattle.words.proofs.Reading.{left, left-some, word_some, same-pointwise}
use Rattle.words.proofs.read.hall_of.Goals.{In_ok-name, In_ok-n}
use Rattle.words.proofs.read.hall_of.Goals as goal

-- each word that is there, and what is left behind it
name-left : (c : In_ok-name) → words c.args.line.now ≡ c.in_ok-name.name.now ∷ left c.next.new.self.done c.next.new.self.rest.now
name-left c = rw (c.split-words.ensures.done, c.split-words.ensures.rest) at (left-some _ _ _ _ _ c.in_ok-name.ensures.steps (λ x r q k. search (rules, tests)))

n-left : (c : In_ok-n) → left c.next.new.self.done c.next.new.self.rest.now ≡ c.in_ok-n.n.now ∷ left c.next-2.new.self.done c.next-2.new.self.rest.now
n-left c = left-some _ _ _ _ _ c.in_ok-n.ensures.steps (λ x r q k. search (rules, tests))

pub returns-in_err-n : goal.returns-in_err-n
unfolding hall_word
returns-in_err-n c =
    let at = goal.at.returns-in_err-n c in
    rw (name-left at.In_ok-name, c.in_err-n.ensures.steps.0) c.from_residual-in_err-n.ensures

pub returns-in-Some : goal.returns-in-Some
unfolding hall_word
returns-in-Some c =
    let at = goal.at.returns-in-Some c in
    let (w, ws, more) = word_some c.next-2.new.self.rest.now in
    rw (name-left at.In_ok-name, n-left at.In_ok-n, c.in-Some.ensures.steps.0, more)

pub returns-in-None : goal.returns-in-None
unfolding hall_word bytes
returns-in-None c =
    let at = goal.at.returns-in-None c in
    let is : same c.in_ok-name.name.now (bytes "hall") ≡ true = same-pointwise _ _ ∙ sym (rw c.as_slice.ensures at c.eq.ensures) ∙ c.if-eq.true in
    rw (name-left at.In_ok-name, n-left at.In_ok-n, c.in-None.ensures.steps.0, is) c.number.ensures

pub returns-in-None-2 : goal.returns-in-None-2
unfolding hall_word bytes
returns-in-None-2 c =
    let at = goal.at.returns-in-None-2 c in
    let is : same c.in_ok-name.name.now (bytes "hall") ≡ false = same-pointwise _ _ ∙ sym (rw c.as_slice.ensures at c.eq.ensures) ∙ c.if-eq.false in
    rw (name-left at.In_ok-name, n-left at.In_ok-n, c.in-None.ensures.steps.0, is)
