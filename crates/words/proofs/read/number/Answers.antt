-- `number` reads a word of 1 to 10 digits, one by one.
use Rattle.std.proofs.Common.{ℕ, suc, ◌+◌, ◌*◌, ◌-◌, ◌≡◌, ◌∙◌, sym, ap, true, false, length, get_or, drop, arith, add-one}
use mathlib.Core.Bool.{and-false}
use mathlib.Core.Logic.{⊎_elim}
use native.Mathlib.Nat.{pow-suc}
use lib.ListN.{drop_of_length-le}
use borrow.Author.Tests.{le-leb, lt-leb, eqb-true, eqb-false}
use Rattle.words.specs.Text.{digits, value_from, number_of}
use Rattle.words.proofs.Reading.{some-then, digits-here, value-here}
use Rattle.words.proofs.read.number.Goals as goal

pub returns-then-is_empty : goal.returns-then-is_empty
unfolding number_of
returns-then-is_empty c =
    let word = c.args.word.now in
    ⊎_elim
    (λ e. rw (lt-leb 1 (length word) (omega (arith, eqb-true (length word) 0 (sym c.is_empty.ensures ∙ e)))))
    (λ p. simp (lt-leb (length word) 10 p.1, and-false))
    c.then-is_empty.either

pub returns-then-not-is_ascii_digit : goal.returns-then-not-is_ascii_digit
unfolding number_of
returns-then-not-is_ascii_digit c =
    let word = c.args.word.now in
    let i = c.loop-d.d-index in
    let none : digits word ≡ false = c.loop-d.invariant.1 ∙ digits-here word i c.loop-d-test.true ∙ rw (sym c.if-not-is_ascii_digit.ensures.value) in
    simp (none, and-false)

pub loop-d-preserved : goal.loop-d-preserved
loop-d-preserved c =
    let word = c.args.word.now in
    let i = c.loop-d.d-index in
    let x = c.loop-d.x in
    let d : ℕ = get_or word i 0 in
    let inside = c.loop-d-test.true in
    let digit : digits word ≡ digits (drop (suc i) word) = c.loop-d.invariant.1 ∙ digits-here word i inside ∙ rw (sym c.if-not-is_ascii_digit.ensures.value) in
    let value : value_from 0 word ≡ value_from (10 * x + (d - 48)) (drop (suc i) word) = c.loop-d.invariant.2 ∙ value-here word i inside x in
    rw (add-one i) (omega (arith, pow-suc 10 i, c.if-not-is_ascii_digit.ensures.cases), digit, value ∙ rw c.from.ensures)

pub returns : goal.returns
unfolding number_of digits value_from
returns c =
    let word = c.args.word.now in
    let none = drop_of_length-le word {i = c.loop-d.d-index} c.loop-d-test.false in
    let value : value_from 0 word ≡ c.loop-d.x = c.loop-d.invariant.2 ∙ ap (value_from _) none in
    let digit : digits word ≡ true = c.loop-d.invariant.1 ∙ ap digits none in
    let size = le-leb 1 (length word) (omega (arith, eqb-false (length word) 0 (sym c.if-is_empty.ensures))) in
    let short = le-leb (length word) 10 (omega arith) in
    rw (size, short, digit, value) (c.then_some.ensures ∙ some-then _ _)
