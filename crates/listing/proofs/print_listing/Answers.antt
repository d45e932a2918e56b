-- `print_listing` by cases: too long a text, no hall, and a hall, whose listing stands behind the first line.
use Rattle.std.proofs.Common.{ℕ, List, ◌≡◌, sym, ◌∙◌, false, arith}
use Rattle.book.specs.Hall.{most_stops, up_to}
use Rattle.words.specs.Text.{bytes, lines, stops_of}
use Rattle.listing.proofs.Running.{lines-size}
use Rattle.listing.proofs.Whole.{too_long, by-lines, no-hall, some-hall}
use Rattle.listing.proofs.print_listing.Goals.{in_default-via-in-Some+else-takes, in_default-via-in_default}
use Rattle.listing.proofs.print_listing.Goals as goal

pub returns-then-input-gt-LONGEST : goal.returns-then-input-gt-LONGEST
unfolding bytes
returns-then-input-gt-LONGEST c = rw (too_long c.args.input.now c.if-input-gt-LONGEST.true) c.put.ensures

pub hall-requires-clause-ready : goal.hall-requires-clause-ready
hall-requires-clause-ready c =
    let input : List ℕ = c.args.input.now in
    let (fewer, text) = some-hall c.next.result c.and_then.result (lines input) _ c.in-Some.n c.next.ensures.steps c.and_then.ensures c.in-Some.is (sym c.takes.ensures ∙ c.if-takes.true) in
    record { short = omega (arith, fewer, lines-size input, c.if-input-gt-LONGEST.false); early = omega (arith, c.requires.front); space = c.requires.room }

pub returns-in-Some : goal.returns-in-Some
returns-in-Some c =
    let input : List ℕ = c.args.input.now in
    let (fewer, text) = some-hall c.next.result c.and_then.result (lines input) _ c.in-Some.n c.next.ensures.steps c.and_then.ensures c.in-Some.is (sym c.takes.ensures ∙ c.if-takes.true) in
    rw (by-lines input c.if-input-gt-LONGEST.false, text) c.hall.ensures

pub returns-in_default : goal.returns-in_default
unfolding bytes
returns-in_default c =
    let input : List ℕ = c.args.input.now in
    let none : up_to most_stops (stops_of c.and_then.result) ≡ false =
    elim c.in_default.branch [
      | in_default-via-in-Some+else-takes w ↦ rw w.in-Some.is (sym w.takes.ensures ∙ w.if-takes.false)
      | in_default-via-in_default w ↦ rw w.in_default.is
    ]
    in
    rw (by-lines input c.if-input-gt-LONGEST.false, no-hall c.next.result c.and_then.result (lines input) _ c.next.ensures.steps c.and_then.ensures none) c.put-in_default.ensures
