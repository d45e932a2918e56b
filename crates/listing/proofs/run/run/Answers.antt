-- `run` takes line by line.
use Rattle.std.proofs.Common.{◌+◌, ◌≤◌, ◌≡◌, length, arith, inl}
use Rattle.std.specs.Iterator.Adapters.{enumerate_source, enumerate_count}
use Rattle.words.specs.Text.{longest, lines}
use Rattle.listing.proofs.Books.{few-stops, lengths-audited}
use Rattle.listing.proofs.Running.{begin, roomy, advance, finish, lines-fewer}
use Rattle.listing.proofs.run.run.Goals as goal

pub loop-i-init-derived : goal.loop-i-init-derived
loop-i-init-derived c =
    rw
    (c.into_iter-i-iterator.ensures.into_iter_gives, c.enumerate-i-items.ensures.source, c.enumerate-i-items.ensures.count)
    ((tt, tt, inl (omega (arith, lines-fewer (lines c.args.rest.text.now), c.requires.ready.short))), tt)

pub loop-i-init : goal.loop-i-init
loop-i-init c =
    let few : length (lines c.args.rest.text.now) ≤ longest = omega (arith, lines-fewer (lines c.args.rest.text.now), c.requires.ready.short) in
    rw
    (c.into_iter-i-iterator.ensures.into_iter_gives, c.enumerate-i-items.ensures.source, c.enumerate-i-items.ensures.count)
    ((tt, tt, inl (omega (arith, few))), tt, begin c.requires.audited c.requires.ready)

pub step-requires-clause-room : goal.step-requires-clause-room
step-requires-clause-room c =
    let (cut, at, on, fits) = c.in-Some.ensures.steps in
    rw at (roomy (rw cut at c.loop-i.invariant.2) c.requires.ready.space)

pub loop-i-preserved : goal.loop-i-preserved
loop-i-preserved c =
    let (cut, at, on, fits) = c.in-Some.ensures.steps in
    let g = advance (rw cut at c.loop-i.invariant.2) _ _ (rw at at c.step.ensures) in
    let i : enumerate_count c.next.new.self + 2 ≡ enumerate_count c.loop-i.i-iterator + 2 + 1 = omega (arith, on) in (
      (tt, tt, inl (omega (arith, lines-fewer (lines (enumerate_source c.next.new.self).text.now), g.count, on))),
      tt,
      rw i g,
    )

pub scores-requires : goal.scores-requires
scores-requires c =
    let g = c.loop-i.invariant.2 in
    let long = (lengths-audited g.right).scores in
    let few = few-stops g.right in
    (omega (arith, long, few), omega (arith, long, few, g.short, g.long, c.requires.ready.space))

pub returns : goal.returns
returns c = finish (rw c.in-None.ensures.steps.0.0 at c.loop-i.invariant.2) _ c.scores.ensures
