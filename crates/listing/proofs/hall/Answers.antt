-- `hall` lends the front of its arrays, n × n entries and n, and prints behind the first line.
use Rattle.std.proofs.Common.{ℕ, ◌*◌, ◌≤◌, ◌≡◌, ap, true, length, take, arith}
use native.Mathlib.Nat.{le_trans, mul-le-mul_left}
use lib.ListN.{replicate}
use lib.Seq.{length-take-le, length-sets}
use Rattle.routes.proofs.Lists.{take-replicate}
use Rattle.book.specs.Hall.{most_stops, up_to, no_passing}
use Rattle.book.proofs.Sizes.{stops}
use Rattle.words.specs.Text.{hall_line}
use Rattle.print.specs.Promise.{hall_bytes}
use Rattle.print.proofs.Printing.{then-prints}
use Rattle.print.proofs.Lengths.{head-short}
use Rattle.listing.proofs.Books.{lengths-inside}
use Rattle.listing.proofs.hall.Goals as goal

module _ (n : ℕ) (size : up_to most_stops n ≡ true) where
  few : n ≤ most_stops
  few = (stops n size).1

  square : n * n ≤ 4096
  square = le_trans (mul-le-mul_left n few) (omega (arith, few))

  -- its passing times are 0
  none : take n (replicate 64 0) ≡ no_passing n
  none = take-replicate n 64 0 few

  -- the first line has its room
  short : length (hall_line n) ≤ hall_bytes
  short = head-short n (omega (arith, few))

pub hall_line-requires : goal.hall_line-requires
hall_line-requires c = omega (arith, c.requires.ready.space, c.requires.front, short c.args.n c.requires.n_value)

pub start-requires-clause-inside : goal.start-requires-clause-inside
start-requires-clause-inside c =
    let n : ℕ = c.args.n in
    let size = c.requires.n_value in
    let cells = square n size in (
      lengths-inside n _ size (length-take-le _ _ cells) (none n size) (length-take-le _ _ cells) (length-take-le _ _ cells) (length-take-le _ _ cells) (length-take-le _ _ (few n size)),
      none n size,
    )

pub start-requires-clause-ready : goal.start-requires-clause-ready
start-requires-clause-ready c =
    let p = c.requires.ready in
    let printed = c.hall_line.ensures.printed in
    record {
      short = p.short;
      early = omega (arith, printed.behind, c.requires.front, short c.args.n c.requires.n_value);
      space = omega (arith, p.space, ap length printed.written, length-sets c.args.out.now.out.now c.args.out.now.written (hall_line c.args.n));
    }

pub returns : goal.returns
returns c = then-prints c.hall_line.ensures c.start.ensures
