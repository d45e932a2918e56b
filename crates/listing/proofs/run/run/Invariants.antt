-- What is printed and what is left to print make the whole, and the tables are those of the book.
use Rattle.std.proofs.Common.{◌+◌}
use Rattle.std.specs.Iterator.Adapters.{enumerate_source, enumerate_count}
use Rattle.book.specs.Contract.{held}
use Rattle.words.specs.Text.{lines}
use Rattle.listing.proofs.Running.{Going}
use Rattle.listing.proofs.run.run.Given as goal

abbrev pub invariant-loop-i : goal.invariant-loop-i
invariant-loop-i l =
    (goal.iterator-loop-i).can_next l.i-iterator × (goal.iterator-loop-i).is_finite l.i-iterator
    × Going l.n (lines l.fn.rest.text.now) l.fn.out (held l.fn.tables) (held l.tables) l.out (enumerate_count l.i-iterator + 2) (lines (enumerate_source l.i-iterator).text.now)
