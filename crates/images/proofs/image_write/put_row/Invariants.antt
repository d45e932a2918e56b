-- What the loop of `put_row` keeps: what a writer has stored of the pairs passed.
use Rattle.std.proofs.Common.{◌≡◌, ◌≤◌, length}
use Rattle.images.specs.Promise.{Wrote}
use Rattle.images.proofs.image_write.put_row.Given as goal

abbrev pub invariant-loop-v : goal.invariant-loop-v
invariant-loop-v l = (l.v ≤ l.n) × (length l.buffer ≡ length l.initial.buffer) × Wrote l.n l.cost l.u 0 l.start l.u l.v l.at l.initial.buffer l.buffer
