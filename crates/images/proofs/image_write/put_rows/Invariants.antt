-- What the loop of `put_rows` keeps: what a writer has stored of the rows passed.
use Rattle.std.proofs.Common.{◌≡◌, ◌≤◌, length}
use Rattle.images.specs.Promise.{Wrote}
use Rattle.images.proofs.image_write.put_rows.Given as goal

abbrev pub invariant-loop-u : goal.invariant-loop-u
invariant-loop-u l = (l.u ≤ l.n) × (length l.buffer ≡ length l.initial.buffer) × Wrote l.n l.cost 0 0 0 l.u 0 l.at l.initial.buffer l.buffer
