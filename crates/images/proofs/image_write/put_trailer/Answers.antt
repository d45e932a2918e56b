-- `put_trailer` stores the two halves of a trailer.
use Rattle.std.proofs.Common.{◌∙◌}
use native.Mathlib.Numerals.{add-four}
use Rattle.book.specs.Hall.{low_first}
use Rattle.images.proofs.image_write.put_trailer.Goals as goal

pub returns : goal.returns
unfolding low_first
returns c = c.put_four.ensures ∙ rw (c.put_record.ensures, add-four)
