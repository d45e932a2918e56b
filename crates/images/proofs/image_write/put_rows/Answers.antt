-- `put_rows` stores the records row by row.
use Rattle.std.proofs.Common.{rules}
use Rattle.book.specs.Hall.{entry}
use Rattle.book.proofs.Writer.{links-none}
use Rattle.images.proofs.Writer.{wrote_none}
use Rattle.images.proofs.image_write.put_rows.Goals as goal

pub loop-u-init : goal.loop-u-init
loop-u-init c = search (rules, entry, links-none, wrote_none)
