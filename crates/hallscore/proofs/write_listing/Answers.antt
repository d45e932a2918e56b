-- `write_listing` writes as many bytes as the listing answers; its room has them.
use Rattle.std.proofs.Common.{sym, rules}
use lib.Seq.{length-take-le}
use Rattle.listing.proofs.Whole.{wrote-within}
use Rattle.hallscore.proofs.Written.{listed, shown, written-listing}
use Rattle.hallscore.proofs.write_listing.Goals as goal

pub unwrap-length-requires : goal.unwrap-length-requires
unwrap-length-requires g c = rw (listed _ _ c.list.result c.list.new.output (search rules) c.list.ensures)

pub slice_bounds-room-end : goal.slice_bounds-room-end
slice_bounds-room-end g c = wrote-within _ _ c.unwrap-length.result c.list.new.output (rw c.unwrap-length.ensures at c.list.ensures)

pub slice_bounds-write_all-end : goal.slice_bounds-write_all-end
slice_bounds-write_all-end g c = sym (length-take-le _ _ (wrote-within _ _ c.unwrap-length.result c.list.new.output (rw c.unwrap-length.ensures at c.list.ensures)))

pub returns : goal.returns
returns g c =
    written-listing c.write_all.result _ _ _ _
    (shown (g.R.Read.remaining c.args.from.now) c.in_ok-read.read c.read_full.new.text _ c.unwrap-length.result c.list.new.output (search rules) (search rules) c.in_ok-read.ensures.front (rw c.unwrap-length.ensures at c.list.ensures))
    c.write_all.ensures.bytes
