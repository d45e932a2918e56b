use borrow.Author.Tests.{lt-ltb}
use Rattle.book.proofs.Buffers.{list-writes, write-stored}
use Rattle.route_lists.proofs.Listing.{known, ready}
use Rattle.route_lists.proofs.list_routes.Goals as goal

pub invariant_of-trip : goal.invariant_of-trip
invariant_of-trip c = record { ready = ready (known _ _ _ _ c.in_ok-admit.ensures) }

pub store-requires : goal.store-requires
store-requires c = known _ _ _ _ c.in_ok-admit.ensures

pub returns : goal.returns
returns c =
    let x = c.args in
    let o = c.in_ok-admit.ensures in
    write-stored (list-writes _ _ _ _ _) o.sound (rw (lt-ltb x.s x.n o.from, lt-ltb x.t x.n o.to)) o.free c.store.ensures
