use Prim.Native.Nat.{◌+◌}
use mathlib.Core.Path.{◌≡◌, ◌∙◌}
use native.Mathlib.Omega.{arith}
use lib.ListN.{length}
use Rattle.book.proofs.Buffers.{stored_short, stored-whole}
use Rattle.route_lists.specs.Listed.{list_of}
use Rattle.route_lists.proofs.Listing.{counted, list-size, list-short, front-stored}
use Rattle.route_lists.proofs.store.Goals.{After-stops_in_all}
use Rattle.route_lists.proofs.store.Goals as goal

size : (c : After-stops_in_all) → length (list_of c.args.trip.now) ≡ 1 + c.read_entry-routes.result + c.stops_in_all.result
size c = omega (arith, list-size c.requires, c.read_entry-routes.ensures, c.stops_in_all.ensures)

pub read_entry-routes-requires : goal.read_entry-routes-requires
read_entry-routes-requires c =
    let K = c.requires in
    (K.from, K.to, K.most, (counted K).counts)

pub stops_in_all-requires : goal.stops_in_all-requires
stops_in_all-requires c = counted c.requires

pub overflow_add-length-2 : goal.overflow_add-length-2
overflow_add-length-2 c = omega (arith, size c, list-short c.requires)

pub returns-then-buffer-length : goal.returns-then-buffer-length
returns-then-buffer-length c = stored_short (list_of c.args.trip.now) _ (size (goal.at.returns-then-buffer-length c).After-stops_in_all) c.args.buffer.now c.if-buffer-length.true

pub put_list-requires : goal.put_list-requires
put_list-requires c = (c.requires, omega (arith, size (goal.at.put_list-requires c).After-stops_in_all, c.if-buffer-length.false))

pub returns : goal.returns
returns c =
    let b = c.args.buffer.now in
    let list = list_of c.args.trip.now in
    let k = size (goal.at.returns c).After-stops_in_all in
    let front = front-stored list b (omega (arith, k, c.if-buffer-length.false)) in
    stored-whole list _ k b (omega (arith, c.if-buffer-length.false)) (c.put_list.ensures ∙ rw k at front)
