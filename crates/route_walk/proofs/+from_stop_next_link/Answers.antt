-- Each of the two stores what the walk lists from where it stands, and the falling number is made of the stops and the links that are left.
use mathlib.Core.Path.{ap, refl}
use native.Mathlib.Omega.{arith}
use lib.ListN.{length, set, length-set}
use Rattle.std.proofs.Common.{length-take}
use Rattle.route_walk.proofs.Steps.{fits, still, stands-next, end-room, path-kept, on-bytes, past_bytes, next-bytes, wrote_none, wrote-same, wrote_on, room_next, room-behind, end-wrote, on-falls, deeper-falls, next-falls}
use Rattle.route_walk.proofs.+from_stop_next_link.Goals as goal

pub from_stop-bounds-path-k : goal.from_stop-bounds-path-k
from_stop-bounds-path-k t c = (fits c.requires.standing).1

pub from_stop-overflow_add-k : goal.from_stop-overflow_add-k
from_stop-overflow_add-k t c =
    let S = c.requires.standing in
    record { fits = omega (arith, fits S, S.ready.most) }

pub from_stop-slice_bounds-put_route-end : goal.from_stop-slice_bounds-put_route-end
from_stop-slice_bounds-put_route-end t c =
    let a = c.args in
    omega (arith, length-set a.path.now a.k a.u, fits c.requires.standing)

pub from_stop-slice_bounds-put_route-end-then-u-trip : goal.from_stop-slice_bounds-put_route-end-then-u-trip
from_stop-slice_bounds-put_route-end-then-u-trip t c =
    let a = c.args in
    rw length-take (omega (arith, length-set a.path.now a.k a.u, fits c.requires.standing))

pub from_stop-put_route-requires : goal.from_stop-put_route-requires
from_stop-put_route-requires t c =
    let a = c.args in
    let S = c.requires.standing in
    let whole = end-room S a.at (length a.buffer.now) c.if-u-trip.true c.requires.u_in_bounds in
    rw length-take (omega (arith, length-set a.path.now a.k a.u, fits S, S.ready.most, whole))

pub from_stop-returns-then-u-trip-clause-wrote : goal.from_stop-returns-then-u-trip-clause-wrote
from_stop-returns-then-u-trip-clause-wrote t c = end-wrote c.requires.standing c.if-u-trip.true c.put_route.ensures.0 c.put_route.ensures.1

pub from_stop-next_link-requires : goal.from_stop-next_link-requires
from_stop-next_link-requires t c =
    let a = c.args in
    let S = c.requires.standing in
    let bytes = on-bytes S c.if-u-trip.false in (
      omega (arith, on-falls a.trip.now.n a.k, c.decreases),
      ((still S (set a.path.now a.k a.u) (length-set a.path.now a.k a.u), omega arith), omega (arith, ap length bytes, c.requires.u_in_bounds)),
    )

pub from_stop-returns-clause-wrote : goal.from_stop-returns-clause-wrote
from_stop-returns-clause-wrote t c = wrote-same (on-bytes c.requires.standing c.if-u-trip.false) c.next_link.ensures.wrote

pub from_stop-returns-clause-path_unchanged : goal.from_stop-returns-clause-path_unchanged
from_stop-returns-clause-path_unchanged t c = path-kept c.requires.standing _ c.next_link.ensures.path_unchanged

pub next_link-returns-in_default-clause-wrote : goal.next_link-returns-in_default-clause-wrote
next_link-returns-in_default-clause-wrote t c = wrote_none _ _ _ (past_bytes c.requires.standing.0 c.in_default.ensures refl)

pub next_link-overflow_add-k : goal.next_link-overflow_add-k
next_link-overflow_add-k t c =
    let S = c.requires.standing.0 in
    record { fits = omega (arith, fits S, S.ready.most) }

pub next_link-from_stop-end-requires : goal.next_link-from_stop-end-requires
next_link-from_stop-end-requires t c =
    let a = c.args in
    let S = c.requires.standing.0 in
    let (N, inside) = c.in-Some.ensures in (
      omega (arith, deeper-falls a.trip.now.n a.k a.from (fits S).0, c.decreases),
      (stands-next S N inside, room_next S N a.at (length a.buffer.now) inside c.requires.from_in_bounds),
    )

pub next_link-next_link-requires : goal.next_link-next_link-requires
next_link-next_link-requires t c =
    let a = c.args in
    let S = c.requires.standing.0 in
    let (N, inside) = c.in-Some.ensures in
    let gone = c.from_stop-end in
    let behind = room-behind S N gone.new.path gone.ensures.path_unchanged a.at gone.result (length a.buffer.now) inside c.requires.from_in_bounds gone.ensures.wrote.place in (
      omega (arith, next-falls a.trip.now.n a.k a.from c.in-Some.y N.after inside, c.decreases),
      ((still S gone.new.path gone.auto.path, omega arith), omega (arith, behind, gone.auto.buffer)),
    )

pub next_link-returns-clause-wrote : goal.next_link-returns-clause-wrote
next_link-returns-clause-wrote t c =
    let S = c.requires.standing.0 in
    let (N, inside) = c.in-Some.ensures in
    wrote_on (next-bytes S N _ c.from_stop-end.ensures.path_unchanged inside) c.from_stop-end.ensures.wrote c.next_link.ensures.wrote
