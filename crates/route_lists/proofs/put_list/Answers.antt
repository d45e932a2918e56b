use native.Mathlib.Omega.{arith}
use lib.ListN.{length, length-set}
use Rattle.route_lists.proofs.Listing.{counted, number_fits, list-size, own, walk-room, list-stored}
use Rattle.route_lists.proofs.put_list.Goals as goal

pub read_entry-requires : goal.read_entry-requires
read_entry-requires c =
    let K = c.requires.0 in
    (K.from, K.to, K.most, (counted K).counts)

pub overflow_cast-buffer : goal.overflow_cast-buffer
overflow_cast-buffer c = omega (arith, c.read_entry.ensures, number_fits c.requires.0)

pub bounds-buffer-0 : goal.bounds-buffer-0
bounds-buffer-0 c = omega (arith, c.requires.1, list-size c.requires.0)

pub put_routes-requires : goal.put_routes-requires
put_routes-requires c =
    let b = c.args.buffer.now in
    let room = walk-room c.requires.0 (length b) c.requires.1 in
    record { own = own c.requires.0; time_in_bounds = omega (arith, room, length-set b 0 c.read_entry.result) }

pub returns : goal.returns
returns c = list-stored c.requires.0 c.args.buffer.now c.read_entry.ensures c.put_routes.ensures
