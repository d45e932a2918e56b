use Prim.Native.Nat.{◌+◌, ◌≤◌}
use mathlib.Core.Path.{◌≡◌}
use native.Mathlib.Nat.{mul-le-mul}
use native.Mathlib.Omega.{arith}
use borrow.Author.Tests.{eq-eqb}
use Rattle.route_lists.proofs.visiting.Goals as goal

pub returns : goal.returns
returns c =
    let h = c.args.trip.now in
    let (few, inside) = c.requires in
    let coming : c.read_entry-3.result ≤ 13 = omega (arith, few.few h.s c.args.v h.ready.from inside, c.read_entry-3.ensures) in
    let going : c.read_entry-4.result ≤ 13 = omega (arith, few.few c.args.v h.t inside h.ready.to, c.read_entry-4.ensures) in
    let adds : c.read_entry.result + c.on_from-far.result ≡ c.read_entry-2.result = omega (arith, c.if-near-far.false, c.from-near.ensures, c.from.ensures) in (
      rw (← c.read_entry.ensures, ← c.on_from-far.ensures.0, ← c.read_entry-2.ensures, ← c.read_entry-3.ensures, ← c.read_entry-4.ensures, eq-eqb (c.read_entry.result + c.on_from-far.result) c.read_entry-2.result adds),
      mul-le-mul coming going,
    )
