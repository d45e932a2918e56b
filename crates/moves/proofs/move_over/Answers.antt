use mathlib.Core.Path.{◌≡◌, refl, ap}
use native.Mathlib.Omega.{arith}
use lib.ListN.{take, replicate}
use Prim.Native.Nat.{ℕ}
use mathlib.Core.Bool.{Bool, true, not}
use Rattle.std.proofs.lemmas.Result.{err_from_is_err_and}
use Rattle.routes.proofs.Booleans.{failed, held}
use Rattle.routes.proofs.Lists.{take-replicate}
use Rattle.book.specs.Hall.{most_stops, up_to, no_passing}
use Rattle.book.proofs.Sizes.{stops}
use Rattle.tables.proofs.Measured.{old-measure}
use Rattle.moves.proofs.Moving.{tested, move-sizeless, move-shut, move-bad, move-crowded, move-accepted}
use Rattle.moves.proofs.move_over.Goals as goal

-- behind test 1 a table of its own has a passing time of 0 for each stop
none : (n : ℕ) {r : Bool} → r ≡ up_to most_stops n → r ≡ true → take n (replicate 64 0) ≡ no_passing n
none n e ok = take-replicate n 64 0 (stops n (held e (ap not ok))).1

pub returns-then-not-takes : goal.returns-then-not-takes
returns-then-not-takes c = move-sizeless _ _ _ _ _ _ (failed c.takes.ensures (ap not c.if-not-takes.true))

pub invariant_of-old : goal.invariant_of-old
invariant_of-old c = record { measured = old-measure _ (omega arith) (omega arith) }

pub returns-in_err-audit_by : goal.returns-in_err-audit_by
returns-in_err-audit_by c =
    let a = c.args in
    let p = err_from_is_err_and c.from_residual.result c.from_residual.ensures.1 in
    rw (p.1, p.2) (move-shut _ _ _ _ _ _ (tested a.n a.cost.now a.time.now a.ways.now a.share.now a.score.now (none a.n c.takes.ensures c.if-not-takes.false) c.in_err-audit_by.ensures) refl)

pub returns-then-not-within : goal.returns-then-not-within
returns-then-not-within c =
    let a = c.args in
    let told = tested a.n a.cost.now a.time.now a.ways.now a.share.now a.score.now (none a.n c.takes.ensures c.if-not-takes.false) c.in_ok-audit_by.ensures in
    move-bad _ _ _ _ _ _ told refl (failed c.within.ensures (ap not c.if-not-within.true))

pub returns-then-not-within-2 : goal.returns-then-not-within-2
returns-then-not-within-2 c =
    let a = c.args in
    let told = tested a.n a.cost.now a.time.now a.ways.now a.share.now a.score.now (none a.n c.takes.ensures c.if-not-takes.false) c.in_ok-audit_by.ensures in
    move-crowded _ _ _ _ _ _ told refl (held c.within.ensures (ap not c.if-not-within.false)) (failed c.within-2.ensures (ap not c.if-not-within-2.true))

pub returns : goal.returns
returns c =
    let a = c.args in
    let told = tested a.n a.cost.now a.time.now a.ways.now a.share.now a.score.now (none a.n c.takes.ensures c.if-not-takes.false) c.in_ok-audit_by.ensures in
    move-accepted _ _ _ _ _ _ told refl (held c.within.ensures (ap not c.if-not-within.false)) (held c.within-2.ensures (ap not c.if-not-within-2.false)) c.divide.ensures c.divide-2.ensures
