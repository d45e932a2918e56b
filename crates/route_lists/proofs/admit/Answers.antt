use Prim.Native.Nat.{◌<◌}
use mathlib.Core.Path.{refl, sym, ◌∙◌, ap}
use mathlib.Core.Bool.{and-false}
use native.Mathlib.Omega.{arith}
use lib.Dec.{ltb}
use borrow.Author.Tests.{lt-ltb, le-ltb}
use Rattle.std.proofs.lemmas.Result.{err_from_is_err_and}
use Rattle.book.specs.Hall.{most_ways}
use Rattle.book.proofs.Sizes.{stops, lengths}
use Rattle.book.proofs.Doors.{audit-passed}
use Rattle.book.proofs.Buffers.{list-writes, write-refused, write-nowhere, write-crowded}
use Rattle.route_lists.proofs.Listing.{crowded-entry}
use Rattle.route_lists.proofs.admit.Goals.{then-n-s-via-then-n-s, then-n-s-via-else-n-s+then-n-t}
use Rattle.route_lists.proofs.admit.Goals as goal

pub returns-in_err-audit : goal.returns-in_err-audit
returns-in_err-audit c =
    let p = err_from_is_err_and c.from_residual.result c.from_residual.ensures.1 in
    rw (p.1, p.2) (λ b. write-refused (list-writes _ _ _ _ b) _ c.in_err-audit.ensures refl)

pub returns-then-n-s : goal.returns-then-n-s
returns-then-n-s c b =
    let x = c.args in
    write-nowhere (list-writes _ _ _ _ b) (audit-passed _ _ c.in_ok-audit.ensures refl) (elim c.then-n-s.branch [
      | then-n-s-via-then-n-s w ↦ rw (le-ltb x.s x.n w.if-n-s.true)
      | then-n-s-via-else-n-s+then-n-t w ↦ rw (le-ltb x.t x.n w.if-n-t.true) (and-false (ltb x.s x.n))
    ])

pub read_entry-routes-requires : goal.read_entry-routes-requires
read_entry-routes-requires c =
    let a = audit-passed _ _ c.in_ok-audit.ensures refl in
    (omega arith, omega arith, (stops _ a.inside.size).1, (lengths _ _ a.inside.lengths).counts)

pub returns-then-routes-gt-WAYS : goal.returns-then-routes-gt-WAYS
returns-then-routes-gt-WAYS c b =
    let x = c.args in
    let from : x.s < x.n = omega arith in
    let to : x.t < x.n = omega arith in
    let a = audit-passed _ _ c.in_ok-audit.ensures refl in
    let full = sym (crowded-entry _ _ x.s x.t a from to) ∙ ap (ltb most_ways) (sym c.read_entry-routes.ensures) ∙ lt-ltb _ _ c.if-routes-gt-WAYS.true in
    write-crowded (list-writes _ _ _ _ b) a (rw (lt-ltb x.s x.n from, lt-ltb x.t x.n to)) full

pub returns : goal.returns
returns c =
    let x = c.args in
    let from : x.s < x.n = omega arith in
    let to : x.t < x.n = omega arith in
    let a = audit-passed _ _ c.in_ok-audit.ensures refl in
    let free = sym (crowded-entry _ _ x.s x.t a from to) ∙ ap (ltb most_ways) (sym c.read_entry-routes.ensures) ∙ le-ltb most_ways c.read_entry-routes.result (omega arith) in
    record { sound = a; from = from; to = to; free = free }
