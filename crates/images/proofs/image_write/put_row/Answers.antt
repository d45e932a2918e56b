-- `put_row` stores the records of a row, pair by pair.
use Rattle.std.proofs.Common.{arith, ◌≡◌, ◌+◌, ◌*◌, ◌≤◌, ◌∙◌, ap, length, get_or}
use Rattle.book.specs.Hall.{entry}
use Rattle.book.proofs.Tables.{valid-costs}
use Rattle.images.specs.Promise.{link_bit}
use Rattle.images.proofs.Writer.{wrote_on, wrote-row, pair_fits, wrote-pair}
use Rattle.images.proofs.image_write.put_row.Goals as goal

pub put_link-at-requires : goal.put_link-at-requires
put_link-at-requires c =
    let a = c.args in
    let p = c.requires in
    let t = c.loop-v in
    let same : get_or a.cost.now (c.start-row.result + t.v) 0 ≡ entry a.n a.cost.now a.u t.v = ap (λ r. get_or a.cost.now (r + t.v) 0) c.start-row.ensures.place in
    let room : t.at + 4 * link_bit (get_or a.cost.now (c.start-row.result + t.v) 0) ≤ length t.buffer =
    rw same (pair_fits a.n a.cost.now a.u t.v t.at t.invariant.2.place (length t.buffer) (omega (arith, p.room.fits, t.invariant.1)) p.u_lt_n.0 c.loop-v-test.true)
    in
    let most = (valid-costs a.n a.cost.now p.room.valid).most a.u t.v p.u_lt_n.0 c.loop-v-test.true in
    omega (arith, p.room.most, p.u_lt_n.0, same, room)

pub loop-v-preserved : goal.loop-v-preserved
loop-v-preserved c =
    let a = c.args in
    let p = c.requires in
    let t = c.loop-v in
    let same : get_or a.cost.now (c.start-row.result + t.v) 0 ≡ entry a.n a.cost.now a.u t.v = ap (λ r. get_or a.cost.now (r + t.v) 0) c.start-row.ensures.place in
    let room : t.at + 4 * link_bit (get_or a.cost.now (c.start-row.result + t.v) 0) ≤ length t.buffer =
    rw same (pair_fits a.n a.cost.now a.u t.v t.at t.invariant.2.place (length t.buffer) (omega (arith, p.room.fits, t.invariant.1)) p.u_lt_n.0 c.loop-v-test.true)
    in
    let e = c.put_link-at in (
      omega arith,
      e.auto.buffer ∙ t.invariant.1,
      wrote_on _ _ t.invariant.1 t.invariant.2 (wrote-pair _ _ _ _ _ t.invariant.2.place same room e.ensures.0 e.ensures.1),
    )

pub returns : goal.returns
returns c =
    let t = c.loop-v in
    let end : t.v ≡ c.args.n = omega arith in
    let w = rw end at t.invariant.2 in
    wrote_on _ _ t.invariant.1 w (wrote-row _ _ _ _ _ w.place)
