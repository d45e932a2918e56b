use Prim.Native.Nat.{◌+◌, ◌*◌}
use Rattle.links.proofs.Masking.{masking-goes, masking-ends}
use Rattle.links.proofs.masks.links_where.Goals as goal

pub loop-u-preserved : goal.loop-u-preserved
loop-u-preserved g c = λ p h. masking-goes _ (λ u t. p (u * c.args.n + t)) _ c.loop-u-test.true (c.loop-u.invariant p h) (c.stops_where.ensures p h)

pub returns : goal.returns
returns g c = λ p h.
    let m = c.loop-u.invariant p h in
    record { long = m.long; bit = masking-ends _ (λ u t. p (u * c.args.n + t)) c.requires.most c.loop-u-test.false m }
