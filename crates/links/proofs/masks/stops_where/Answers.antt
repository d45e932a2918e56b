use Prim.Native.Nat.{◌+◌, ◌*◌}
use mathlib.Core.Path.{◌∙◌, ap}
use mathlib.Core.Bool.{cond}
use lib.ListN.{get_or}
use Rattle.links.proofs.Flat.{flat-lt}
use Rattle.links.proofs.Gathering.{gathering-starts, gathering-goes, mask-none, mask-ends}
use Rattle.links.proofs.masks.stops_where.Goals as goal

pub returns-then-n-u : goal.returns-then-n-u
returns-then-n-u g c = λ p h. mask-none _ _ (λ u t. p (u * c.args.n + t)) c.if-n-u.true

pub loop-t-init : goal.loop-t-init
loop-t-init g c = λ p h. gathering-starts _ _

pub loop-t-preserved : goal.loop-t-preserved
loop-t-preserved g c = λ p h. gathering-goes _ _ c.requires.most.0 c.loop-t-test.true c.requires.most.1 (c.loop-t.invariant p h)
    record { is = c.select-set.ensures.is ∙ ap (λ yes. cond yes (get_or c.args.singles.now c.loop-t.t 0) 0) (h (c.args.u * c.args.n + c.loop-t.t) c.test.result (flat-lt c.args.n _ _ c.requires.most.0 c.if-n-u.false c.loop-t-test.true).0 c.test.ensures) }

pub returns : goal.returns
returns g c = λ p h. mask-ends _ _ (λ u t. p (u * c.args.n + t)) c.if-n-u.false c.loop-t-test.false (c.loop-t.invariant p h)
