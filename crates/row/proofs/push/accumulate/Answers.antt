use Rattle.std.proofs.Common.{refl, arith}
use Rattle.row.proofs.Owing.{Step}
use Rattle.row.proofs.Paying.{paying-starts, paying-step, paying-goes, paying-ends}
use Rattle.row.proofs.push.accumulate.Goals as goal
use Rattle.row.proofs.push.accumulate.Goals.{In-Some}

pub loop-v-init : goal.loop-v-init
loop-v-init c = rw (c.into_iter-v-iterator.ensures.into_iter_gives, c.rev-v-items.ensures.source, c.iter.ensures.rest) (paying-starts _ _ _ _ _ _ _ c.requires)

-- what a turn may rely on
step : (c : In-Some) → Step c.args.measure.limit c.args.measure.scale c.in-Some.field-0.now c.args.ways.now c.args.pred.now c.loop-v.share
step c = paying-step _ _ _ _ _ _ _ c.requires _ _ _ _ c.in-Some.ensures.steps c.loop-v.invariant

pub quotient-requires : goal.quotient-requires
quotient-requires c = (step (goal.at.quotient-requires c).In-Some).some

pub overflow_add-psi : goal.overflow_add-psi
overflow_add-psi c = record { fits = rw c.quotient.ensures (step (goal.at.overflow_add-psi c).In-Some).sum }

pub offset_bounds-pred-v : goal.offset_bounds-pred-v
offset_bounds-pred-v c = omega (arith, (step (goal.at.offset_bounds-pred-v c).In-Some).small)

pub bounds-pred-v : goal.bounds-pred-v
bounds-pred-v c = (step (goal.at.bounds-pred-v c).In-Some).listed

pub push-requires : goal.push-requires
push-requires c = rw c.quotient.ensures (step (goal.at.push-requires c).In-Some).adds

pub overflow_mul-share : goal.overflow_mul-share
overflow_mul-share c = record { fits = rw c.from.ensures (step (goal.at.overflow_mul-share c).In-Some).product }

pub offset_bounds-share-v-in-loop-v : goal.offset_bounds-share-v-in-loop-v
offset_bounds-share-v-in-loop-v c = omega (arith, (step (goal.at.offset_bounds-share-v-in-loop-v c).In-Some).small)

pub bounds-share-v-in-loop-v : goal.bounds-share-v-in-loop-v
bounds-share-v-in-loop-v c = omega (arith, (step (goal.at.bounds-share-v-in-loop-v c).In-Some).held, c.push.auto.share)

pub loop-v-preserved : goal.loop-v-preserved
loop-v-preserved c = rw c.from.ensures
    (paying-goes _ _ _ _ _ _ _ c.requires _ _ _ _ c.in-Some.ensures.steps c.loop-v.invariant _ _ _ c.quotient.ensures refl c.push.auto.share c.push.ensures)

pub returns : goal.returns
returns c = paying-ends _ _ _ _ _ _ _ c.requires c.in-None.ensures.steps.0 c.loop-v.invariant
