use Prim.Native.Nat.{◌+◌}
use mathlib.Core.Path.{◌∙◌, ap₂}
use native.Mathlib.Omega.{arith}
use Rattle.row_check.proofs.Walking.{row-entry, walking-inside, walking-flow, walking-adds, walking-goes, walking-ends}
use Rattle.row_check.proofs.flows.scan.Goals as goal

pub offset_bounds-time-t : goal.offset_bounds-time-t
offset_bounds-time-t c = let i = walking-inside _ _ _ _ _ _ _ _ _ _ c.requires c.loop-t.invariant c.in-Some.ensures.steps in omega (arith, i.0, c.requires.most)

pub bounds-time-t : goal.bounds-time-t
bounds-time-t c = let i = walking-inside _ _ _ _ _ _ _ _ _ _ c.requires c.loop-t.invariant c.in-Some.ensures.steps in omega (arith, i.0, c.requires.timed)

pub offset_bounds-psi-select : goal.offset_bounds-psi-select
offset_bounds-psi-select c = let f = walking-flow _ _ _ _ _ _ _ _ _ _ c.requires c.loop-t.invariant c.in-Some.ensures.steps c.select.ensures in omega (arith, f.0, c.requires.most)

pub bounds-psi-select : goal.bounds-psi-select
bounds-psi-select c = let f = walking-flow _ _ _ _ _ _ _ _ _ _ c.requires c.loop-t.invariant c.in-Some.ensures.steps c.select.ensures in omega (arith, f.0, c.requires.room)

pub overflow_add-flow : goal.overflow_add-flow
overflow_add-flow c =
    let f = walking-flow _ _ _ _ _ _ _ _ _ _ c.requires c.loop-t.invariant c.in-Some.ensures.steps c.select.ensures in
    record { fits = omega arith }

pub offset_bounds-sum-t : goal.offset_bounds-sum-t
offset_bounds-sum-t c = let i = walking-inside _ _ _ _ _ _ _ _ _ _ c.requires c.loop-t.invariant c.in-Some.ensures.steps in omega (arith, i.0, c.requires.most)

pub bounds-sum-t : goal.bounds-sum-t
bounds-sum-t c = let i = walking-inside _ _ _ _ _ _ _ _ _ _ c.requires c.loop-t.invariant c.in-Some.ensures.steps in omega (arith, i.0, c.requires.most)

pub add-requires : goal.add-requires
add-requires c = walking-adds _ _ _ _ _ _ _ _ _ _ c.requires c.loop-t.invariant c.in-Some.ensures.steps c.select-in-loop-t.ensures

pub offset_bounds-sum-t-in-loop-t : goal.offset_bounds-sum-t-in-loop-t
offset_bounds-sum-t-in-loop-t c = let i = walking-inside _ _ _ _ _ _ _ _ _ _ c.requires c.loop-t.invariant c.in-Some.ensures.steps in omega (arith, i.0, c.requires.most)

pub bounds-sum-t-in-loop-t : goal.bounds-sum-t-in-loop-t
bounds-sum-t-in-loop-t c = let i = walking-inside _ _ _ _ _ _ _ _ _ _ c.requires c.loop-t.invariant c.in-Some.ensures.steps in omega (arith, i.0, c.requires.most)

pub loop-t-preserved : goal.loop-t-preserved
loop-t-preserved c =
    let a = c.args in
    let p = c.in-Some.ensures.steps in
    let read = row-entry a.network.n a.u c.in-Some.t a.network.cost.now (walking-inside _ _ _ _ _ _ _ _ _ _ c.requires c.loop-t.invariant p).0 in
    walking-goes _ _ _ _ _ _ _ _ _ _ c.requires p (ap₂ ◌+◌ c.from.ensures (c.from-2.ensures ∙ c.stay.ensures)) (c.from-in-loop-t.ensures ∙ read) c.from-far.ensures c.select.ensures c.loop-t.invariant c.select-in-loop-t.ensures c.add.ensures

pub returns-else-improves : goal.returns-else-improves
returns-else-improves c = walking-ends _ _ _ _ _ _ _ _ _ _ c.requires (rw c.in-None.ensures.steps.0 at c.loop-t.invariant) c.if-improves.false
