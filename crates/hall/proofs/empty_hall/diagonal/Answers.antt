use borrow.Author.Rules.{rules}
use native.Mathlib.Omega.{arith}
use Rattle.hall.proofs.NoLinks.{diagonal-none, diagonal-more, diagonal-end}
use Rattle.hall.proofs.empty_hall.diagonal.Goals as goal

pub loop-s-init : goal.loop-s-init
loop-s-init c = (omega arith, diagonal-none _ _ _, diagonal-none _ _ _)

pub loop-s-preserved : goal.loop-s-preserved
loop-s-preserved c = let v = c.loop-s.invariant in
    let p = c.requires in
    (omega arith, rw c.start.ensures.place (diagonal-more _ _ _ _ _ (omega arith) p.1 v.1), rw c.start.ensures.place (diagonal-more _ _ _ _ _ (omega arith) p.2 v.2))

pub returns : goal.returns
returns c = search (rules, diagonal-end)
