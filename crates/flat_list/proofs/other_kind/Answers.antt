use Prim.Native.Nat.{suc, ◌+◌, ◌-◌}
use mathlib.Core.Path.{◌≡◌, sym, ◌∙◌, ap}
use native.Mathlib.Omega.{arith}
use lib.ListN.{length}
use Rattle.flat_list.specs.Flat.{place_of, cut_short, first_other, other_from}
use Rattle.flat_list.proofs.Flat.{turns-least, read-none, read-some, other-next, other-here, other-last, place-next}
use Rattle.flat_list.proofs.other_kind.Goals.{In-loop-i}
use Rattle.flat_list.proofs.other_kind.Goals as goal

-- the edits from i on have their turn
from-here : (c : In-loop-i) → first_other c.args.list.now ≡ other_from (cut_short (length c.args.list.now)) c.loop-i.i (suc (c.min-turns.result - (c.loop-i.i + 1))) c.args.list.now
from-here c =
    let more : c.min-turns.result - c.loop-i.i ≡ suc (c.min-turns.result - (c.loop-i.i + 1)) = omega (arith, c.loop-i-test.true) in
    c.loop-i.invariant ∙ ap (λ k. other_from (cut_short (length c.args.list.now)) c.loop-i.i k c.args.list.now) more

pub loop-i-init : goal.loop-i-init
loop-i-init c =
    let all : c.min-turns.result - 0 ≡ c.min-turns.result = omega arith in
    ap (λ k. other_from (cut_short (length c.args.list.now)) 0 k c.args.list.now) (sym (all ∙ c.min-turns.ensures ∙ turns-least _))

pub returns-then-is_none : goal.returns-then-is_none
returns-then-is_none c =
    let here = from-here (goal.at.returns-then-is_none c).In-loop-i ∙ other-here _ c.loop-i.i _ _ (read-none _ _ c.kind_of.ensures c.if-is_none.ensures) in
    place-next c.loop-i.i ∙ ap place_of (sym here)

pub loop-i-preserved : goal.loop-i-preserved
loop-i-preserved c = from-here (goal.at.loop-i-preserved c).In-loop-i ∙ other-next _ c.loop-i.i _ _ (read-some _ _ c.kind_of.ensures c.if-is_none.ensures)

pub returns : goal.returns
returns c =
    let none : c.min-turns.result - c.loop-i.i ≡ 0 = omega (arith, c.loop-i-test.false) in
    c.cut_short.ensures ∙ ap place_of (sym (c.loop-i.invariant ∙ ap (λ k. other_from (cut_short (length c.args.list.now)) c.loop-i.i k c.args.list.now) none ∙ other-last _ _ _))
