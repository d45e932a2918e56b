use Prim.Native.Nat.{ℕ}
use mathlib.Core.Bool.{Bool}
use mathlib.Core.Path.{◌≡◌, refl, ◌∙◌}
use native.Mathlib.Omega.{arith}
use Rattle.routes.specs.Route.{sum_to, set_of}
use Rattle.links.specs.Promise.{stay}
use Rattle.book.specs.Hall.{entry}
use Rattle.touch.specs.Promise.{crosses}
use Rattle.touch.proofs.Masks.{set-with, set-without}
use Rattle.touch.proofs.touched_set.Goals as goal

pub loop-s-init : goal.loop-s-init
loop-s-init c = (omega arith, unfold set_of sum_to in refl)

pub loop-s-preserved : goal.loop-s-preserved
loop-s-preserved c =
    let a = c.args in
    let l = a.link in
    let t = a.t.now in
    let s : ℕ = c.loop-s.s in
    let p : ℕ → Bool = λ x. crosses c.dearer-up.result c.read_entry-old.result a.new (entry l.n t.time.now x l.u) (stay x t.passing.now l.u) (entry l.n t.time.now x l.v) in
    let here : c.link_crosses.result ≡ p s = c.link_crosses.ensures ∙ rw (c.read_entry-near.ensures, c.read_entry-far.ensures, c.stay-stay.ensures) in
    let sum = c.loop-s.invariant.1 in
    (omega arith, grind (arith, set-with s c.loop-s.set p sum, set-without s c.loop-s.set p sum, here, c.only-source.ensures))
