-- `count` adds up the links.
use Rattle.std.proofs.Common.{arith, ◌≡◌, ◌≤◌, refl, Bool, true, false, cond, add-one, get_or, ltb}
use Rattle.std.specs.Int.{from_bool}
use Rattle.routes.specs.Route.{sum_to}
use Rattle.images.proofs.image_write.count.Goals as goal

-- a test as a number
bit : (b : Bool) → (from_bool b ≡ cond b 1 0) × (cond b 1 0 ≤ 1)
bit true = (refl, omega arith)
bit false = (refl, omega arith)

pub loop-c-init : goal.loop-c-init
unfolding sum_to
loop-c-init c = (omega arith, refl, omega arith)

pub loop-c-preserved : goal.loop-c-preserved
unfolding sum_to
loop-c-preserved c =
    let b = bit (ltb 0 (get_or c.args.cost.now c.loop-c.c-index 0)) in
    (omega arith, rw (add-one c.loop-c.c-index) (omega (arith, b, c.from-links.ensures)), omega (arith, b, c.from-links.ensures))
