-- Where a row begins and ends. Assumes nothing.
use Prim.Native.Nat.{ℕ, ◌*◌, ◌<◌, ◌≤◌}
use mathlib.Core.Path.{refl}
use native.Mathlib.Nat.{suc-mul, mul-le-mul_left, mul-le-mul_right}
use native.Mathlib.Omega.{arith}
use Rattle.cells.specs.Promise.{Starts}

-- row s of n ends inside a table of at most 64 rows
pub starts : (n s : ℕ) → s < n → n ≤ 64 → Starts n s (s * n)
starts n s l h =
    record { place = refl; ends = omega (arith, mul-le-mul_right n l, suc-mul s n); small = omega (arith, mul-le-mul_left n h, mul-le-mul_right 64 h) }
