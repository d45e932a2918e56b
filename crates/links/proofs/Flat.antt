-- A link's place in the flat table. Assumes nothing.
use Prim.Native.Nat.{ℕ, ◌+◌, ◌*◌, ◌<◌, ◌≤◌}
use native.Mathlib.Omega.{arith}
use native.Mathlib.Nat.{mul-le-mul_right}
use lib.Arith.{digits_lt}

pub flat-lt : (n u t : ℕ) → n ≤ 64 → u < n → t < n → (u * n + t < n * n) × (n * n ≤ 4096)
flat-lt n u t most lu lt = (digits_lt lu lt, omega (arith, mul-le-mul_right n most))
