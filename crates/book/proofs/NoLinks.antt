-- The cost table of a hall without links: its costs are valid. Assumes nothing.
use Prim.Native.Nat.{ℕ, ◌+◌, ◌*◌}
use mathlib.Core.Path.{◌≡◌, refl}
use mathlib.Core.Bool.{Bool, true, false}
use native.Mathlib.Omega.{arith}
use lib.Dec.{ltb}
use lib.ListN.{replicate, length-replicate, get_or-replicate, get_or-eq_default}
use borrow.Author.Tests.{ltb-true, ltb-false}
use Rattle.book.specs.Hall.{entry, valid_costs}
use Rattle.book.proofs.Tables.{costs-valid}

-- no entry
entry-none : (k n u v : ℕ) → entry n (replicate k 0) u v ≡ 0
entry-none k n u v = go (ltb (u * n + v) k) refl
  where
    go : (b : Bool) → ltb (u * n + v) k ≡ b → entry n (replicate k 0) u v ≡ 0
    go true e = get_or-replicate k (u * n + v) 0 0 (ltb-true (u * n + v) k e)
    go false e = get_or-eq_default (replicate k 0) 0 (omega (arith, length-replicate {A = ℕ} k 0, ltb-false (u * n + v) k e))

-- valid costs
pub valid-none : (n : ℕ) → valid_costs n (replicate (n * n) 0) ≡ true
valid-none n =
    let none = entry-none (n * n) n in
    costs-valid n (replicate (n * n) 0) (record { most = λ u v h k. rw (none u v) (omega arith); own = λ u h. none u u })
