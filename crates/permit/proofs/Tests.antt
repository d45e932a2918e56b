-- What the tests of an edit's arguments tell. Assumes nothing.
use Prim.Native.Nat.{ℕ, ◌<◌}
use mathlib.Core.Path.{◌≡◌}
use mathlib.Core.Logic.{◌≢◌}
use mathlib.Core.Bool.{true, not, ◌&&◌, and-eq-true_iff}
use lib.Dec.{eqb, ltb}
use borrow.Author.Tests.{eqb-false, ltb-true, not-true}
use Rattle.book.specs.Hall.{valid_pair}

-- what the test of two stops tells
pub pair-true : (n u v : ℕ) → valid_pair n u v ≡ true → (u < n) × (v < n) × (u ≢ v)
pair-true n u v e =
    let (from, rest) = (and-eq-true_iff (ltb u n) (ltb v n && not (eqb u v))).0 e in
    let (to, apart) = (and-eq-true_iff (ltb v n) (not (eqb u v))).0 rest in
    (ltb-true u n from, ltb-true v n to, eqb-false u v (not-true (eqb u v) apart))
