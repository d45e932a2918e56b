-- A choice between two values. Assumes nothing.
use Rattle.std.specs.Prelude.{◌≡◌, Bool, cond}

-- the first of two values where a test holds, else the second
pub record Picked {A : Type 0} (yes : Bool) (a b r : A) : Type 0 where
  pub is : r ≡ cond yes a b
