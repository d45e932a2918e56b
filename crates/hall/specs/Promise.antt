-- What the functions of empty hall write. Assumes nothing.
use Rattle.std.specs.Prelude.{ℕ, ◌<◌, ◌≡◌, cond, ◌&&◌, List, eqb, ltb, length}
use Rattle.book.specs.Hall.{entry}

-- x stands at the first k places of the diagonal, elsewhere what was there
pub record Diagonal (n k x : ℕ) (old now : List ℕ) : Type 0 where
  pub long : length now ≡ length old
  pub at : (s t : ℕ) → s < n → t < n → entry n now s t ≡ cond (eqb s t && ltb s k) x (entry n old s t)
