-- Sets of stops as numbers: what it means to take the lowest member out. Assumes nothing.
use Rattle.std.specs.Prelude.{ℕ, ◌<◌, ◌≡◌, true, not, ◌&&◌, eqb}
use Rattle.routes.specs.Route.{has}

-- the lowest member t of a set, and the set without it
pub record Popped (a t b : ℕ) : Type 0 where
  pub member : has a t ≡ true
  pub rest : (u : ℕ) → has b u ≡ (has a u && not (eqb u t))
  pub less : b < a
