-- The loop that chooses the nearest stop of a word: what holds between two turns. Assumes nothing.
use Prim.Native.Nat.{ℕ, ◌≤◌}
use mathlib.Core.Path.{◌≡◌}
use mathlib.Core.Bool.{true, false}
use mathlib.Core.List.{List}
use lib.ListN.{get_or}
use Rattle.routes.specs.Route.{has}
use Rattle.routes.proofs.Bits.{has-none}
use Rattle.row.specs.Steps.{Nearest}

-- best is the nearest of the members passed, and low is its time
pub record Choosing (time : List ℕ) (set left best low : ℕ) : Type 0 where
  pub timed : low ≡ get_or time best 0
  pub member : has set best ≡ true
  pub inside : (t : ℕ) → has left t ≡ true → has set t ≡ true
  pub least : (t : ℕ) → has set t ≡ true → has left t ≡ false → get_or time best 0 ≤ get_or time t 0

module _ (time : List ℕ) (set : ℕ) where
  pub choosing-ends : {best low : ℕ} → Choosing time set 0 best low → Nearest time set best
  choosing-ends c = record { member = c.member; least = λ t h. c.least t h (has-none t) }
