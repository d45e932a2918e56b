-- The search for the next link that leads on. Assumes nothing.
use Prim.Native.Nat.{ℕ, ◌<◌, ◌≤◌}
use mathlib.Core.Path.{◌≡◌}
use mathlib.Core.Bool.{true, false}
use native.Mathlib.Omega.{arith}
use Rattle.std.specs.Prelude.{Option, None, Some}
use Rattle.std.specs.Option.{MatchOption}
use Rattle.route_walk.specs.declared.trip.Trip.{Trip}
use Rattle.route_walk.specs.Walked.{leading, First}

-- the first number from a place on that passes the test is the next stop
pub found : (h : Trip) (u from : ℕ) → from ≤ h.n → (r : Option ℕ) →
    MatchOption r ((k : ℕ) → from ≤ k → k < h.n → leading h u k ≡ false) (λ i. (from ≤ i) × (i < h.n) × (leading h u i ≡ true) × ((k : ℕ) → from ≤ k → k < i → leading h u k ≡ false)) →
    First h u from r
found h u from le None m = record { after = le; most = omega arith; none = m; one = λ l. absurd (omega arith) }
found h u from le (Some y) m = (record { after = m.0; most = omega (arith, m.1); none = m.3; one = λ l. m.2 }, m.1)
