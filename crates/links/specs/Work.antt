-- What the work on rows rests on: links that a hall may have, and numbers that ways and shares may be kept by. Assumes nothing.
use Rattle.std.specs.Prelude.{ℕ, ◌+◌, ◌*◌, ◌^◌, ◌<◌, ◌≤◌, ◌≡◌, true, List, length, get_or}
use Rattle.std.specs.Int.{◌∣◌}
use Rattle.routes.specs.Route.{has}

-- a cost table of n stops, their passing times, and masks of links of that table
pub record Linked (n : ℕ) (cost passing out : List ℕ) : Type 0 where
  pub most : n ≤ 64
  pub square : length cost ≡ n * n
  pub passable : length passing ≡ n
  pub masks : length out ≡ 64
  pub cheap : (u t : ℕ) → u < n → t < n → get_or cost (u * n + t) 0 ≤ 65535
  pub brief : (u : ℕ) → u < n → get_or passing u 0 ≤ 65535
  pub linked : (u t : ℕ) → u < n → has (get_or out u 0) t ≡ true → (t < n) × (0 < get_or cost (u * n + t) 0)

-- a limit of ways and a scale that every count up to the limit divides
pub record Measured (limit scale : ℕ) : Type 0 where
  pub some : 0 < limit
  pub few : limit ≤ 22
  pub fine : scale ≤ 2 ^ 32
  pub whole : (k : ℕ) → 0 < k → k ≤ limit → k ∣ scale
