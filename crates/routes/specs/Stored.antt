-- What a loop that stores f 0, f 1, .. from the front of a list leaves. Assumes nothing.
use Rattle.std.specs.Prelude.{ℕ, ◌<◌, ◌≤◌, ◌≡◌, List, length, get_or}

-- k values are stored, the rest is as it was
pub record Stored (f : ℕ → ℕ) (k : ℕ) (old now : List ℕ) : Type 0 where
  pub long : length now ≡ length old
  pub done : (i : ℕ) → i < k → get_or now i 0 ≡ f i
  pub rest : (i : ℕ) → k ≤ i → get_or now i 0 ≡ get_or old i 0
