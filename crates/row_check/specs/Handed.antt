-- What each stop hands back to the stops before it. Assumes nothing.
use Rattle.std.specs.Prelude.{ℕ, ◌+◌, ◌/◌, ◌^◌, ◌<◌, ◌≡◌, cond, ◌||◌, List, eqb, ltb, length}
use Rattle.row_check.specs.Tests.{at}

-- what a stop with w ways and the share x hands back to each stop before it: nothing where it has no way or is crowded
unfoldable pub handed_back : ℕ → ℕ → ℕ → ℕ → ℕ
handed_back limit scale w x = cond (eqb w 0 || ltb limit w) 0 ((scale + x) / w)

-- the source hands nothing back
abbrev pub handed_by : ℕ → ℕ → ℕ → (ℕ → ℕ) → (ℕ → ℕ) → ℕ → ℕ
handed_by s limit scale σ δ v = cond (eqb v s) 0 (handed_back limit scale (σ v) (δ v))

-- what the sums of the scale and every share ask
pub record Undivides (n scale : ℕ) (share psi : List ℕ) : Type 0 where
  pub shared : length share ≡ n
  pub room : length psi ≡ n
  pub fits : (t : ℕ) → t < n → scale + at share t < 2 ^ 64

-- what their division asks
pub record Divides (n scale : ℕ) (ways share psi : List ℕ) : Type 0 where
  pub counted : length ways ≡ n
  pub undivided : Undivides n scale share psi

-- and what is left of it, the source's set to 0
pub record Divided (n s limit scale : ℕ) (ways share psi : List ℕ) : Type 0 where
  pub room : length psi ≡ n
  pub back : (t : ℕ) → t < n → at psi t ≡ handed_by s limit scale (at ways) (at share) t
