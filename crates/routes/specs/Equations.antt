-- The equations by which a row of times, ways and shares is known without listing routes.
-- d is a row of times, σ one of ways, δ one of shares; all are functions of the stop. Assumes nothing.
use Rattle.std.specs.Prelude.{ℕ, suc, ◌+◌, ◌*◌, ◌/◌, ◌<◌, ◌≤◌, min, ◌≡◌, ◌≢◌, Bool, true, cond, not, ◌&&◌, eqb, ltb}
use Rattle.routes.specs.Route.{Costs, mark, link, sum_to}

-- no link costs more than c
abbrev pub Within : Costs → ℕ → ℕ → Type 0
Within W n c = (u v : ℕ) → u < n → v < n → W u v ≤ c

-- the link u to t is tight by the times d: it lies on a quickest route to t
abbrev pub tight : Costs → (ℕ → ℕ) → ℕ → ℕ → Bool
tight W d u t = link W u t && (not (eqb (d u) mark) && eqb (d u + W u t) (d t))

-- the sum of f over the tight links into t, and over those out of v
abbrev pub inflow : Costs → ℕ → (ℕ → ℕ) → (ℕ → ℕ) → ℕ → ℕ
inflow W n d f t = sum_to n (λ u. cond (tight W d u t) (f u) 0)

abbrev pub outflow : Costs → ℕ → (ℕ → ℕ) → (ℕ → ℕ) → ℕ → ℕ
outflow W n d f v = sum_to n (λ w. cond (tight W d v w) (f w) 0)

-- E1: the source has time 0, no link improves a time, and each other stop has the mark or a tight link into it
pub record Times (W : Costs) (n s : ℕ) (d : ℕ → ℕ) : Type 0 where
  pub source : d s ≡ 0
  pub bounded : (t : ℕ) → t < n → d t ≤ mark
  pub relaxed : (u t : ℕ) → u < n → t < n → link W u t ≡ true → d u ≢ mark → d t ≤ d u + W u t
  pub supported : (t : ℕ) → t < n → t ≢ s → d t ≢ mark → (u : ℕ) × (u < n) × (tight W d u t ≡ true)

-- E2: the source has one way, each other stop the sum over the tight links into it, counted up to limit + 1
pub record Counts (W : Costs) (n s limit : ℕ) (d σ : ℕ → ℕ) : Type 0 where
  pub source : σ s ≡ 1
  pub summed : (t : ℕ) → t < n → t ≢ s → σ t ≡ min (suc limit) (inflow W n d σ t)

-- what a stop itself adds to the stops before it: one quotient, nothing where it is crowded
abbrev pub quotient : ℕ → ℕ → ℕ → ℕ
quotient limit scale w = cond (ltb limit w) 0 (scale / w)

-- E3: ψ of a stop is its quotient and what flows back from the next stops; its share is that flow times its ways
pub record Shares (W : Costs) (n s limit scale : ℕ) (d σ ψ δ : ℕ → ℕ) : Type 0 where
  pub flowing : (v : ℕ) → v < n → ψ v ≡ quotient limit scale (σ v) + outflow W n d ψ v
  pub source : δ s ≡ 0
  pub shared : (v : ℕ) → v < n → v ≢ s → δ v ≡ σ v * outflow W n d ψ v
