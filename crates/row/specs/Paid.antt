-- What the loop that pushes shares back asks of a settled row, and what it leaves. Assumes nothing.
use Rattle.std.specs.Prelude.{ℕ, ◌+◌, ◌*◌, ◌^◌, ◌<◌, ◌≤◌, ◌≡◌, ◌≢◌, true, cond, List, length, get_or}
use Rattle.routes.specs.Route.{Costs, mark, has, least_time, capped_ways}
use Rattle.routes.specs.Equations.{tight, outflow, quotient}
use Rattle.routes.proofs.Shared.{flow_back}
use Rattle.row.specs.Settled.{Order, seen}

-- the sums that come to the stops of a set fit a word
pub record Adds (to psi : ℕ) (share : List ℕ) : Type 0 where
  pub below : (u : ℕ) → has to u ≡ true → u < length share
  pub fits : (u : ℕ) → has to u ≡ true → get_or share u 0 + psi < 2 ^ 64

-- psi is added at the stops of a set
abbrev pub Added : ℕ → ℕ → List ℕ → List ℕ → Type 0
Added to psi share share' = (u : ℕ) → get_or share' u 0 ≡ cond (has to u) (get_or share u 0 + psi) (get_or share u 0)

-- what the order, the ways and the predecessors of a settled row say to the loop over shares
pub record Owing (W : Costs) (n s k scale limit : ℕ) (ways pred order : List ℕ) : Type 0 where
  pub most : n ≤ 64
  pub fine : scale ≤ 2 ^ 32
  pub counted : length ways ≡ n
  pub room : length pred ≡ 64
  pub queue : length order ≡ k
  pub counts : (t : ℕ) → t < n → get_or ways t 0 ≡ capped_ways W n s limit t
  pub behind : (t u : ℕ) → t < n → has (get_or pred t 0) u ≡ true → u < n
  pub linked : (t u : ℕ) → t < n → u < n → least_time W n s t ≢ mark → has (get_or pred t 0) u ≡ tight W (least_time W n s) u t
  pub ordered : Order n k (least_time W n s) (λ i. get_or order i 0)
  pub complete : (t : ℕ) → t < n → least_time W n s t ≢ mark → seen (λ i. get_or order i 0) k t ≡ true
  pub found : (t : ℕ) → seen (λ i. get_or order i 0) k t ≡ true → least_time W n s t ≢ mark
  pub near : (u t : ℕ) → u < n → t < n → least_time W n s u ≢ mark → least_time W n s u + W u t < mark
  pub some : (t : ℕ) → t < n → least_time W n s t ≢ mark → 0 < capped_ways W n s limit t
  pub flowing : (v : ℕ) → v < n → flow_back W n s limit scale v
      ≡ quotient limit scale (capped_ways W n s limit v) + outflow W n (least_time W n s) (flow_back W n s limit scale) v
  pub back : (v : ℕ) → v < n → flow_back W n s limit scale v ≤ n * scale
  pub shared : (v : ℕ) → v < n → capped_ways W n s limit v * flow_back W n s limit scale v ≤ n * scale

-- shares that wait for a settled row, and what is left of them
pub record Waits (k scale limit : ℕ) (ways pred order share : List ℕ) : Type 0 where
  pub costs : Costs
  pub size : ℕ
  pub source : ℕ
  pub owing : Owing costs size source k scale limit ways pred order
  pub long : length share ≡ size
  pub zeros : (v : ℕ) → get_or share v 0 ≡ 0

abbrev pub Paid : (k scale limit : ℕ) → List ℕ → List ℕ → List ℕ → List ℕ → Type 0
Paid k scale limit ways pred order share =
    (W : Costs) (n s : ℕ) → Owing W n s k scale limit ways pred order → (v : ℕ) → v < n
    → get_or share v 0 ≡ capped_ways W n s limit v * outflow W n (least_time W n s) (flow_back W n s limit scale) v
