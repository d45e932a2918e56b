-- What the settle loop asks and leaves: right times and ways, and the stops in the order in which they were settled. Assumes nothing.
use Rattle.std.specs.Prelude.{ℕ, zero, suc, ◌<◌, ◌≤◌, ◌≡◌, Bool, true, false, cond, ◌||◌, ◌≢◌, List, eqb, length, get_or}
use Rattle.routes.specs.Route.{Costs, mark, has, least_time, capped_ways}
use Rattle.routes.specs.Equations.{tight}

-- t is one of the first k stops
unfoldable pub seen : (ℕ → ℕ) → ℕ → ℕ → Bool
seen o zero t = false
seen o (suc k) t = seen o k t || eqb t (o k)

-- o i is the i-th of k stops: no stop comes twice, and times do not fall
pub record Order (n k : ℕ) (D o : ℕ → ℕ) : Type 0 where
  pub inside : (i : ℕ) → i < k → o i < n
  pub fresh : (i : ℕ) → i < k → seen o i (o i) ≡ false
  pub sorted : (i t : ℕ) → i < k → seen o i t ≡ true → D t ≤ D (o i)

-- a stop's count before it is settled: the source's own way
abbrev pub seed : ℕ → ℕ → ℕ
seed s t = cond (eqb t s) 1 0

-- the lists before the first turn
pub record Begun (n s : ℕ) (time ways pred : List ℕ) : Type 0 where
  pub timed : length time ≡ n
  pub counted : length ways ≡ n
  pub room : length pred ≡ 64
  pub times : (t : ℕ) → t < n → get_or time t 0 ≡ cond (eqb t s) 0 mark
  pub counts : (t : ℕ) → t < n → get_or ways t 0 ≡ seed s t
  pub preds : (t : ℕ) → get_or pred t 0 ≡ 0

-- the lists after the last turn: every row is right, and the order holds every stop that is reached
pub record Settled (W : Costs) (n s limit : ℕ) (time ways pred order : List ℕ) (k : ℕ) : Type 0 where
  pub times : (t : ℕ) → t < n → get_or time t 0 ≡ least_time W n s t
  pub counts : (t : ℕ) → t < n → get_or ways t 0 ≡ capped_ways W n s limit t
  pub behind : (t u : ℕ) → t < n → has (get_or pred t 0) u ≡ true → u < n
  pub linked : (t u : ℕ) → t < n → u < n → least_time W n s t ≢ mark → has (get_or pred t 0) u ≡ tight W (least_time W n s) u t
  pub ordered : Order n k (least_time W n s) (λ i. get_or order i 0)
  pub complete : (t : ℕ) → t < n → least_time W n s t ≢ mark → seen (λ i. get_or order i 0) k t ≡ true
  pub found : (t : ℕ) → seen (λ i. get_or order i 0) k t ≡ true → least_time W n s t ≢ mark
