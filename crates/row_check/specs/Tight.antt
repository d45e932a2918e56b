-- What going over links asks and tells: the ways and the flow of the tight ones, and whether one improves a time. Assumes nothing.
use Rattle.std.specs.Prelude.{ℕ, ◌+◌, ◌*◌, ◌^◌, ◌<◌, ◌≤◌, ◌≡◌, ◌≢◌, true, cond, List, eqb, length}
use Rattle.routes.specs.Route.{Costs, mark, link, has, sum_to}
use Rattle.routes.specs.Equations.{inflow, outflow}
use Rattle.links.specs.Promise.{Below, via_of, sum_bound}
use Rattle.row_check.specs.Tests.{at}

-- what going over links from u asks: from each stop the scale and a share, at most 2^41; and sums that its ways can join
pub record Scan (n s u links : ℕ) (cost passing time ways psi sum : List ℕ) : Type 0 where
  pub most : n ≤ 64
  pub source : s < n
  pub inside : u < n
  pub square : length cost ≡ n * n
  pub passable : length passing ≡ n
  pub timed : length time ≡ n
  pub counted : length ways ≡ n
  pub room : length psi ≡ n
  pub sums : length sum ≡ 64
  pub below : Below n links
  pub light : (t : ℕ) → t < n → at psi t ≤ 2 ^ 41
  pub quiet : at psi s ≡ 0
  pub small : (t : ℕ) → t < n → at sum t + at ways u ≤ sum_bound

-- what the link from u to t gives where it is tight, on routes from s
abbrev pub if_tight : (n s u : ℕ) → (cost passing time : List ℕ) → ℕ → ℕ → ℕ
if_tight n s u cost passing time t x = cond (eqb (via_of n s u cost passing time t) (at time t)) x 0

-- no link from u improves a time
abbrev pub Kept : (n s u links : ℕ) → (cost passing time : List ℕ) → Type 0
Kept n s u links cost passing time = (t : ℕ) → has links t ≡ true → at time t ≤ via_of n s u cost passing time t

-- and tells, where no link improves a time
pub record Scans (n s u links : ℕ) (cost passing time ways psi old sum : List ℕ) (flow : ℕ) : Type 0 where
  pub sums : length sum ≡ 64
  pub flows : flow ≡ sum_to n (λ t. cond (has links t) (if_tight n s u cost passing time t (at psi t)) 0)
  pub kept : Kept n s u links cost passing time
  pub added : (t : ℕ) → at sum t ≡ cond (has links t) (at old t + if_tight n s u cost passing time t (at ways u)) (at old t)

-- what going over the links of all stops asks
pub record Balance (n s : ℕ) (cost passing out time ways psi : List ℕ) : Type 0 where
  pub most : n ≤ 64
  pub source : s < n
  pub square : length cost ≡ n * n
  pub passable : length passing ≡ n
  pub masks : length out ≡ 64
  pub linked : (u t : ℕ) → u < n → has (at out u) t ≡ true → (t < n) × (0 < at cost (u * n + t))
  pub timed : length time ≡ n
  pub counted : length ways ≡ n
  pub bounded : (t : ℕ) → t < n → at time t ≤ mark
  pub room : length psi ≡ n
  pub in_all : sum_to n (at ways) ≤ sum_bound
  pub light : (t : ℕ) → t < n → at psi t ≤ 2 ^ 41
  pub quiet : at psi s ≡ 0

-- the links from u, with a time of its own, improve no time, over the costs W
abbrev pub Relaxed : Costs → ℕ → List ℕ → ℕ → Type 0
Relaxed W n time u = (t : ℕ) → t < n → link W u t ≡ true → at time u ≢ mark → at time t ≤ at time u + W u t

abbrev pub AllRelaxed : Costs → ℕ → List ℕ → Type 0
AllRelaxed W n time = (u : ℕ) → u < n → Relaxed W n time u

-- and tells, where no link improves a time: the source has the sum 1 and the flow 0
pub record Balanced (W : Costs) (n s : ℕ) (time ways psi sum flow : List ℕ) : Type 0 where
  pub sums : length sum ≡ 64
  pub room : length flow ≡ 64
  pub relaxed : AllRelaxed W n time
  pub one : at sum s ≡ 1
  pub summed : (t : ℕ) → t < n → t ≢ s → at sum t ≡ inflow W n (at time) (at ways) t
  pub none : at flow s ≡ 0
  pub flows : (u : ℕ) → u < n → u ≢ s → at flow u ≡ outflow W n (at time) (at psi) u
  pub light : (u : ℕ) → u < n → at flow u ≤ 2 ^ 47
