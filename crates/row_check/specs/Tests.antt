-- What the tests over all stops ask and tell. Assumes nothing.
use Rattle.std.specs.Prelude.{ℕ, ◌*◌, ◌^◌, ◌<◌, ◌≤◌, min, ◌≡◌, Bool, ◌&&◌, List, eqb, ltb, leb, length, get_or}
use Rattle.std.specs.Bool.{beq}
use Rattle.routes.specs.Route.{sum_to}
use Rattle.links.specs.Promise.{sum_bound}

-- the entries of a list, as a function
abbrev pub at : List ℕ → ℕ → ℕ
at l t = get_or l t 0

-- the source has time 0, one way and no share
abbrev pub at_source : ℕ → List ℕ → List ℕ → List ℕ → Bool
at_source s time ways share = eqb (at time s) 0 && eqb (at ways s) 1 && eqb (at share s) 0

-- t has ways exactly where it has a time
abbrev pub reached : ℕ → List ℕ → List ℕ → ℕ → Bool
reached none time ways t = beq (eqb (at time t) none) (eqb (at ways t) 0)

-- all stops have together no more ways than a sum of ways into a stop may have
abbrev pub few_in_all : ℕ → List ℕ → Bool
few_in_all n ways = leb (sum_to n (at ways)) sum_bound

-- the share at t is below 2^40: a right share is at most 64 × 2^32, and the sums of the check then fit a word
abbrev pub little : List ℕ → ℕ → Bool
little share t = ltb (at share t) (2 ^ 40)

-- t has one way
abbrev pub single : List ℕ → ℕ → Bool
single ways t = eqb (at ways t) 1

-- the share of u is what flows back to it, times its ways
abbrev pub paid : List ℕ → List ℕ → List ℕ → ℕ → Bool
paid ways share flow u = eqb (at share u) (at ways u * at flow u)

-- the ways at t are the sum, up to top
abbrev pub agreed : ℕ → List ℕ → List ℕ → ℕ → Bool
agreed top ways sum t = eqb (at ways t) (min top (at sum t))

-- what the comparison of the shares asks: no more ways than a row may have in all, and at most 64 × 2^41 that flows back
pub record Pays (n : ℕ) (ways share flow : List ℕ) : Type 0 where
  pub counted : length ways ≡ n
  pub shared : length share ≡ n
  pub flows : length flow ≡ n
  pub few : (t : ℕ) → t < n → at ways t ≤ sum_bound
  pub light : (t : ℕ) → t < n → at flow t ≤ 2 ^ 47
