-- What the small steps of the settle loop ask and leave. Assumes nothing.
use Rattle.std.specs.Prelude.{ℕ, suc, ◌+◌, ◌*◌, ◌^◌, ◌<◌, ◌≤◌, min, ◌≡◌, true, cond, List, ltb, leb, length, get_or}
use Rattle.std.specs.Int.Bits.{bit_or}
use Rattle.routes.specs.Route.{has, sum_to}
use Rattle.links.specs.Promise.{Below, stay, via_of}

-- r is a stop of least time in the set
pub record Nearest (time : List ℕ) (set r : ℕ) : Type 0 where
  pub member : has set r ≡ true
  pub least : (t : ℕ) → has set t ≡ true → get_or time r 0 ≤ get_or time t 0

-- the sum of a list's entries at the stops of a set
abbrev pub sum_over : List ℕ → ℕ → ℕ
sum_over l set = sum_to (length l) (λ u. cond (has set u) (get_or l u 0) 0)

-- predecessors pred of a stop of time old after the offer via: dropped where it is better, joined by bit where it is no worse
abbrev pub joined_by : ℕ → ℕ → ℕ → ℕ → ℕ
joined_by via old bit pred = bit_or (cond (ltb via old) 0 pred) (cond (leb via old) bit 0)

-- what a sum of ways over a set asks: stops of the list, and no count above limit + 1
pub record Tally (limit first set : ℕ) (ways : List ℕ) : Type 0 where
  pub few : limit ≤ 22
  pub start : first ≤ suc limit
  pub below : Below (length ways) set
  pub capped : (u : ℕ) → u < length ways → get_or ways u 0 ≤ suc limit

-- what the offers of b to the stops of a set ask, on routes from s
pub record Offers (n s b set : ℕ) (cost passing time pred : List ℕ) : Type 0 where
  pub most : n ≤ 64
  pub inside : b < n
  pub square : length cost ≡ n * n
  pub passable : length passing ≡ n
  pub timed : length time ≡ n
  pub room : length pred ≡ 64
  pub below : Below n set
  pub leaves : get_or time b 0 + stay s passing b < 2 ^ 32
  pub fits : (t : ℕ) → has set t ≡ true → via_of n s b cost passing time t < 2 ^ 32

-- and what they leave
pub record Offered (n s b set : ℕ) (cost passing time pred time' pred' : List ℕ) : Type 0 where
  pub times : (t : ℕ) → get_or time' t 0 ≡ cond (has set t) (min (via_of n s b cost passing time t) (get_or time t 0)) (get_or time t 0)
  pub preds : (t : ℕ) → get_or pred' t 0 ≡ cond (has set t) (joined_by (via_of n s b cost passing time t) (get_or time t 0) (2 ^ b) (get_or pred t 0)) (get_or pred t 0)
