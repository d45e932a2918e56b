-- From right tables to the list: its length, what the walk stores, and the whole in the buffer. Assumes nothing.
use Prim.Native.Nat.{ℕ, zero, suc, ◌+◌, ◌*◌, ◌<◌, ◌≤◌, min}
use mathlib.Core.Path.{◌≡◌, refl, sym, ◌∙◌, ap, ap₂}
use mathlib.Core.Bool.{Bool, true, false, cond, and-eq-true_iff}
use mathlib.Core.List.{List, ◌++◌}
use native.Mathlib.Nat.{zero-add, zero-mul, mul-zero, mul_comm, le-mul_of_pos_right, min-eq_right, add_assoc}
use native.Mathlib.Omega.{arith}
use lib.Dec.{eqb, ltb}
use lib.ListN.{length, get_or, drop, set}
use lib.Seq.{sets, sets-eq}
use borrow.Author.Tests.{le-leb, ltb-true, lt-ltb}
use Rattle.routes.specs.Route.{Costs, uses, least_time, quickest, ways as ways_of, through, capped_ways, quickest_routes}
use Rattle.routes.proofs.Booleans.{bool_iff}
use Rattle.routes.proofs.Sums.{sum_to-cong}
use Rattle.routes.proofs.Times.{least-source}
use Rattle.routes.proofs.Listed.{listed-ways}
use Rattle.routes.proofs.Shared.{through-le}
use Rattle.routes.proofs.Joined.{spent, through-adds-from}
use Rattle.routes.proofs.WalkingFrom.{onward, onward-spent, walk-lists-from, leads-exactly-from}
use Rattle.book.specs.Hall.{Layout, Tables, most_stops, most_ways, largest_cost, largest_passing, scale, entry, costs_in, filled, crowded_pair, route_bytes, route_list}
use Rattle.book.specs.Contract.{Audited}
use Rattle.book.proofs.Sizes.{stops, lengths}
use Rattle.book.proofs.Filled.{right-true}
use Rattle.book.proofs.Tables.{length-table, entry-table}
use Rattle.book.proofs.Steps.{Held}
use Rattle.book.proofs.Small.{dearest, costs-within, passing-within, within, small, flow, workable}
use Rattle.book.proofs.Uncrowded.{pair-few}
use Rattle.book.proofs.RouteLists.{routes-length, routes-most}
use Rattle.route_walk.specs.Promise.{on_from, Ready, leads_on, bytes_whole, Wrote}
use Rattle.route_lists.specs.Promise.{visiting_by, stops_in_all, Few, Listable, Open}

-- numbers with a small product are small, unless one of them is 0
capped-product : (m x y : ℕ) → x * y ≤ m → min (suc m) x * min (suc m) y ≡ x * y
capped-product m zero y h = rw (min-eq_right {n = 0} {m = suc m} (omega arith)) (zero-mul (min (suc m) y) ∙ sym (zero-mul y))
capped-product m (suc x) zero h = rw (min-eq_right {n = 0} {m = suc m} (omega arith)) (mul-zero (min (suc m) (suc x)) ∙ sym (mul-zero (suc x)))
capped-product m (suc x) (suc y) h =
    let right : suc x ≤ m = omega (arith, h, le-mul_of_pos_right {m = suc y} (suc x) (omega arith)) in
    let left : suc y ≤ m = omega (arith, h, mul_comm (suc x) (suc y), le-mul_of_pos_right {m = suc x} (suc y) (omega arith)) in
    ap₂ ◌*◌ (min-eq_right (omega arith)) (min-eq_right (omega arith))

module _ {n s t : ℕ} {l : Layout} {time ways : List ℕ} (K : Listable n s t l time ways) where
  held : Held n l
  held = record {
    size = (and-eq-true_iff _ _).1 (le-leb 1 n (omega (arith, K.from)), le-leb n most_stops K.most);
    square = K.square;
    long = K.long;
    valid = K.valid;
    passable = K.passable;
  }

  -- the costs and the passing times, and from every stop the least times and the ways
  abbrev W : Costs
  W = entry n l.cost

  abbrev p : ℕ → ℕ
  p v = get_or l.passing v 0

  abbrev d : ℕ → ℕ → ℕ
  d u v = least_time (costs_in n l u) n u v

  abbrev w : ℕ → ℕ → ℕ
  w u v = ways_of (costs_in n l u) n u v

  times_long : length time ≡ n * n
  unfolding filled
  times_long = ap length K.times ∙ length-table n d

  time-at : (u v : ℕ) → u < n → v < n → entry n time u v ≡ d u v
  unfolding filled
  time-at u v i j = ap (λ y. entry n y u v) K.times ∙ entry-table n d u v i j

  ways-at : (u v : ℕ) → u < n → v < n → entry n ways u v ≡ min (suc most_ways) (w u v)
  unfolding filled
  ways-at u v i j = ap (λ y. entry n y u v) K.counts ∙ entry-table n (λ u. capped_ways (costs_in n l u) n u most_ways) u v i j

  -- the pair itself is not crowded
  few : w s t ≤ most_ways
  few = pair-few most_ways n l s t K.free

  number_at : entry n ways s t ≡ w s t
  number_at = omega (arith, ways-at s t K.from K.to, few)

  -- the time from a stop on to t, with what it takes to pass the stop
  onward-at : (v : ℕ) → v < n → on_from n s t l.passing time v ≡ onward W p n s t v
  onward-at v j = rw (time-at v t j K.to)

  -- the ways that the length is read from
  pub counted : Few n ways
  unfolding filled
  counted = record {
    counts = ap length K.counts ∙ length-table n (λ u. capped_ways (costs_in n l u) n u most_ways);
    few = λ u v i j. rw (ways-at u v i j) (omega arith);
  }

  -- where the times add up at a stop, no part of the routes over it is a crowded pair: their product is no more than the ways of the whole
  uncut : (v : ℕ) → v < n → (b : Bool) → through (costs_in n l s) n s v t ≡ cond b (w s v * w v t) 0 →
      cond b (min (suc most_ways) (w s v) * min (suc most_ways) (w v t)) 0 ≡ cond b (w s v * w v t) 0
  uncut v j true e = capped-product most_ways (w s v) (w v t) (omega (arith, e, through-le (costs_in n l s) n s (flow (workable held) s K.from) v t j K.to, few))
  uncut v j false e = refl

  -- a stop counts as often in the list as the routes visit it
  visited : (v : ℕ) → v < n →
      visiting_by (entry n time s v) (on_from n s t l.passing time v) (entry n time s t) (entry n ways s v) (entry n ways v t)
      ≡ cond (eqb (d s v + spent p s t v + d v t) (d s t)) (w s v * w v t) 0
  visited v j =
      let far : on_from n s t l.passing time v ≡ spent p s t v + d v t =
      onward-at v j ∙ onward-spent W p n s t largest_cost largest_passing K.from K.to (costs-within (workable held)) (passing-within (workable held)) (small (workable held)) v j in
      rw (far, time-at s v K.from j, time-at s t K.from K.to, ways-at s v K.from j, ways-at v t j K.to, ← add_assoc)
      (uncut v j (eqb (d s v + spent p s t v + d v t) (d s t))
      (through-adds-from W p n largest_cost largest_passing (costs-within (workable held)) (passing-within (workable held)) (small (workable held)) s v t K.from j K.to))

  -- the number that stands in front, and the length of the whole
  pub list-size : 1 + entry n ways s t + stops_in_all n s t l.passing time ways ≡ length (route_list n l s t)
  list-size = omega (arith, sum_to-cong n visited, number_at, routes-length n l held s t K.from K.to)

  -- which is small
  pub list-short : length (route_list n l s t) ≤ 781
  list-short = routes-most n l held s t K.from K.to K.free

  -- the walk has what it asks for
  pub ready : Ready n s t l.cost l.passing time
  ready = record { most = K.most; from = K.from; to = K.to; square = K.square; long = K.long; times = times_long }

  pub own : entry n time s s ≡ 0
  own = time-at s s K.from K.from ∙ least-source (costs_in n l s) n s dearest K.from (within (workable held) s) (small (workable held))

  -- what it asks of a link, by the tables alone, is whether some quickest route from s to t uses it
  pub takes-exactly : (u y : ℕ) → u < n → y < n → leads_on n s t l.cost l.passing time u y ≡ ltb 0 (quickest (costs_in n l s) n s (uses u y) t)
  takes-exactly =
      leads-exactly-from W p n s t largest_cost largest_passing K.from K.to (costs-within (workable held)) (passing-within (workable held)) (small (workable held))
      (λ x. entry n time s x) (on_from n s t l.passing time) (λ x j. time-at s x K.from j) onward-at

  -- it stores the routes of the list, behind their number
  walk-bytes : bytes_whole n s t l.cost l.passing time ≡ route_bytes (quickest_routes (costs_in n l s) n s t)
  walk-bytes =
      ap route_bytes (walk-lists-from W p n s t largest_cost largest_passing K.from K.to (costs-within (workable held)) (passing-within (workable held)) (small (workable held))
      (λ x. entry n time s x) (on_from n s t l.passing time) (λ x j. time-at s x K.from j) onward-at)

  pub walk-room : (room : ℕ) → length (route_list n l s t) ≤ room → 1 + length (bytes_whole n s t l.cost l.passing time) ≤ room
  unfolding route_list
  walk-room room h = omega (arith, ap length walk-bytes)

  pub list-stored : (b : List ℕ) {k r : ℕ} {c : List ℕ} → k ≡ entry n ways s t → Wrote (bytes_whole n s t l.cost l.passing time) 1 r (set b 0 k) c →
      c ≡ sets b 0 (route_list n l s t)
  unfolding route_list
  list-stored b {k} e wrote =
      let number : length (quickest_routes (costs_in n l s) n s t) ≡ k = listed-ways (costs_in n l s) n s t K.to ∙ sym (e ∙ number_at) in
      wrote.stored ∙ rw (walk-bytes, number)

  -- the number is a byte
  pub number_fits : entry n ways s t ≤ 12
  number_fits = omega (arith, number_at, few)

-- bytes stored from the front of a buffer, and the rest behind them
pub front-stored : (bytes b : List ℕ) → length bytes ≤ length b → sets b 0 bytes ≡ bytes ++ drop (length bytes) b
front-stored bytes b h = sets-eq bytes b 0 (omega arith) ∙ rw zero-add

-- right tables, and two stops that are no crowded pair
pub known : (n s x : ℕ) (t : Tables) → Open n s x t → Listable n s x t.layout t.time t.ways
known n s x t o =
    let (valid, same) = right-true scale most_ways n t o.sound.sound in
    let sizes = lengths n t o.sound.inside.lengths in
    record {
      most = (stops n o.sound.inside.size).1;
      from = o.from;
      to = o.to;
      square = sizes.costs;
      long = sizes.passings;
      valid = valid;
      passable = o.sound.inside.passable;
      free = o.free;
      times = ap (λ t. t.time) (sym same);
      counts = ap (λ t. t.ways) (sym same);
    }

-- the entry of ways tells whether two stops are a crowded pair
pub crowded-entry : (n : ℕ) (t : Tables) (s x : ℕ) → Audited n t → s < n → x < n → ltb most_ways (entry n t.ways s x) ≡ crowded_pair most_ways n t.layout s x
unfolding filled
crowded-entry n t s x a i j =
    ap (ltb most_ways) (sym (ap (λ t. entry n t.ways s x) (right-true scale most_ways n t a.sound).1) ∙ entry-table n (λ s. capped_ways (costs_in n t.layout s) n s most_ways) s x i j) ∙
    cut (ways_of (costs_in n t.layout s) n s x)
  where
    cut : (w : ℕ) → ltb most_ways (min (suc most_ways) w) ≡ ltb most_ways w
    cut w = bool_iff _ _ (λ e. lt-ltb most_ways w (omega (arith, ltb-true most_ways (min (suc most_ways) w) e))) (λ e. lt-ltb most_ways (min (suc most_ways) w) (omega (arith, ltb-true most_ways w e)))
