-- The list of quickest routes as bytes: its number, its length, a stop to itself, and no route. What it lists stands in routes, Listed.
-- Assumes nothing.
use Prim.Native.Nat.{ℕ, ◌+◌, ◌*◌, ◌<◌, ◌≤◌}
use native.Mathlib.Omega.{arith}
use mathlib.Core.Path.{◌≡◌, refl, sym, ◌∙◌, ap, ap₂}
use mathlib.Core.Bool.{false, cond}
use mathlib.Core.List.{List, [], ◌∷◌, ◌++◌, append_assoc}
use lib.Dec.{eqb}
use lib.ListN.{length, get_or, take, drop, length-append}
use lib.Seq.{take_at, drop_at}
use Rattle.routes.specs.Route.{Costs, mark, sum_to, least_time, ways, through, quickest_routes}
use Rattle.routes.proofs.Sums.{sum_to-bound}
use Rattle.routes.proofs.Shared.{through-le}
use Rattle.routes.proofs.Listed.{stops_in, listed-ways, listed-stops, listed-own, listed-none}
use Rattle.book.specs.Hall.{Layout, most_ways, crowded_pair, largest_cost, entry, route_bytes, route_list, largest_passing, costs_in}
use Rattle.book.proofs.Steps.{Held}
use Rattle.book.proofs.Sizes.{stops}
use Rattle.book.proofs.Uncrowded.{pair-few}
use Rattle.routes.proofs.Joined.{spent, listed-sum-from}
use Rattle.book.proofs.Small.{dearest, costs-within, passing-within, within, small, flow, workable}

-- a byte for each stop, and one for each route
bytes-length : (rs : List (List ℕ)) → length (route_bytes rs) ≡ length rs + stops_in rs
unfolding route_bytes stops_in
bytes-length [] = refl
bytes-length (r ∷ rs) = omega (arith, length-append r (route_bytes rs), bytes-length rs)

-- so many routes are told by their bytes, whatever stands behind these
bytes-told : (rs qs : List (List ℕ)) (x y : List ℕ) → length rs ≡ length qs → route_bytes rs ++ x ≡ route_bytes qs ++ y → rs ≡ qs
unfolding route_bytes
bytes-told [] [] x y m e = refl
bytes-told [] (q ∷ qs) x y m e = absurd (omega arith)
bytes-told (r ∷ rs) [] x y m e = absurd (omega arith)
bytes-told (r ∷ rs) (q ∷ qs) x y m e =
    let size : length r ≡ length q = ap (λ l. get_or l 0 0) e in
    let rest : r ++ (route_bytes rs ++ x) ≡ q ++ (route_bytes qs ++ y) = sym (append_assoc r (route_bytes rs) x) ∙ ap (drop 1) e ∙ append_assoc q (route_bytes qs) y in
    let first : r ≡ q = sym (take_at r (route_bytes rs ++ x) (length r) refl) ∙ ap (take (length r)) rest ∙ take_at q (route_bytes qs ++ y) (length r) (sym size) in
    let others : route_bytes rs ++ x ≡ route_bytes qs ++ y = sym (drop_at r (route_bytes rs ++ x) (length r) refl) ∙ ap (drop (length r)) rest ∙ drop_at q (route_bytes qs ++ y) (length r) (sym size) in
    ap₂ {C = List (List ℕ)} ◌∷◌ first (bytes-told rs qs x y (omega arith) others)

-- a list tells its routes: no two listings have the same bytes in front of a buffer
pub routes-once : (rs qs : List (List ℕ)) (x y : List ℕ) → (length rs ∷ route_bytes rs) ++ x ≡ (length qs ∷ route_bytes qs) ++ y → rs ≡ qs
routes-once rs qs x y e = bytes-told rs qs x y (ap (λ l. get_or l 0 0) e) (ap (drop 1) e)

module _ (n : ℕ) (lay : Layout) (h : Held n lay) (s t : ℕ) (from : s < n) (to : t < n) where
  abbrev C : ℕ → Costs
  C = costs_in n lay

  abbrev passing : ℕ → ℕ
  passing v = get_or lay.passing v 0

  -- the first byte is the number of ways
  pub routes-number : get_or (route_list n lay s t) 0 0 ≡ ways (C s) n s t
  unfolding route_list
  routes-number = listed-ways (C s) n s t to

  -- the length: a byte for the number, one for each route, and for each stop one for every route that passes it, its passing time counted
  -- where it lies strictly between the ends
  pub routes-length : length (route_list n lay s t) ≡
      1 + ways (C s) n s t + sum_to n (λ v. cond (eqb (least_time (C s) n s v + spent passing s t v + least_time (C v) n v t) (least_time (C s) n s t)) (ways (C s) n s v * ways (C v) n v t) 0)
  unfolding route_list
  routes-length = omega (arith, bytes-length (quickest_routes (C s) n s t), listed-ways (C s) n s t to, listed-sum-from (entry n lay.cost) passing n largest_cost largest_passing (costs-within (workable h)) (passing-within (workable h)) (small (workable h)) s t from to)

  -- of a pair that is not crowded, at most twelve routes of at most 64 stops, each behind its length, and their number
  pub routes-most : crowded_pair most_ways n lay s t ≡ false → length (route_list n lay s t) ≤ 781
  unfolding route_list
  routes-most free =
      let few : ways (C s) n s t ≤ most_ways = pair-few most_ways n lay s t free in
      let each = sum_to-bound n most_ways {f = λ v. through (C s) n s v t} (λ v l. omega (arith, few, through-le (C s) n s (flow (workable h) s from) v t l to)) in
      omega (arith, bytes-length (quickest_routes (C s) n s t), listed-ways (C s) n s t to, listed-stops (C s) n s t to, each, (stops n h.size).1)

  -- without a route the list is one byte, the number 0
  pub routes-none : least_time (C s) n s t ≡ mark → route_list n lay s t ≡ 0 ∷ []
  unfolding route_list route_bytes
  routes-none e = rw (listed-none (C s) n s dearest from (within (workable h) s) (small (workable h)) t to e)

-- from a stop to itself: one route, of one stop, the stop
pub routes-own : (n : ℕ) (lay : Layout) → Held n lay → (s : ℕ) → s < n → route_list n lay s s ≡ 1 ∷ 1 ∷ s ∷ []
unfolding route_list route_bytes
routes-own n lay h s from = rw (listed-own (costs_in n lay s) n s dearest from (within (workable h) s) (small (workable h)))
