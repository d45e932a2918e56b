-- A layout with its links alone: with passing times of 0 every table is by the costs themselves, as in document 01; and what it says that
-- the tables of a layout are also the old ones of its links alone. Assumes nothing.
use Prim.Native.Nat.{ℕ, suc, ◌<◌, min}
use mathlib.Core.Path.{◌≡◌, refl, sym, ◌∙◌, ap}
use mathlib.Core.Bool.{Bool, true, false}
use native.Mathlib.Omega.{arith}
use lib.Dec.{ltb}
use lib.ListN.{get_or, replicate, length-replicate, get_or-replicate, get_or-eq_default}
use borrow.Author.Tests.{ltb-true, ltb-false}
use Rattle.routes.specs.Route.{Costs, list_to, least_time, ways, capped_ways, open_share, score}
use Rattle.routes.proofs.Sums.{sum_to-cong}
use Rattle.routes.proofs.Rows.{list_to-cong}
use Rattle.routes.proofs.Passing.{none_from, fewer-ways, same-share}
use Rattle.book.specs.Hall.{Layout, most_ways, scale, old_most_ways, old_scale, table, entry, costs_in, filled, no_passing, links_alone, right}
use Rattle.book.specs.Call.{with_layout}
use Rattle.book.proofs.Tables.{entry-table, table-cong}
use Rattle.book.proofs.Filled.{right-true}

-- every passing time is 0, also past the last stop
none-zero : (n v : ℕ) → get_or (no_passing n) v 0 ≡ 0
none-zero n v = go (ltb v n) refl
  where
    go : (b : Bool) → ltb v n ≡ b → get_or (no_passing n) v 0 ≡ 0
    go true e = get_or-replicate n v 0 0 (ltb-true v n e)
    go false e = get_or-eq_default (replicate n 0) 0 (omega (arith, length-replicate {A = ℕ} n 0, ltb-false v n e))

-- so from every source the links cost what the table says
pub alone-costs : (n : ℕ) (lay : Layout) (s : ℕ) → costs_in n (links_alone n lay) s ≡ entry n lay.cost
alone-costs n lay s = none_from (entry n lay.cost) (λ v. get_or (no_passing n) v 0) s (none-zero n)

-- and so do the tables
pub alone-filled : (L m n : ℕ) (lay : Layout) →
    let W : Costs = entry n lay.cost in
    filled L m n (links_alone n lay) ≡
    record {
      layout = links_alone n lay;
      time = table n (least_time W n);
      ways = table n (λ s. capped_ways W n s m);
      share = table n (λ s. open_share W n s m L);
      score = list_to n (score (λ s. W) n m L);
    }
unfolding filled
alone-filled L m n lay = λ i. record {
  layout = links_alone n lay;
  time = table n (λ s. least_time (alone-costs n lay s i) n s);
  ways = table n (λ s. capped_ways (alone-costs n lay s i) n s m);
  share = table n (λ s. open_share (alone-costs n lay s i) n s m L);
  score = list_to n (score (λ s. alone-costs n lay s i) n m L);
}

-- where the tables of a layout are also the old ones of its links alone, the quickest routes are the same with and without its passing
-- times: a moving call leaves the tables as they are
module _ (n : ℕ) (lay : Layout) (old : right old_scale old_most_ways n (with_layout (links_alone n lay) (filled scale most_ways n lay)) ≡ true) where
  abbrev alone : ℕ → Costs
  alone = costs_in n (links_alone n lay)

  abbrev C : ℕ → Costs
  C = costs_in n lay

  found : filled old_scale old_most_ways n (links_alone n lay) ≡ with_layout (links_alone n lay) (filled scale most_ways n lay)
  found = (right-true old_scale old_most_ways n (with_layout (links_alone n lay) (filled scale most_ways n lay)) old).1

  same-times : (s t : ℕ) → s < n → t < n → least_time (C s) n s t ≡ least_time (alone s) n s t
  unfolding filled
  same-times s t k l =
      sym (entry-table n (λ s. least_time (C s) n s) s t k l) ∙ sym (ap (λ x. entry n x.time s t) found) ∙ entry-table n (λ s. least_time (alone s) n s) s t k l

  -- the entries of ways, each counted up to its limit
  same-counts : (s t : ℕ) → s < n → t < n → capped_ways (C s) n s most_ways t ≡ capped_ways (alone s) n s old_most_ways t
  unfolding filled
  same-counts s t k l =
      sym (entry-table n (λ s. capped_ways (C s) n s most_ways) s t k l) ∙ sym (ap (λ x. entry n x.ways s t) found) ∙
      entry-table n (λ s. capped_ways (alone s) n s old_most_ways) s t k l

  -- so the ways themselves: passing times make no more of them
  pub same-ways : (s t : ℕ) → s < n → t < n → ways (C s) n s t ≡ ways (alone s) n s t
  same-ways s t k l =
      let times : least_time (C s) n s t ≡ least_time (entry n lay.cost) n s t = same-times s t k l ∙ ap (λ W. least_time W n s t) (alone-costs n lay s) in
      omega (arith, same-counts s t k l, fewer-ways (entry n lay.cost) (λ v. get_or lay.passing v 0) s n t l times, ap (λ W. ways W n s t) (alone-costs n lay s))

  pub same-shares : (m L s v : ℕ) → s < n → open_share (C s) n s m L v ≡ open_share (alone s) n s m L v
  same-shares m L s v k =
      same-share (entry n lay.cost) (λ v. get_or lay.passing v 0) s n
      (λ t l. same-times s t k l ∙ ap (λ W. least_time W n s t) (alone-costs n lay s))
      (λ t l. same-ways s t k l ∙ ap (λ W. ways W n s t) (alone-costs n lay s)) m L v ∙
      sym (ap (λ W. open_share W n s m L v) (alone-costs n lay s))

  pub moved_same : with_layout lay (filled scale most_ways n (links_alone n lay)) ≡ filled scale most_ways n lay
  unfolding filled score
  moved_same = λ i. record {
    layout = lay;
    time = table-cong n _ _ (λ s t k l. sym (same-times s t k l)) i;
    ways = table-cong n _ _ (λ s t k l. ap (min (suc most_ways)) (sym (same-ways s t k l))) i;
    share = table-cong n _ _ (λ s v k l. sym (same-shares most_ways scale s v k)) i;
    score = list_to-cong n (λ v l. sum_to-cong n (λ s k. sym (same-shares most_ways scale s v k))) i;
  }
