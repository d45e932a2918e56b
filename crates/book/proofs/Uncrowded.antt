-- Halls without a crowded pair: every number of ways is at most the limit, as the entries of the table of ways tell, and all tables are
-- those of document 01. Assumes nothing.
use Prim.Native.Nat.{ℕ, suc, ◌<◌, ◌≤◌, min}
use native.Mathlib.Omega.{arith}
use mathlib.Core.Path.{◌≡◌, refl, ◌∙◌, ap}
use mathlib.Core.Bool.{Bool, true, false, cond, not}
use lib.Dec.{ltb, leb}
use borrow.Author.Tests.{le-ltb, le-leb, lt-leb, ltb-true, ltb-false, not-true}
use Rattle.routes.specs.Route.{Costs, list_to, sum_to, all_to, least_time, ways, share, open_share, score}
use Rattle.routes.proofs.Sums.{sum_to-cong, all_true, all_of, all-cong}
use Rattle.routes.proofs.Rows.{list_to-cong}
use Rattle.routes.proofs.Shared.{open-share, open-ways}
use Rattle.book.specs.Hall.{Layout, table, entry, costs_in, filled, crowded_pair, uncrowded}
use Rattle.book.proofs.Tables.{entry-table, table-cong}

-- a pair that is not crowded has at most m ways
pub pair-few : (m n : ℕ) (lay : Layout) (s t : ℕ) → crowded_pair m n lay s t ≡ false → ways (costs_in n lay s) n s t ≤ m
pair-few m n lay s t e = ltb-false m (ways (costs_in n lay s) n s t) e

-- `uncrowded` tells that of all pairs
pub few-ways : (m n : ℕ) (lay : Layout) → uncrowded m n lay ≡ true → (s t : ℕ) → s < n → t < n → ways (costs_in n lay s) n s t ≤ m
unfolding uncrowded
few-ways m n lay e s t k l = pair-few m n lay s t (not-true (crowded_pair m n lay s t) (all_true n _ (all_true n _ e s k) t l))

pub ways-few : (m n : ℕ) (lay : Layout) → ((s t : ℕ) → s < n → t < n → ways (costs_in n lay s) n s t ≤ m) → uncrowded m n lay ≡ true
unfolding uncrowded
ways-few m n lay h = all_of n _ (λ s k. all_of n _ (λ t l. ap not (le-ltb m (ways (costs_in n lay s) n s t) (h s t k l))))

-- a larger limit is kept too
pub few-more : (m m' n : ℕ) (lay : Layout) → m ≤ m' → uncrowded m n lay ≡ true → uncrowded m' n lay ≡ true
few-more m m' n lay more e = ways-few m' n lay (λ s t k l. omega (arith, more, few-ways m n lay e s t k l))

-- the entries of the table of ways, counted up to any larger limit, tell whether a pair has more than m ways
few-entry : (m m' w : ℕ) → m ≤ m' → leb (min (suc m') w) m ≡ not (ltb m w)
few-entry m m' w more = go (ltb m w) refl
  where
    go : (b : Bool) → ltb m w ≡ b → leb (min (suc m') w) m ≡ not b
    go true e = lt-leb (min (suc m') w) m (omega (arith, ltb-true m w e))
    go false e = le-leb (min (suc m') w) m (omega (arith, ltb-false m w e))

-- the entry of a pair: its ways, and of a crowded one m + 1
pub ways-entry : (L m n : ℕ) (lay : Layout) (s t : ℕ) → s < n → t < n →
    entry n (filled L m n lay).ways s t ≡ cond (crowded_pair m n lay s t) (suc m) (ways (costs_in n lay s) n s t)
unfolding filled
ways-entry L m n lay s t k l = entry-table n (λ s t. min (suc m) (ways (costs_in n lay s) n s t)) s t k l ∙ go (crowded_pair m n lay s t) refl
  where
    go : (b : Bool) → crowded_pair m n lay s t ≡ b → min (suc m) (ways (costs_in n lay s) n s t) ≡ cond b (suc m) (ways (costs_in n lay s) n s t)
    go true e = omega (arith, ltb-true m (ways (costs_in n lay s) n s t) e)
    go false e = omega (arith, ltb-false m (ways (costs_in n lay s) n s t) e)

pub few-entries : (L m m' n : ℕ) (lay : Layout) → m ≤ m' → all_to n (λ s. all_to n (λ t. leb (entry n (filled L m' n lay).ways s t) m)) ≡ uncrowded m n lay
unfolding filled uncrowded
few-entries L m m' n lay more =
    all-cong n (λ s k. all-cong n (λ t l. ap (λ x. leb x m) (entry-table n (λ s t. min (suc m') (ways (costs_in n lay s) n s t)) s t k l) ∙
    few-entry m m' (ways (costs_in n lay s) n s t) more))

-- without a crowded pair the tables are document 01's: all ways are counted, and every pair adds to shares
pub open-filled : (L m n : ℕ) (lay : Layout) → uncrowded m n lay ≡ true →
    let C : ℕ → Costs = costs_in n lay in
    filled L m n lay ≡ record {
      layout = lay;
      time = table n (λ s. least_time (C s) n s);
      ways = table n (λ s. ways (C s) n s);
      share = table n (λ s. share (C s) n s L);
      score = list_to n (λ v. sum_to n (λ s. share (C s) n s L v));
    }
unfolding filled score
open-filled L m n lay few = λ i. record {
  layout = lay;
  time = table n (λ s. least_time (C s) n s);
  ways = table-cong n _ _ (λ s t k l. open-ways (C s) n s m (λ t l. few-ways m n lay few s t k l) t l) i;
  share = table-cong n _ _ (λ s v k l. shares s v k) i;
  score = list_to-cong n (λ v l. sum_to-cong n (λ s k. shares s v k)) i;
}
  where
    C : ℕ → Costs
    C = costs_in n lay

    shares : (s v : ℕ) → s < n → open_share (C s) n s m L v ≡ share (C s) n s L v
    shares s v k = open-share (C s) n s m (λ t l. few-ways m n lay few s t k l) L v
