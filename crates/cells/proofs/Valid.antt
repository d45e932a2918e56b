-- Costs are valid, by two tests of the whole table, and passing times by one. Assumes nothing.
use Prim.Native.Nat.{ℕ, ◌*◌, ◌<◌}
use mathlib.Core.Path.{◌≡◌, sym, ap}
use mathlib.Core.Bool.{Bool, true, false, ◌&&◌, and-eq-true_iff}
use mathlib.Core.List.{List}
use native.Mathlib.Nat.{zero-add}
use native.Mathlib.Omega.{arith}
use lib.Dec.{eqb, leb}
use lib.ListN.{length, get_or}
use borrow.Author.Tests.{eqb-true, eq-eqb, leb-true, le-leb}
use Rattle.routes.specs.Route.{all_to}
use Rattle.std.specs.Bool.{MatchBool}
use Rattle.std.specs.List.{AllWithin, HoldsAt, range_with_len}
use Rattle.std.proofs.lemmas.List.FromFn.{length-range_with_len, get_or-range_with_len}
use Rattle.routes.proofs.Booleans.{bool_iff, both}
use Rattle.routes.proofs.Sums.{all_true, all_of, is_false}
use Rattle.routes.proofs.Tests.{all-flat}
use Rattle.book.specs.Hall.{largest_cost, largest_passing, entry, valid_costs, valid_passing}
use Rattle.book.proofs.Tables.{valid-costs, costs-valid}
use Rattle.cells.specs.Promise.{none_above}

-- costs are valid where none is above the largest and none stands on the diagonal
pub valid-tests : (n : ℕ) (cost : List ℕ) → length cost ≡ n * n →
    valid_costs n cost ≡ (none_above largest_cost cost && all_to n (λ u. eqb (entry n cost u u) 0))
valid-tests n cost e =
    let high : ℕ → ℕ → Bool = λ u v. leb (entry n cost u v) largest_cost in
    let own : ℕ → Bool = λ u. eqb (entry n cost u u) 0 in
    let parts = and-eq-true_iff (all_to n (λ u. all_to n (high u))) (all_to n own) in
    rw (e, all-flat n n _) (bool_iff (valid_costs n cost) (all_to n (λ u. all_to n (high u)) && all_to n own)
    (λ h. let v = valid-costs n cost h in
    parts.1 (all_of n (λ u. all_to n (high u)) (λ u k. all_of n (high u) (λ t l. le-leb (entry n cost u t) largest_cost (v.most u t k l))), all_of n own (λ u k. eq-eqb (entry n cost u u) 0 (v.own u k))))
    λ h. costs-valid n cost (record {
      most = λ u t k l. leb-true (entry n cost u t) largest_cost (all_true n (high u) (all_true n (λ u. all_to n (high u)) (parts.0 h).0 u k) t l);
      own = λ u k. eqb-true (entry n cost u u) 0 (all_true n own (parts.0 h).1 u k);
    }))

-- passing times are valid where none is above the longest
pub passing-within : (n : ℕ) (passing : List ℕ) → length passing ≡ n → none_above largest_passing passing ≡ valid_passing n passing
unfolding valid_passing
passing-within n passing e = ap (λ k. all_to k (λ v. leb (get_or passing v 0) largest_passing)) e

-- a chain that tests the numbers below n
pub range-tested : (n : ℕ) (p : ℕ → Bool) (r : Bool)
    → MatchBool r (AllWithin (λ u. p u ≡ true) (range_with_len 0 n) 0 (length (range_with_len 0 n))) ((k : ℕ) × (k < length (range_with_len 0 n)) × HoldsAt (λ u. p u ≡ false) (range_with_len 0 n) k)
    → r ≡ all_to n p
range-tested n p true h = sym (all_of n p (λ i l. rw (get_or-range_with_len 0 n i 0 l, zero-add) at (h i 0 (omega arith) (rw (length-range_with_len 0 n) l))))
range-tested n p false h =
    let inside : h.0 < n = rw (length-range_with_len 0 n) at h.1 in
    let fails : p h.0 ≡ false = rw (get_or-range_with_len 0 n h.0 0 inside, zero-add) at (h.2 0) in
    sym (is_false (all_to n p) (λ all. both (all_true n p all h.0 inside) fails))
