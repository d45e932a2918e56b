-- A chain that tests the numbers below n. Assumes nothing.
use Prim.Native.Nat.{ℕ, ◌<◌}
use mathlib.Core.Path.{◌≡◌, sym}
use mathlib.Core.Bool.{Bool, true, false}
use native.Mathlib.Nat.{zero-add}
use native.Mathlib.Omega.{arith}
use lib.ListN.{length}
use Rattle.std.specs.Bool.{MatchBool}
use Rattle.std.specs.List.{AllWithin, HoldsAt, range_with_len}
use Rattle.std.proofs.lemmas.List.FromFn.{length-range_with_len, get_or-range_with_len}
use Rattle.routes.specs.Route.{all_to}
use Rattle.routes.proofs.Booleans.{both}
use Rattle.routes.proofs.Sums.{all_true, all_of, is_false}

pub range-tested : (n : ℕ) (p : ℕ → Bool) (r : Bool)
    → MatchBool r (AllWithin (λ u. p u ≡ true) (range_with_len 0 n) 0 (length (range_with_len 0 n))) ((k : ℕ) × (k < length (range_with_len 0 n)) × HoldsAt (λ u. p u ≡ false) (range_with_len 0 n) k)
    → r ≡ all_to n p
range-tested n p true h = sym (all_of n p (λ i l. rw (get_or-range_with_len 0 n i 0 l, zero-add) at (h i 0 (omega arith) (rw (length-range_with_len 0 n) l))))
range-tested n p false h =
    let inside : h.0 < n = rw (length-range_with_len 0 n) at h.1 in
    let fails : p h.0 ≡ false = rw (get_or-range_with_len 0 n h.0 0 inside, zero-add) at (h.2 0) in
    sym (is_false (all_to n p) (λ all. both (all_true n p all h.0 inside) fails))
