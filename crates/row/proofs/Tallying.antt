-- The loop that adds up ways over a word: what holds between two turns. Assumes nothing.
use Prim.Native.Nat.{ℕ, suc, ◌+◌, ◌^◌, ◌<◌, ◌≤◌, min}
use mathlib.Core.Path.{◌≡◌}
use mathlib.Core.Bool.{true}
use mathlib.Core.List.{List}
use native.Mathlib.Omega.{arith}
use lib.ListN.{length, get_or}
use Rattle.routes.specs.Route.{has}
use Rattle.routes.specs.Sets.{Popped}
use Rattle.routes.proofs.Bits.{popped-kept, sum-popped, sum-none}
use Rattle.links.specs.Promise.{sum_bound}
use Rattle.row.specs.Steps.{Tally, sum_over}

-- the count and what is left to add, cut at limit + 1, come to the whole sum, cut there
pub record Tallying (limit first set : ℕ) (ways : List ℕ) (left count : ℕ) : Type 0 where
  pub capped : count ≤ suc limit
  pub inside : (t : ℕ) → has left t ≡ true → has set t ≡ true
  pub total : min (suc limit) (count + sum_over ways left) ≡ min (suc limit) (first + sum_over ways set)

module _ (limit first set : ℕ) (ways : List ℕ) (asked : Tally limit first set ways) where
  -- the next predecessor stands in the list, its ways have 16 bits, and the sum with them is within its bound
  pub tallying-adds : {left count t rest : ℕ} → Tallying limit first set ways left count → Popped left t rest
      → (t < length ways) × (get_or ways t 0 < 2 ^ 16) × (count + get_or ways t 0 ≤ sum_bound)
  tallying-adds {left} {count} {t} c p =
      let l = asked.below t (c.inside t p.member) in let w = asked.capped t l in
      (l, omega (arith, asked.few), omega (arith, asked.few, c.capped))

  pub tallying-goes : {left count t rest r : ℕ} → Tallying limit first set ways left count → Popped left t rest
      → r ≡ min (suc limit) (count + get_or ways t 0) → Tallying limit first set ways rest r
  tallying-goes {left} {count} {t} {rest} {r} c p e =
      record {
        capped = omega arith;
        inside = λ u h. c.inside u (popped-kept p u h).0;
        total = omega (arith, c.total, sum-popped (length ways) (λ u. get_or ways u 0) p (asked.below t (c.inside t p.member)));
      }

  pub tallying-ends : {count : ℕ} → Tallying limit first set ways 0 count → count ≡ min (suc limit) (first + sum_over ways set)
  tallying-ends c = omega (arith, c.total, c.capped, sum-none (length ways) (λ u. get_or ways u 0))
