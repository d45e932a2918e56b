-- The loop that adds at the stops of a word: what holds between two turns. Assumes nothing.
use Prim.Native.Nat.{ℕ, ◌+◌}
use mathlib.Core.Path.{◌≡◌}
use mathlib.Core.List.{List}
use lib.ListN.{length, get_or}
use Rattle.routes.proofs.Bits.{Rewriting, rewriting-ends}
use Rattle.row.specs.Paid.{Added}

-- between two turns of that loop
pub record Adding (to psi left : ℕ) (share share' : List ℕ) : Type 0 where
  pub long : length share' ≡ length share
  pub added : Rewriting to left (λ u. get_or share u 0 + psi) (λ u. get_or share u 0) (λ u. get_or share' u 0)

module _ (to psi : ℕ) (share : List ℕ) where
  pub adding-ends : {share' : List ℕ} → Adding to psi 0 share share' → Added to psi share share'
  adding-ends c = rewriting-ends to _ _ c.added
