-- The union of two sets of stops, as `|` gives it. Assumes nothing.
use Prim.Native.Nat.{ℕ, zero, suc, ◌+◌, ◌*◌, ◌^◌, ◌<◌}
use mathlib.Core.Path.{◌≡◌, refl, ◌∙◌}
use mathlib.Core.Bool.{Bool, true, false, cond, ◌||◌}
use native.Mathlib.Omega.{arith}
use lib.Bits.{bit_or, or_block}
use Rattle.routes.specs.Route.{sum_to, set_of}
use Rattle.routes.proofs.Bits.{set_of-lt}
use Rattle.routes.proofs.Sums.{sum_to-zero}

-- the highest stop of two sets, and those below it
top : (k a b r s : ℕ) → r < 2 ^ k → s < 2 ^ k → bit_or (r + a * 2 ^ k) (s + b * 2 ^ k) ≡ bit_or r s + bit_or a b * 2 ^ k
top k a b r s h l =
    let first : r + a * 2 ^ k ≡ a * 2 ^ k + r = omega arith in
    let second : s + b * 2 ^ k ≡ b * 2 ^ k + s = omega arith in
    rw (first, second) (or_block k a b r s h l ∙ omega arith)

bit : Bool → ℕ
bit b = cond b 1 0

place : (k : ℕ) (b : Bool) → cond b (2 ^ k) 0 ≡ bit b * 2 ^ k
unfolding bit
place k true = omega arith
place k false = omega arith

either : (b c : Bool) → bit_or (bit b) (bit c) ≡ bit (b || c)
unfolding bit
either true true = refl
either true false = refl
either false true = refl
either false false = refl

pub set_of-or : (n : ℕ) (p q : ℕ → Bool) → bit_or (set_of n p) (set_of n q) ≡ set_of n (λ s. p s || q s)
unfolding set_of sum_to
set_of-or zero p q = refl
set_of-or (suc n) p q = go (p n) (q n) (set_of-or n p q)
  where
    go : (b c : Bool) → bit_or (set_of n p) (set_of n q) ≡ set_of n (λ s. p s || q s) →
        bit_or (set_of n p + cond b (2 ^ n) 0) (set_of n q + cond c (2 ^ n) 0) ≡ set_of n (λ s. p s || q s) + cond (b || c) (2 ^ n) 0
    go b c below =
        rw (place n b, place n c, place n (b || c)) (top n (bit b) (bit c) (set_of n p) (set_of n q) (set_of-lt n p) (set_of-lt n q) ∙
        rw (below, either b c))

-- the set of no stop
pub set_of-none : (n : ℕ) → set_of n (λ s. false) ≡ 0
unfolding set_of
set_of-none n = sum_to-zero n (λ i l. refl)
