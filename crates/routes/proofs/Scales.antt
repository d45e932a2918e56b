-- By a scale that is k times as large, shares and scores are k times as large, where every number of ways up to the limit divides the
-- scale; and by a larger limit shares are no smaller. Assumes nothing.
use Prim.Native.Nat.{ℕ, zero, suc, ◌*◌, ◌/◌, ◌<◌, ◌≤◌, ◌∣◌}
use native.Mathlib.Nat.{mul-zero, mul_assoc, div-zero, mul-div_assoc, dvd-mul_right_of_dvd}
use native.Mathlib.Omega.{arith}
use mathlib.Core.Path.{◌≡◌, refl, sym, ◌∙◌, ap}
use mathlib.Core.Bool.{Bool, true, false, cond, ◌||◌}
use lib.Dec.{eqb}
use borrow.Author.Tests.{ltb-true, ltb-false}
use Rattle.routes.specs.Route.{Costs, sum_to, ways, through, portion, crowded, open_share, score}
use Rattle.routes.proofs.Sums.{sum_to-cong, sum_to-le, sum_to-mul-left}

module _ (W : Costs) (n L k : ℕ) where
  -- the ways from s to t divide the scale
  abbrev pub Whole : ℕ → ℕ → Type 0
  Whole s t = 0 < ways W n s t → ways W n s t ∣ L

  portion-scaled : (s v t : ℕ) → Whole s t → portion W n s (k * L) v t ≡ k * portion W n s L v t
  unfolding portion
  portion-scaled s v t whole = go (eqb t s || eqb t v)
    where
      over : ℕ
      over = through W n s v t

      quotient : (w : ℕ) → (0 < w → w ∣ L) → k * L * over / w ≡ k * (L * over / w)
      quotient zero h = div-zero (k * L * over) ∙ sym (ap (λ x. k * x) (div-zero (L * over)) ∙ mul-zero k)
      quotient (suc w) h = ap (λ x. x / suc w) (mul_assoc k L over) ∙ mul-div_assoc (suc w) k (dvd-mul_right_of_dvd (suc w) (h (omega arith)) over)

      go : (b : Bool) → cond b 0 (k * L * over / ways W n s t) ≡ k * cond b 0 (L * over / ways W n s t)
      go true = sym (mul-zero k)
      go false = quotient (ways W n s t) whole

-- C s being the costs on routes from s
module _ (n limit L k : ℕ) (whole : (w : ℕ) → 0 < w → w ≤ limit → w ∣ L) where
  pub share-scaled : (W : Costs) (s v : ℕ) → open_share W n s limit (k * L) v ≡ k * open_share W n s limit L v
  unfolding open_share
  share-scaled W s v = go (eqb v s)
    where
      part : (t : ℕ) (b : Bool) → crowded W n s limit t ≡ b → cond b 0 (portion W n s (k * L) v t) ≡ k * cond b 0 (portion W n s L v t)
      part t true e = sym (mul-zero k)
      part t false e = portion-scaled W n L k s v t (λ some. whole (ways W n s t) some (ltb-false limit (ways W n s t) e))

      go : (b : Bool) → cond b 0 (sum_to n (λ t. cond (crowded W n s limit t) 0 (portion W n s (k * L) v t))) ≡
          k * cond b 0 (sum_to n (λ t. cond (crowded W n s limit t) 0 (portion W n s L v t)))
      go true = sym (mul-zero k)
      go false = sum_to-cong n (λ t l. part t (crowded W n s limit t) refl) ∙ sum_to-mul-left n k (λ t. cond (crowded W n s limit t) 0 (portion W n s L v t))

  pub score-scaled : (C : ℕ → Costs) (v : ℕ) → score C n limit (k * L) v ≡ k * score C n limit L v
  unfolding score
  score-scaled C v = sum_to-cong n (λ s l. share-scaled (C s) s v) ∙ sum_to-mul-left n k (λ s. open_share (C s) n s limit L v)

-- by a larger limit no pair that adds is left out
pub share-more : (W : Costs) (n s limit limit' scale v : ℕ) → limit ≤ limit' → open_share W n s limit scale v ≤ open_share W n s limit' scale v
unfolding open_share
share-more W n s limit limit' scale v more = go (eqb v s)
  where
    part : (t : ℕ) (b b' : Bool) → crowded W n s limit t ≡ b → crowded W n s limit' t ≡ b' → cond b 0 (portion W n s scale v t) ≤ cond b' 0 (portion W n s scale v t)
    part t true b' e e' = omega arith
    part t false false e e' = omega arith
    part t false true e e' = absurd (omega (arith, ltb-false limit (ways W n s t) e, ltb-true limit' (ways W n s t) e'))

    go : (b : Bool) → cond b 0 (sum_to n (λ t. cond (crowded W n s limit t) 0 (portion W n s scale v t))) ≤
        cond b 0 (sum_to n (λ t. cond (crowded W n s limit' t) 0 (portion W n s scale v t)))
    go true = omega arith
    go false = sum_to-le n (λ t l. part t (crowded W n s limit t) (crowded W n s limit' t) refl refl)
