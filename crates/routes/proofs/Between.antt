-- Stops strictly between the ends of a pair: a pair whose quickest routes pass none has one way at most, and where all shares are 0 they pass
-- none. Assumes nothing.
use Prim.Native.Nat.{ℕ, zero, suc, ◌+◌, ◌*◌, ◌/◌, ◌<◌, ◌≤◌}
use mathlib.Core.Path.{◌≡◌, refl, sym, ◌∙◌, ap}
use mathlib.Core.Logic.{◌≢◌}
use mathlib.Core.Bool.{Bool, true, false, cond, ◌||◌}
use native.Mathlib.Nat.{le-div_iff_mul-le, le-mul_of_pos_right}
use native.Mathlib.Decide.{ℕ_discrete}
use native.Mathlib.Omega.{arith}
use lib.Dec.{eqb, ltb}
use borrow.Author.Tests.{eqb-true, eqb-false, ne_eqb, le-ltb}
use Rattle.routes.specs.Route.{Costs, sum_to, least_time, ways, through, portion, open_share}
use Rattle.routes.specs.Equations.{tight, inflow}
use Rattle.routes.proofs.Sums.{sum_to-zero, sum_to-pick, sum_to-split, cond-true, cond-false}
use Rattle.routes.proofs.Tight.{tight-true, inflow-zero}
use Rattle.routes.proofs.Flows.{Flows}
use Rattle.routes.proofs.Shared.{through-le}

-- a member of a sum is at most the sum
member-le : (n k : ℕ) (f : ℕ → ℕ) → k < n → f k ≤ sum_to n f
member-le n k f l = omega (arith, sum_to-split n (λ i. eqb i k) f, sum_to-pick n k f l)

module _ (W : Costs) (n s : ℕ) (F : Flows W n s) where
  abbrev D : ℕ → ℕ
  D = least_time W n s

  -- a tight link from u into t leads all ways to u on to t
  tight-through : (u t : ℕ) → u < n → t < n → tight W D u t ≡ true → ways W n s u ≤ through W n s u t
  tight-through u t k l e =
      let apart : t ≢ u = λ same. absurd (omega (arith, (tight-true W D u t e).rises, ap D same)) in
      omega (
        arith,
        F.passed u t k l apart,
        F.own u k,
        member-le n u (λ x. cond (tight W D x t) (through W n s u x) 0) k,
        cond-true (through W n s u u) 0 e,
      )

  -- where no quickest route to t passes a stop on its way, there is one at most, the direct link
  pub none_between : s < n → (t : ℕ) → t < n → ((u : ℕ) → u < n → u ≢ s → u ≢ t → through W n s u t ≡ 0) → ways W n s t ≤ 1
  none_between inside t l none = elim (ℕ_discrete t s) [
    | yes e ↦ omega (arith, ap (ways W n s) e, F.source)
    | no e ↦
        omega (
          arith,
          F.summed t l e,
          sum_to-split n (λ u. eqb u s) into,
          sum_to-pick n s into inside,
          first (tight W D s t),
          sum_to-zero n (λ u k. others u k (eqb u s) refl (tight W D u t) refl),
        )
  ]
    where
      into : ℕ → ℕ
      into u = cond (tight W D u t) (ways W n s u) 0

      first : (b : Bool) → cond b (ways W n s s) 0 ≤ 1
      first true = omega (arith, F.source)
      first false = omega arith

      others : (u : ℕ) → u < n → (a : Bool) → eqb u s ≡ a → (b : Bool) → tight W D u t ≡ b → cond a 0 (cond b (ways W n s u) 0) ≡ 0
      others u k true e b f = refl
      others u k false e false f = refl
      others u k false e true f =
          let apart : u ≢ t = λ same. absurd (omega (arith, (tight-true W D u t f).rises, ap D same)) in
          omega (arith, tight-through u t k l f, none u k (eqb-false u s e) apart)

  -- the one way from s to itself passes no other stop
  pub none-back : s < n → (u : ℕ) → u < n → u ≢ s → through W n s u s ≡ 0
  none-back inside u k a =
      F.passed u s k inside (λ e. a (sym e)) ∙
      inflow-zero W n D (through W n s u) s (λ x i r. absurd (omega (arith, F.times.source)))

  -- where v has no share, no quickest route to t passes it on its way, if the pair is not crowded
  pub none-through : (limit scale : ℕ) → limit ≤ scale → (v t : ℕ) → v < n → t < n → v ≢ s → t ≢ s → t ≢ v → ways W n s t ≤ limit →
      open_share W n s limit scale v ≡ 0 → through W n s v t ≡ 0
  unfolding open_share portion
  none-through limit scale fine v t k l a b c few none = go (through W n s v t) (ways W n s t) refl refl
    where
      adds : ℕ → ℕ
      adds t = cond (crowds t) 0 (portion W n s scale v t)
        where
          crowds : ℕ → Bool
          crowds t = ltb limit (ways W n s t)

      sum : sum_to n adds ≡ 0
      sum = sym (cond-false 0 (sum_to n adds) (ne_eqb v s a)) ∙ none

      nothing : scale * through W n s v t / ways W n s t ≡ 0
      nothing =
          let shown : adds t ≡ scale * through W n s v t / ways W n s t = cond-false 0 _ (le-ltb limit (ways W n s t) few) ∙ rw (ne_eqb t s b, ne_eqb t v c) in
          omega (arith, member-le n t adds l, sum, shown)

      go : (x w : ℕ) → through W n s v t ≡ x → ways W n s t ≡ w → x ≡ 0
      go zero w e f = refl
      go (suc x) zero e f = absurd (omega (arith, through-le W n s F v t k l))
      go (suc x) (suc w) e f =
          let some : 1 * suc w ≤ scale * suc x = omega (arith, le-mul_of_pos_right {m = suc x} scale (omega arith)) in
          let more : 1 ≤ scale * suc x / suc w = (le-div_iff_mul-le {k = suc w} {x = 1} {y = scale * suc x} (omega arith)).1 some in
          absurd (omega (arith, rw (e, f) at nothing))
