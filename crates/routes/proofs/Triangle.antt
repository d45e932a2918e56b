-- The triangle law: going on from u by the least times from there is no quicker than the least time.
-- Assumes nothing.
use Prim.Native.Nat.{ℕ, suc, ◌+◌, ◌<◌, ◌≤◌}
use mathlib.Core.Path.{◌≡◌, ap}
use mathlib.Core.Bool.{true}
use native.Mathlib.Nat.{le_refl}
use native.Mathlib.Decide.{ℕ_discrete}
use native.Mathlib.Omega.{arith}
use borrow.Author.Tests.{lt-ltb, ltb-true}
use Rattle.routes.specs.Route.{Costs, mark}
use Rattle.routes.specs.Equations.{Times, tight}
use Rattle.routes.proofs.Tight.{Tight, tight-true, up-ind}

-- with times from u below m by costs W', if W has the links that are tight there, at no higher cost
pub triangle-below : (W W' : Costs) (n s u m : ℕ) (d e : ℕ → ℕ) → Times W n s d → Times W' n u e →
    ((a t : ℕ) → a < n → t < n → e t < m → tight W' e a t ≡ true → (0 < W a t) × (W a t ≤ W' a t)) →
    (t : ℕ) → t < n → e t < m → d t ≤ d u + e t
triangle-below W W' n s u m d e T U kept =
    up-ind e n (λ t l ih h. elim (ℕ_discrete t u) [
      | yes p ↦ omega (arith, ap d p)
      | no p ↦ elim (ℕ_discrete (e t) mark) [
        | yes q ↦ omega (arith, T.bounded t l)
        | no q ↦ over t l h ih (U.supported t l p q)
      ]
    ])
  where
    over : (t : ℕ) → t < n → e t < m → ((a : ℕ) → a < n → e a < e t → e a < m → d a ≤ d u + e a) →
        (a : ℕ) × (a < n) × (tight W' e a t ≡ true) → d t ≤ d u + e t
    over t l h ih (a, k, tightness) =
        let f : Tight W' e a t = tight-true W' e a t tightness in
        let below : d a ≤ d u + e a = ih a k f.rises (omega arith) in
        let (linked, less) = kept a t k l h tightness in
        elim (ℕ_discrete (d a) mark) [
          | yes p ↦ omega (arith, T.bounded t l)
          | no p ↦ omega (arith, T.relaxed a t k l (lt-ltb 0 (W a t) linked) p)
        ]

-- by the same costs
pub triangle : (W : Costs) (n s u : ℕ) (d e : ℕ → ℕ) → Times W n s d → Times W n u e →
    (t : ℕ) → t < n → d t ≤ d u + e t
triangle W n s u d e T U t l =
    triangle-below
    W
    W
    n
    s
    u
    (suc mark)
    d
    e
    T
    U
    (λ a t k l h f. (ltb-true 0 (W a t) (tight-true W e a t f).linked, le_refl (W a t)))
    t
    l
    (omega (arith, U.bounded t l))
