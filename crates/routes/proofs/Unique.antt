-- A row of times, ways and shares is the only one that meets its equations. Assumes nothing.
use Prim.Native.Nat.{ℕ, suc, ◌+◌, ◌*◌, ◌<◌, ◌≤◌, min}
use mathlib.Core.Path.{◌≡◌, sym, ◌∙◌, ap, ap₂}
use native.Mathlib.Nat.{le_antisymm}
use native.Mathlib.Decide.{ℕ_discrete}
use native.Mathlib.Omega.{arith}
use Rattle.routes.specs.Route.{Costs, mark}
use Rattle.routes.specs.Equations.{Times, Counts, Shares, outflow, quotient}
use Rattle.routes.proofs.Triangle.{triangle}
use Rattle.routes.proofs.Tight.{SameTight, same-tight, inflow-unique, outflow-unique, outflow-cong}

-- relaxed times are nowhere above supported times
pub times-le : (W : Costs) (n s : ℕ) (d d' : ℕ → ℕ) → Times W n s d → Times W n s d' → (t : ℕ) → t < n → d t ≤ d' t
times-le W n s d d' T T' t l = omega (arith, T.source, triangle W n s s d d' T T' t l)

-- E1 has one solution
pub times-unique : (W : Costs) (n s : ℕ) (d d' : ℕ → ℕ) → Times W n s d → Times W n s d' → (t : ℕ) → t < n → d t ≡ d' t
times-unique W n s d d' T T' t l = le_antisymm (times-le W n s d d' T T' t l) (times-le W n s d' d T' T t l)

module _ (W : Costs) (d : ℕ → ℕ) (W' : Costs) (d' : ℕ → ℕ) (n : ℕ) (same : SameTight W d W' d' n) where
  -- E2 has one solution
  pub counts-unique : (s limit : ℕ) (σ σ' : ℕ → ℕ) → Counts W n s limit d σ → Counts W' n s limit d' σ' →
      (t : ℕ) → t < n → σ t ≡ σ' t
  counts-unique s limit σ σ' C C' =
      inflow-unique
      W
      d
      W'
      d'
      n
      same
      (λ t x. min (suc limit) x)
      s
      σ
      σ'
      (C.source ∙ sym C'.source)
      C.summed
      C'.summed

  -- E3 has one solution
  pub shares-unique : (s limit scale : ℕ) (σ ψ δ σ' ψ' δ' : ℕ → ℕ) → ((t : ℕ) → t < n → d t ≤ mark) →
      ((t : ℕ) → t < n → σ t ≡ σ' t) → Shares W n s limit scale d σ ψ δ → Shares W' n s limit scale d' σ' ψ' δ' →
      (v : ℕ) → v < n → (ψ v ≡ ψ' v) × (δ v ≡ δ' v)
  shares-unique s limit scale σ ψ δ σ' ψ' δ' top e S S' v l = (
    back v l,
    elim (ℕ_discrete v s) [
      | yes p ↦ ap δ p ∙ S.source ∙ sym (ap δ' p ∙ S'.source)
      | no p ↦
          S.shared v l p
          ∙ ap₂ ◌*◌ (e v l) (outflow-cong W d W' d' n same ψ ψ' v l (λ w k r. back w k))
          ∙ sym (S'.shared v l p)
    ],
  )
    where
      back : (v : ℕ) → v < n → ψ v ≡ ψ' v
      back =
          outflow-unique
          W
          d
          W'
          d'
          n
          same
          (λ v x. quotient limit scale (σ v) + x)
          ψ
          ψ'
          mark
          top
          S.flowing
          (λ v l. S'.flowing v l ∙ ap (λ y. quotient limit scale y + outflow W' n d' ψ' v) (sym (e v l)))

-- a row of times, ways up to the limit and shares that meets the equations, with some ψ
pub record Row (W : Costs) (n s limit scale : ℕ) (d σ δ : ℕ → ℕ) : Type 0 where
  pub ψ : ℕ → ℕ
  pub times : Times W n s d
  pub counts : Counts W n s limit d σ
  pub shares : Shares W n s limit scale d σ ψ δ

-- there is one row
module _
    (W : Costs)
    (n s limit scale : ℕ)
    (d σ δ d' σ' δ' : ℕ → ℕ)
    (R : Row W n s limit scale d σ δ)
    (R' : Row W n s limit scale d' σ' δ')
  where
    row-times : (t : ℕ) → t < n → d t ≡ d' t
    row-times = times-unique W n s d d' R.times R'.times

    row_counts : (t : ℕ) → t < n → σ t ≡ σ' t
    row_counts = counts-unique W d W d' n (same-tight W d d' n row-times) s limit σ σ' R.counts R'.counts

    pub row-unique : (t : ℕ) → t < n → (d t ≡ d' t) × (σ t ≡ σ' t) × (δ t ≡ δ' t)
    row-unique t l = (
      row-times t l,
      row_counts t l,
      (shares-unique
          W
          d
          W
          d'
          n
          (same-tight W d d' n row-times)
          s
          limit
          scale
          σ
          R.ψ
          δ
          σ'
          R'.ψ
          δ'
          R.times.bounded
          row_counts
          R.shares
          R'.shares
          t
          l).1,
    )
