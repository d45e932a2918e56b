-- Shares over functions of the stops: stops pass what flows back (ψ) to their predecessors, the last settled first.
-- What holds between two turns, and that a turn keeps it. Assumes nothing.
use Prim.Native.Nat.{ℕ, suc, ◌+◌, ◌*◌, ◌<◌, ◌≤◌}
use mathlib.Core.Path.{◌≡◌, refl, sym, ap, ◌∙◌}
use mathlib.Core.Logic.{◌≢◌}
use mathlib.Core.Bool.{Bool, true, false, cond, not, ◌&&◌, and-true, and-false, and-not_self, or-false, and-eq-true_iff}
use native.Mathlib.Nat.{le_refl, lt_irrefl, add-zero, zero-add, mul-zero}
use native.Mathlib.Omega.{arith}
use lib.Dec.{eqb}
use borrow.Author.Tests.{eqb-true, eqb-false, ne_eqb, not-true}
use Rattle.routes.specs.Route.{Costs, mark, sum_to}
use Rattle.routes.specs.Equations.{tight, outflow}
use Rattle.routes.proofs.Booleans.{both}
use Rattle.routes.proofs.Sums.{cond-true, cond-false, is_false, sum_to-cong, sum_to-zero, sum_to-le, sum_to-add, sum_to-pick}
use Rattle.routes.proofs.Tight.{tight-true}
use Rattle.routes.proofs.Bits.{split}
use Rattle.row.proofs.Order.{order-later, seen_at, seen_more, seen_none}
use Rattle.row.specs.Settled.{Order, seen}

-- t is one of the k stops, and not one of the first i
abbrev pub passed : (ℕ → ℕ) → ℕ → ℕ → ℕ → Bool
passed o k i t = seen o k t && not (seen o i t)

-- what flows back to v from the stops passed
abbrev pub pending : Costs → ℕ → (ℕ → ℕ) → (ℕ → ℕ) → (ℕ → ℕ) → ℕ → ℕ → ℕ → ℕ
pending W n D ψ o k i v = sum_to n (λ x. cond (tight W D v x && passed o k i x) (ψ x) 0)

-- f are the shares where only the first i stops wait: a stop that waits holds what is pending, another its share
pub record Pushing (W : Costs) (n : ℕ) (D σ ψ o : ℕ → ℕ) (k i : ℕ) (f : ℕ → ℕ) : Type 0 where
  pub waiting : (v : ℕ) → v < n → passed o k i v ≡ false → f v ≡ pending W n D ψ o k i v
  pub done : (v : ℕ) → v < n → passed o k i v ≡ true → f v ≡ σ v * outflow W n D ψ v

-- a second test that follows from the first, or only narrows it
absorb : (a b : Bool) (y : ℕ) → (a ≡ true → b ≡ true) → cond (a && b) y 0 ≡ cond a y 0
absorb true b y h = rw (h refl)
absorb false b y h = refl

narrows : (a b : Bool) (y : ℕ) → cond (a && b) y 0 ≤ cond a y 0
narrows true true y = le_refl y
narrows true false y = omega arith
narrows false b y = omega arith

module _ (W : Costs) (n k : ℕ) (D σ ψ o : ℕ → ℕ) (order : Order n k D o)
    (near : (u t : ℕ) → u < n → t < n → D u ≢ mark → D u + W u t < mark)
    (reached : (t : ℕ) → t < n → D t ≢ mark → seen o k t ≡ true) where
  -- before the first turn every stop waits, and nothing is pending
  pub pushing-starts : (f : ℕ → ℕ) → ((v : ℕ) → v < n → f v ≡ 0) → Pushing W n D σ ψ o k k f
  pushing-starts f zeros =
      record {
        waiting = λ v l h. zeros v l ∙ sym (sum_to-zero n λ x _. cond-false {b = tight W D v x && passed o k k x} (ψ x) 0 (rw (and-not_self (seen o k x)) (and-false (tight W D v x))));
        done = λ v l h. absurd (both h (and-not_self (seen o k v)));
      }

  module _ (i : ℕ) (li : i < k) (f : ℕ → ℕ) (state : Pushing W n D σ ψ o k (suc i) f) where
    not-nearer : (x : ℕ) → seen o (suc i) x ≡ true → D x ≤ D (o i)
    not-nearer x h =
        split (seen o i x) (order.sorted i x li) λ e.
        omega (arith, ap D (eqb-true x (o i) (sym (rw e at (seen_more o i x)) ∙ h)))

    -- the stop o i itself, and another stop, in this turn
    here : (passed o k (suc i) (o i) ≡ false) × (passed o k i (o i) ≡ true)
    here = (rw (seen_at o (suc i) i (le_refl (suc i))) (and-false (seen o k (o i))), rw (seen_at o k i li, order.fresh i li))

    other : (x : ℕ) → eqb x (o i) ≡ false → passed o k i x ≡ passed o k (suc i) x
    other x e = rw (seen_more o i x, e) (simp or-false)

    -- a tight link leads from o i to a stop passed, and none from a stop passed to o i
    leads : (x : ℕ) → x < n → tight W D (o i) x ≡ true → passed o k (suc i) x ≡ true
    leads x l h =
        let q = tight-true W D (o i) x h in
        let far : seen o (suc i) x ≡ false = is_false _ (λ g. lt_irrefl (D x) (omega (arith, not-nearer x g, q.rises))) in
        rw (reached x l (λ e. lt_irrefl mark (omega (arith, near (o i) x (order.inside i li) l q.reached, q.exact))), far)

    none-back : (u : ℕ) → passed o k (suc i) u ≡ true → tight W D u (o i) ≡ false
    none-back u h =
        let (g, e) = (and-eq-true_iff (seen o k u) (not (seen o (suc i) u))).0 h in
        is_false _ (λ t. lt_irrefl (D u) (omega (arith, order-later n k order i u li g (not-true _ e), (tight-true W D u (o i) t).rises)))

    -- all that flows back to o i has come
    pub flow-whole : f (o i) ≡ outflow W n D ψ (o i)
    flow-whole =
        state.waiting (o i) (order.inside i li) here.0
        ∙ sum_to-cong n λ x l. absorb (tight W D (o i) x) (passed o k (suc i) x) (ψ x) (leads x l)

    -- one more stop is passed
    pending-more : (u : ℕ) → pending W n D ψ o k i u ≡ pending W n D ψ o k (suc i) u + cond (tight W D u (o i)) (ψ (o i)) 0
    pending-more u =
        sum_to-cong n (λ x _. at x (eqb x (o i)) refl)
        ∙ sum_to-add n (λ x. cond (tight W D u x && passed o k (suc i) x) (ψ x) 0) (λ x. cond (eqb x (o i)) (cond (tight W D u x) (ψ x) 0) 0)
        ∙ ap (λ z. pending W n D ψ o k (suc i) u + z) (sum_to-pick n (o i) (λ x. cond (tight W D u x) (ψ x) 0) (order.inside i li))
      where
        at : (x : ℕ) (e : Bool) → eqb x (o i) ≡ e → cond (tight W D u x && passed o k i x) (ψ x) 0 ≡ cond (tight W D u x && passed o k (suc i) x) (ψ x) 0 + cond e (cond (tight W D u x) (ψ x) 0) 0
        at x true e = rw (eqb-true x (o i) e, here.1, here.0) (simp (and-true, and-false, zero-add))
        at x false e = rw (other x e) (sym (add-zero _))

    -- what comes to a predecessor stays within all that flows back to it
    pub flow-fits : (u : ℕ) → u < n → tight W D u (o i) ≡ true → f u + ψ (o i) ≤ outflow W n D ψ u
    flow-fits u l h =
        omega (
          arith,
          state.waiting u l (is_false _ (λ p. both h (none-back u p))),
          pending-more u,
          cond-true (ψ (o i)) 0 h,
          sum_to-le n {f = λ x. cond (tight W D u x && passed o k i x) (ψ x) 0} {g = λ x. cond (tight W D u x) (ψ x) 0}
              (λ x _. narrows (tight W D u x) (passed o k i x) (ψ x)),
        )

    pub pushes-next : (f' : ℕ → ℕ) → f' (o i) ≡ σ (o i) * f (o i)
        → ((u : ℕ) → u < n → u ≢ o i → f' u ≡ f u + cond (tight W D u (o i)) (ψ (o i)) 0) → Pushing W n D σ ψ o k i f'
    pushes-next f' settled adds = record { waiting = wait; done = finish }
      where
        wait : (v : ℕ) → v < n → passed o k i v ≡ false → f' v ≡ pending W n D ψ o k i v
        wait v l h =
            let away : v ≢ o i = λ e. both here.1 (rw e at h) in
            adds v l away
            ∙ ap (λ z. z + cond (tight W D v (o i)) (ψ (o i)) 0) (state.waiting v l (sym (other v (ne_eqb v (o i) away)) ∙ h))
            ∙ sym (pending-more v)

        finish : (v : ℕ) → v < n → passed o k i v ≡ true → f' v ≡ σ v * outflow W n D ψ v
        finish v l h =
            split (eqb v (o i))
            (λ e. rw (eqb-true v (o i) e) (settled ∙ ap (λ z. σ (o i) * z) flow-whole))
            λ e.
            let before : passed o k (suc i) v ≡ true = sym (other v e) ∙ h in
            omega (arith, adds v l (eqb-false v (o i) e), cond-false (ψ (o i)) 0 (none-back v before), state.done v l before)

  -- after the last turn every stop has its share, also one that is not reached
  pub pushing-ends : (f : ℕ → ℕ) → Pushing W n D σ ψ o k 0 f → (v : ℕ) → v < n → f v ≡ σ v * outflow W n D ψ v
  pushing-ends f state v l =
      split (passed o k 0 v) (state.done v l) λ h.
      let gone : seen o k v ≡ false = sym (and-true (seen o k v)) ∙ rw (seen_none o v) at h in
      let none : (x : ℕ) → tight W D v x ≡ false = λ x. is_false _ (λ t. both (reached v l (tight-true W D v x t).reached) gone) in
      let still : outflow W n D ψ v ≡ 0 = sum_to-zero n (λ x _. cond-false (ψ x) 0 (none x)) in
      state.waiting v l h ∙ sum_to-zero n (λ x _. cond-false {b = tight W D v x && passed o k 0 x} (ψ x) 0 (rw (none x))) ∙ sym (rw (still, mul-zero))
