-- The order in which stops are settled: laws of the stops seen and of one more. Assumes nothing.
use Prim.Native.Nat.{ℕ, zero, suc, ◌+◌, ◌<◌, ◌≤◌, suc-le-suc}
use mathlib.Core.Path.{◌≡◌, refl, sym, ◌∙◌}
use mathlib.Core.Bool.{Bool, true, false, cond, ◌||◌, or-true, false≢true}
use native.Mathlib.Nat.{not-suc-le-zero, le_refl}
use native.Mathlib.Omega.{arith}
use lib.Dec.{eqb, ltb}
use borrow.Author.Tests.{eqb-true, eqb-false, eq-eqb, ne_eqb, ltb-true, ltb-false}
use Rattle.routes.specs.Route.{sum_to}
use Rattle.routes.proofs.Booleans.{both}
use Rattle.routes.proofs.Sums.{cond-true, cond-false, below_suc, sum_to-cong, sum_to-add, sum_to-zero, sum_to-pick, sum_to-bound}
use Rattle.routes.proofs.Bits.{split}
use Rattle.row.specs.Settled.{Order, seen}

-- which stops come first is said by those alone
pub seen-cong : (k : ℕ) {o p : ℕ → ℕ} (t : ℕ) → ((i : ℕ) → i < k → o i ≡ p i) → seen o k t ≡ seen p k t
unfolding seen
seen-cong zero t h = refl
seen-cong (suc k) t h = rw (seen-cong k t (λ i l. h i (omega arith)), h k (le_refl (suc k)))

module _ (o : ℕ → ℕ) where
  pub seen_none : (t : ℕ) → seen o 0 t ≡ false
  unfolding seen
  seen_none t = refl

  pub seen_more : (k t : ℕ) → seen o (suc k) t ≡ (seen o k t || eqb t (o k))
  unfolding seen
  seen_more k t = refl

  -- a stop among the first k is among more
  pub seen-grows : (j k t : ℕ) → j ≤ k → seen o j t ≡ true → seen o k t ≡ true
  unfolding seen
  seen-grows zero k t l h = absurd (false≢true h)
  seen-grows (suc j) zero t l h = absurd (not-suc-le-zero l)
  seen-grows (suc j) (suc k) t l h =
      split (eqb j k) (λ e. rw (← eqb-true j k e) h) λ e.
      let other = eqb-false j k e in
      rw (seen-grows (suc j) k t (omega arith) h)

  pub seen_at : (k i : ℕ) → i < k → seen o k (o i) ≡ true
  unfolding seen
  seen_at k i l = seen-grows (suc i) k (o i) l (rw (eq-eqb (o i) (o i) refl) (or-true (seen o i (o i))))

-- no stop yet
pub order-none : (n : ℕ) (D o : ℕ → ℕ) → Order n 0 D o
order-none n D o =
    record { inside = λ i l. absurd (not-suc-le-zero l); fresh = λ i l. absurd (not-suc-le-zero l); sorted = λ i t l. absurd (not-suc-le-zero l) }

-- one more stop, that is new and not nearer than the others
pub order-more : (n k : ℕ) {D o p : ℕ → ℕ} → Order n k D o → ((i : ℕ) → i < k → p i ≡ o i) → p k < n → seen o k (p k) ≡ false
    → ((t : ℕ) → seen o k t ≡ true → D t ≤ D (p k)) → Order n (suc k) D p
order-more n k {D} {o} {p} q same below new last =
    record {
      inside = below_suc k (λ i l. rw (same i l) (q.inside i l)) below;
      fresh = below_suc k (λ i l. before i (p i) (omega arith) ∙ rw (same i l) (q.fresh i l)) (before k (p k) (le_refl k) ∙ new);
      sorted = λ i t l. below_suc {P = λ i. seen p i t ≡ true → D t ≤ D (p i)} k (λ i l h. rw (same i l) (q.sorted i t l (sym (before i t (omega arith)) ∙ h))) (λ h. last t (sym (before k t (le_refl k)) ∙ h)) i l;
    }
  where
    before : (i t : ℕ) → i ≤ k → seen p i t ≡ seen o i t
    before i t l = seen-cong i t (λ j m. same j (omega arith))

-- there are k different stops among the first k
seen-count : (n k : ℕ) (D o : ℕ → ℕ) → Order n k D o → (j : ℕ) → j ≤ k → sum_to n (λ t. cond (seen o j t) 1 0) ≡ j
unfolding seen
seen-count n k D o q zero l = sum_to-zero n (λ t _. refl)
seen-count n k D o q (suc j) l =
    sum_to-cong n (λ t _. apart t (seen o j t) refl (eqb t (o j)) refl)
    ∙ sum_to-add n (λ t. cond (seen o j t) 1 0) (λ t. cond (eqb t (o j)) 1 0)
    ∙ omega (arith, seen-count n k D o q j (omega arith), sum_to-pick n (o j) (λ t. 1) (q.inside j l))
  where
    apart : (t : ℕ) (a : Bool) → seen o j t ≡ a → (e : Bool) → eqb t (o j) ≡ e → cond (a || e) 1 0 ≡ cond a 1 0 + cond e 1 0
    apart t true h true e = absurd (both h (rw (eqb-true t (o j) e) (q.fresh j l)))
    apart t true h false e = refl
    apart t false h true e = refl
    apart t false h false e = refl

module _ (n k : ℕ) {D o : ℕ → ℕ} (q : Order n k D o) where
  -- they are no more than n
  pub order-size : k ≤ n
  order-size = omega (arith, seen-count n k D o q k (le_refl k), sum_to-bound n 1 {f = λ t. cond (seen o k t) 1 0} (λ t _. one (seen o k t)))
    where
      one : (b : Bool) → cond b 1 0 ≤ 1
      one true = omega arith
      one false = omega arith

  -- a stop that comes later is not nearer
  pub order-later : (i t : ℕ) → i < k → seen o k t ≡ true → seen o (suc i) t ≡ false → D (o i) ≤ D t
  unfolding seen
  order-later i t l h f = go k (le_refl k) h
    where
      go : (j : ℕ) → j ≤ k → seen o j t ≡ true → D (o i) ≤ D t
      go zero m g = absurd (false≢true g)
      go (suc j) m g =
          split (seen o j t) (go j (omega arith)) λ e.
          let here = eqb-true t (o j) (rw e at g) in
          split (ltb i j)
          (λ b. rw here (q.sorted j (o i) m (seen_at o j i (ltb-true i j b))))
          λ b. absurd (both (seen-grows o (suc j) (suc i) t (suc-le-suc (ltb-false i j b)) g) f)

-- there is room for one more stop that is new
pub order-room : (n k b : ℕ) {D o : ℕ → ℕ} → Order n k D o → b < n → seen o k b ≡ false → ((t : ℕ) → seen o k t ≡ true → D t ≤ D b) → k < n
order-room n k b {D} {o} q below new last =
    order-size n (suc k) (order-more n k {p = p} q (λ i l. cond-false b (o i) (ne_eqb i k (omega arith))) (rw here below) (rw here new) (λ t h. rw here (last t h)))
  where
    p : ℕ → ℕ
    p i = cond (eqb i k) b (o i)

    here : p k ≡ b
    here = cond-true b (o k) (eq-eqb k k refl)
