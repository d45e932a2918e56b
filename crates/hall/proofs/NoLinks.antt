-- The tables of a hall without links. Assumes nothing.
use Rattle.routes.proofs.Booleans.{bool_iff}
use Prim.Native.Nat.{ℕ, suc, ◌+◌, ◌*◌, ◌/◌, ◌<◌, ◌≤◌, min}
use mathlib.Core.Path.{◌≡◌, refl, sym, ◌∙◌, ap}
use mathlib.Core.Bool.{Bool, true, false, cond, ◌||◌, and-true, ◌&&◌, and-false}
use mathlib.Core.List.{List}
use native.Mathlib.Nat.{mul-zero, div-zero}
use native.Mathlib.Omega.{arith}
use lib.Arith.{digits_lt}
use lib.Dec.{eqb, ltb}
use lib.ListN.{length, replicate, length-replicate, get_or-replicate, set, length-set}
use borrow.Author.Tests.{eqb-true, eq-eqb, ne_eqb, ltb-true, lt-ltb, eqb-false, le-ltb}
use Rattle.routes.specs.Route.{Costs, mark, least_time, ways, through, portion, share, capped_ways, open_share, score}
use Rattle.routes.specs.Equations.{Times, Within}
use Rattle.routes.proofs.Bits.{split}
use Rattle.routes.proofs.Sums.{cond-true, cond-false, sum_to-zero}
use Rattle.routes.proofs.Rows.{list_to-of}
use Rattle.routes.proofs.Times.{times, ways-source, ways-reached}
use Rattle.routes.proofs.Unique.{times-unique}
use Rattle.routes.proofs.Bounds.{open-le}
use Rattle.book.specs.Hall.{laid, Tables, most_ways, scale, entry, costs_in, filled, no_links}
use Rattle.book.proofs.Tables.{table_of, entry_set}
use Rattle.book.specs.Contract.{tables}
use Rattle.book.proofs.Sizes.{Lengths}
use Rattle.hall.specs.Promise.{Diagonal}

module _ (W : Costs) (n s : ℕ) (none : (u v : ℕ) → u < n → v < n → W u v ≡ 0) (inside : s < n) where
  within : Within W n 0
  within u v k l = omega (arith, none u v k l)

  small : n * 0 < mark
  small = omega (arith, mul-zero n)

  alone : Times W n s (λ t. cond (eqb s t) 0 mark)
  alone = record {
    source = cond-true 0 mark (eq-eqb s s refl);
    bounded = λ t l. split (eqb s t) (λ e. rw e (omega arith)) (λ e. rw e (omega arith));
    relaxed = λ u t k l e. absurd (omega (arith, ltb-true 0 (W u t) e, none u t k l));
    supported = λ t l h e. absurd (e (cond-false 0 mark (ne_eqb s t (λ p. h (sym p)))));
  }

  -- a stop is reached from itself alone, in one way
  pub alone-time : (t : ℕ) → t < n → least_time W n s t ≡ cond (eqb s t) 0 mark
  alone-time = times-unique W n s (least_time W n s) (λ t. cond (eqb s t) 0 mark) (times W n s 0 inside within small) alone

  pub alone-ways : (t : ℕ) → t < n → ways W n s t ≡ cond (eqb s t) 1 0
  alone-ways t l =
      split (eqb s t) (λ e. rw (← eqb-true s t e, eq-eqb s s refl) (ways-source W n s 0 inside within small)) λ e.
      let far : least_time W n s t ≡ mark = alone-time t l ∙ cond-false 0 mark e in
      rw e (zero_of (λ h. (ways-reached W n s 0 inside within small t l).0 h far))
    where
      zero_of : {x : ℕ} → (0 < x → ⊥) → x ≡ 0
      zero_of h = omega (arith, h)

  -- no stop has a share
  alone-none : (L v : ℕ) → v < n → share W n s L v ≡ 0
  unfolding share portion
  alone-none L v l =
      split (eqb v s) (λ e. rw e) λ e. rw e (sum_to-zero n {f = portion W n s L v} (λ t k. split (eqb s t) (λ f. rw (← eqb-true s t f, eq-eqb s s refl)) (λ f. far t (eqb t s || eqb t v) (alone-ways t k ∙ cond-false 1 0 f))))
    where
      far : (t : ℕ) (b : Bool) → ways W n s t ≡ 0 → cond b 0 (L * through W n s v t / ways W n s t) ≡ 0
      far t true e = refl
      far t false e = rw e (div-zero _)

  pub alone-capped : (m t : ℕ) → t < n → capped_ways W n s (suc m) t ≡ cond (eqb s t) 1 0
  alone-capped m t l = rw (alone-ways t l) (go (eqb s t))
    where
      go : (b : Bool) → min (suc (suc m)) (cond b 1 0) ≡ cond b 1 0
      go true = omega arith
      go false = omega arith

  pub alone-share : (m L v : ℕ) → v < n → open_share W n s m L v ≡ 0
  alone-share m L v l = omega (arith, open-le W n s m L v, alone-none L v l)

-- the diagonal is x, all else is y
module _ (n x y : ℕ) (old now : List ℕ) (blank : old ≡ replicate (n * n) y) (d : Diagonal n n x old now) where
  length-diagonal : length now ≡ n * n
  length-diagonal = d.long ∙ ap length blank ∙ length-replicate (n * n) y

  entry-diagonal : (s t : ℕ) → s < n → t < n → entry n now s t ≡ cond (eqb s t) x y
  entry-diagonal s t k l =
      let other : entry n old s t ≡ y = rw blank (get_or-replicate (n * n) (s * n + t) y 0 (digits_lt k l)) in
      d.at s t k l ∙ rw (lt-ltb s n k, and-true, other)

-- tables filled so are those of the hall without links, whatever the passing times
module _ (n : ℕ) (passing : List ℕ) where
  abbrev bare : ℕ → Costs
  bare = costs_in n (no_links n passing)

  zero : (s t : ℕ) → s < n → t < n → entry n (replicate (n * n) 0) s t ≡ 0
  zero s t k l = get_or-replicate (n * n) (s * n + t) 0 0 (digits_lt k l)

  none : (s u v : ℕ) → u < n → v < n → bare s u v ≡ 0
  none s u v k l = rw (zero u v k l)

  bare-score : (v : ℕ) → v < n → score bare n most_ways scale v ≡ 0
  unfolding score
  bare-score v l = sum_to-zero n (λ s k. alone-share (bare s) n s (none s) k most_ways scale v l)

  -- tables of these lengths, filled and with their diagonals set
  pub emptied : {t : Tables} {costs times counts shares times' counts' scores : List ℕ} → Lengths n t → costs ≡ replicate (length t.layout.cost) 0 → times ≡ replicate (length t.time) mark →
      counts ≡ replicate (length t.ways) 0 → shares ≡ replicate (length t.share) 0 → Diagonal n n 0 times times' → Diagonal n n 1 counts counts' →
      scores ≡ replicate (length t.score) 0 → tables costs passing times' counts' shares scores ≡ filled scale most_ways n (no_links n passing)
  unfolding filled
  emptied {t} {costs} {times} {counts} {shares} {times'} {counts'} {scores} l a b c s d e z = λ i. record {
    layout = laid ((a ∙ ap (λ k. replicate k 0) l.costs) i) passing;
    time = table_of n (λ s. least_time (bare s) n s) times' (length-diagonal n 0 mark times times' (long mark b l.times) d) (λ s t k l'. entry-diagonal n 0 mark times times' (long mark b l.times) d s t k l' ∙ sym (alone-time (bare s) n s (none s) k t l')) i;
    ways = table_of n (λ s. capped_ways (bare s) n s most_ways) counts' (length-diagonal n 1 0 counts counts' (long 0 c l.counts) e) (λ s t k l'. entry-diagonal n 1 0 counts counts' (long 0 c l.counts) e s t k l' ∙ sym (alone-capped (bare s) n s (none s) k 11 t l')) i;
    share = (long 0 s l.shares ∙ table_of n (λ s. open_share (bare s) n s most_ways scale) (replicate (n * n) 0) (length-replicate (n * n) 0) (λ s t k l'. zero s t k l' ∙ sym (alone-share (bare s) n s (none s) k most_ways scale t l'))) i;
    score = (long 0 z l.scores ∙ list_to-of n (score bare n most_ways scale) 0 (replicate n 0) (length-replicate n 0) (λ v l'. get_or-replicate n v 0 0 l' ∙ sym (bare-score v l'))) i;
  }
    where
      long : {k m : ℕ} {xs : List ℕ} (x : ℕ) → xs ≡ replicate k x → k ≡ m → xs ≡ replicate m x
      long x e f = e ∙ ap (λ k. replicate k x) f

-- the diagonal, place by place
module _ (n x : ℕ) where
  pub diagonal-none : (l : List ℕ) → Diagonal n 0 x l l
  diagonal-none l = record { long = refl; at = λ s t k h. rw (le-ltb s 0 (omega arith), and-false) }

  pub diagonal-more : (k : ℕ) (old now : List ℕ) → k < n → length old ≡ n * n → Diagonal n k x old now → Diagonal n (k + 1) x old (set now (k * n + k) x)
  diagonal-more k old now h e d = record {
    long = length-set now (k * n + k) x ∙ d.long;
    at = λ s t hs ht. entry_set n now k k x s t (d.long ∙ e) h h ht ∙ rw (d.at s t hs ht) (go s t (eqb k s) refl);
  }
    where
      at-k : (a : Bool) (o : ℕ) → cond a x (cond (a && false) x o) ≡ cond (a && true) x o
      at-k true o = refl
      at-k false o = refl

      go : (s t : ℕ) (b : Bool) → eqb k s ≡ b → cond (b && eqb k t) x (cond (eqb s t && ltb s k) x (entry n old s t)) ≡ cond (eqb s t && ltb s (k + 1)) x (entry n old s t)
      go s t true f = rw (← eqb-true k s f, le-ltb k k (omega arith), lt-ltb k (k + 1) (omega arith)) (at-k (eqb k t) (entry n old k t))
      go s t false f =
          let same : ltb s k ≡ ltb s (k + 1) = bool_iff _ _ (λ l. lt-ltb s (k + 1) (omega (arith, ltb-true s k l))) (λ l. lt-ltb s k (omega (arith, ltb-true s (k + 1) l, eqb-false k s f))) in
          rw same

  pub diagonal-end : {k : ℕ} {old now : List ℕ} → n ≤ k → Diagonal n k x old now → Diagonal n n x old now
  diagonal-end {k} {old} h d =
      record { long = d.long; at = λ s t hs ht. d.at s t hs ht ∙ ap (λ b. cond (eqb s t && b) x (entry n old s t)) (lt-ltb s k (omega arith) ∙ sym (lt-ltb s n hs)) }
