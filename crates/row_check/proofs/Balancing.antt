-- The loop over the links of all stops: what holds between two turns. Assumes nothing.
use Prim.Native.Nat.{ℕ, ◌+◌, ◌^◌, ◌<◌, ◌≤◌}
use mathlib.Core.Path.{◌≡◌, refl, sym, ◌∙◌, ap}
use mathlib.Core.Logic.{◌≢◌}
use mathlib.Core.Bool.{Bool, true, false, cond, not, ◌&&◌}
use mathlib.Core.List.{List, ◌++◌}
use native.Mathlib.Nat.{le_refl, le_antisymm}
use native.Mathlib.Numerals.{add-one}
use native.Mathlib.Omega.{arith}
use lib.Dec.{eqb}
use lib.ListN.{length, set, length-set, length-append, get_or-append}
use lib.Seq.{get_or-set_same, get_or-set_other}
use borrow.Author.Tests.{eqb-true, eqb-false, ne_eqb}
use Rattle.routes.specs.Route.{Costs, link, has, sum_to, mark}
use Rattle.routes.specs.Stored.{Stored}
use Rattle.routes.specs.Equations.{tight, outflow}
use Rattle.routes.proofs.Sums.{below_suc, sum_to-bound, sum_to-le, sum-le, sum_to-cong}
use Rattle.routes.proofs.Stored.{stored-none, stored_more}
use Rattle.routes.proofs.Bits.{split}
use Rattle.links.specs.Promise.{masked_from, via_of}
use Rattle.links.proofs.Masked.{from-link, from-set}
use Rattle.row_check.proofs.Walking.{under}
use Rattle.row_check.specs.Tests.{at}
use Rattle.row_check.specs.Tight.{Balance, Balanced, Kept, Relaxed, Scan, Scans}

-- a choice in a choice
cond-and : (a b : Bool) (x : ℕ) → cond a (cond b x 0) 0 ≡ cond (a && b) x 0
cond-and true b x = refl
cond-and false b x = refl

-- going over the stops: the links of those below u improve no time, their flows stand, and the sums have their ways
module _ (n s : ℕ) (cost passing out time ways psi : List ℕ) where
  abbrev W : Costs
  W = masked_from n s cost passing out

  pub record Balancing (new : List ℕ) (u : ℕ) (sum flow : List ℕ) : Type 0 where
    pub sums : length sum ≡ 64
    pub flows : Stored (outflow W n (at time) (at psi)) u new flow
    pub relaxed : (v : ℕ) → v < u → Relaxed W n time v
    pub summed : (t : ℕ) → t < n → at sum t ≡ sum_to u (λ v. cond (tight W (at time) v t) (at ways v) 0)

  module _ (asked : Balance n s cost passing out time ways psi) where
    -- a link is a set bit, and the way over it takes what it costs
    bit : (u t : ℕ) → u < n → link W u t ≡ has (at out u) t
    bit u t l = from-link n s cost passing out u t (λ g. (asked.linked u t l g).1)

    way : (u t : ℕ) → u < n → has (at out u) t ≡ true → at time u + W u t ≡ via_of n s u cost passing time t
    way u t l g = omega (arith, from-set n s cost passing out u t g (asked.linked u t l g).1)

    pub balancing-starts : (new old : List ℕ) → length old ≡ 64 → ((t : ℕ) → t < 64 → at old t ≡ 0) → Balancing new 0 old new
    unfolding sum_to
    balancing-starts new old e z = record {
      sums = e;
      flows = stored-none _ new;
      relaxed = λ v l. absurd (omega arith);
      summed = λ t l. z t (omega (arith, asked.most));
    }

    pub balancing-asks : {u : ℕ} {new sum flow : List ℕ} → u < n → Balancing new u sum flow → Scan n s u (at out u) cost passing time ways psi sum
    balancing-asks {u} {new} {sum} l b = record {
      most = asked.most;
      source = asked.source;
      inside = l;
      square = asked.square;
      passable = asked.passable;
      below = λ t g. (asked.linked u t l g).0;
      timed = asked.timed;
      counted = asked.counted;
      room = asked.room;
      sums = b.sums;
      light = asked.light;
      quiet = asked.quiet;
      small = λ t k. omega (
        arith,
        asked.in_all,
        b.summed t k,
        sum_to-le u {g = at ways} (λ v _. under (tight W (at time) v t) {x = at ways v} (le_refl (at ways v))),
        sum-le n (at ways) u l,
      );
    }

    -- a link is tight where its bit is set and its way takes the time: the way from a stop of the mark takes longer than any time
    tight-bit : (u t : ℕ) → u < n → t < n → tight W (at time) u t ≡ (has (at out u) t && eqb (via_of n s u cost passing time t) (at time t))
    tight-bit u t l k = rw (bit u t l) (go (has (at out u) t) refl (eqb (at time u) mark) refl)
      where
        go : (b : Bool) → has (at out u) t ≡ b → (a : Bool) → eqb (at time u) mark ≡ a
            → (b && (not a && eqb (at time u + W u t) (at time t))) ≡ (b && eqb (via_of n s u cost passing time t) (at time t))
        go true g true e =
            let some = (asked.linked u t l g).1 in
            sym (ne_eqb (via_of n s u cost passing time t) (at time t) (omega (arith, eqb-true (at time u) mark e, asked.bounded t k)))
        go true g false e = ap (λ x. eqb x (at time t)) (way u t l g)
        go false g a e = refl

    slow : (u : ℕ) → u < n → Kept n s u (at out u) cost passing time → Relaxed W n time u
    slow u l all t k c m = let g = sym (bit u t l) ∙ c in omega (arith, all t g, way u t l g)

    quick : (u : ℕ) → u < n → Relaxed W n time u → Kept n s u (at out u) cost passing time
    quick u l f t g =
        let (k, _) = asked.linked u t l g in
        split (eqb (at time u) mark)
        (λ e. omega (arith, eqb-true (at time u) mark e, asked.bounded t k))
        (λ e. omega (arith, way u t l g, f t k (bit u t l ∙ g) (eqb-false (at time u) mark e)))

    pub balancing-goes : {u f : ℕ} {new sum sum' flow : List ℕ} → u < n → u < length new → Balancing new u sum flow
        → Scans n s u (at out u) cost passing time ways psi sum sum' f → Balancing new (u + 1) sum' (set flow u f)
    unfolding sum_to
    balancing-goes {u} {f} {new} {sum} {sum'} {flow} l m b r = record {
      sums = r.sums;
      flows = stored_more _ u f new flow m (r.flows ∙ sum_to-cong n (λ t k. cond-and (has (at out u) t) (eqb (via_of n s u cost passing time t) (at time t)) (at psi t) ∙ ap (λ b. cond b (at psi t) 0) (sym (tight-bit u t l k)))) b.flows;
      relaxed = rw add-one (below_suc u b.relaxed (slow u l r.kept));
      summed = λ t k. rw add-one (omega (arith, b.summed t k, more t k));
    }
      where
        more : (t : ℕ) → t < n → at sum' t ≡ at sum t + cond (tight W (at time) u t) (at ways u) 0
        more t k =
            r.added t
            ∙ grow (has (at out u) t) (eqb (via_of n s u cost passing time t) (at time t)) (at sum t)
            ∙ ap (λ b. at sum t + cond b (at ways u) 0) (sym (tight-bit u t l k))
          where
            grow : (a b : Bool) (x : ℕ) → cond a (x + cond b (at ways u) 0) x ≡ x + cond (a && b) (at ways u) 0
            grow true b x = refl
            grow false b x = omega arith

    -- the flows stand in front of a list of 64
    pub balancing-ends : {i : ℕ} {new sum front : List ℕ} (rest : List ℕ) → i ≤ n → n ≤ i → length new ≡ n → n + length rest ≡ 64 → Balancing new i sum front
        → Balanced W n s time ways psi (set sum s 1) (set (front ++ rest) s 0)
    balancing-ends {i} {new} {sum} {front} rest l g e f b = record {
      sums = length-set sum s 1 ∙ b.sums;
      room = length-set flow s 0 ∙ wide;
      relaxed = λ u k. b.relaxed u (omega arith);
      one = get_or-set_same sum s 1 0 (omega (arith, b.sums, asked.source, most));
      summed = λ t k d. get_or-set_other sum s t 1 0 d ∙ b.summed t k ∙ ap (λ i. sum_to i (λ v. cond (tight W (at time) v t) (at ways v) 0)) (le_antisymm l g);
      none = none;
      flows = back;
      light = λ u k. split (eqb u s)
          (λ d. rw (eqb-true u s d) (omega (arith, none)))
          (λ d. omega (arith, back u k (eqb-false u s d), most, sum_to-bound n (2 ^ 41) (λ w m. under (tight W (at time) u w) (asked.light w m))));
    }
      where
        most : n ≤ 64
        most = asked.most

        flow : List ℕ
        flow = front ++ rest

        wide : length flow ≡ 64
        wide = omega (arith, length-append front rest, b.flows.long)

        none : at (set flow s 0) s ≡ 0
        none = get_or-set_same flow s 0 0 (omega (arith, wide, asked.source, most))

        back : (u : ℕ) → u < n → u ≢ s → at (set flow s 0) u ≡ outflow W n (at time) (at psi) u
        back u k d = get_or-set_other flow s u 0 0 d ∙ get_or-append front rest 0 u (omega (arith, b.flows.long)) ∙ b.flows.done u (omega arith)
