-- The settle loop on lists and words: what holds between two turns. Assumes nothing.
use Prim.Native.Nat.{ℕ, suc, ◌+◌, ◌-◌, ◌*◌, ◌^◌, ◌<◌, ◌≤◌, min}
use mathlib.Core.Path.{◌≡◌, refl, sym, ap, ap₂, ◌∙◌, subst⁻¹}
use mathlib.Core.Logic.{◌≢◌}
use mathlib.Core.Bool.{Bool, true, false, cond, not, ◌&&◌, ◌||◌, and-true, and-false, or-true, and-eq-true_iff}
use mathlib.Core.List.{List, [], ◌∷◌, ◌++◌}
use native.Mathlib.Nat.{lt_of_le_of_lt}
use native.Mathlib.Numerals.{add-one}
use native.Mathlib.Omega.{arith}
use lib.Bits.{bit_and, bit_or, or_lt, and_le_l, and_le_r}
use lib.Dec.{eqb, ltb, leb, lit<}
use lib.ListN.{length, get_or, set, length-set, length-append, get_or-append}
use lib.Pow.{pow-lt}
use lib.Seq.{get_or-set_same, get_or-set_other}
use Rattle.std.proofs.lemmas.List.{get_or_push}
use borrow.Author.Tests.{eqb-true}
use Rattle.routes.specs.Route.{Costs, mark, link, sum_to, has, least_time, capped_ways}
use Rattle.routes.specs.Equations.{Within, Times, Counts}
use Rattle.routes.proofs.Booleans.{both}
use Rattle.routes.proofs.Times.{times, least-bound}
use Rattle.routes.proofs.Ways.{counts}
use Rattle.routes.proofs.Bits.{split, has-and, has-or, has-not, has-pow, has-none}
use Rattle.links.specs.Promise.{dearest, masked_from, via_of}
use Rattle.links.specs.Work.{Linked}
use Rattle.links.proofs.Masked.{from-link, from-set, masked_small, masked-within, stay-le}
use Rattle.row.proofs.Order.{order-more, order-none, order-room, seen-cong, seen_more, seen_none}
use Rattle.row.proofs.Settling.{Settling, b-reached, b-right, b-waits, ends-counted, ends-settled, ends-timed, settled-first, settles-next, settling-starts}
use Rattle.row.specs.Settled.{Begun, Order, Settled, seen}
use Rattle.row.specs.Steps.{Nearest, Offered, Offers, joined_by, sum_over}

-- a stop leaves a set before others join it, of which it is none, or behind them
but-one : (f e k d : Bool) → (e ≡ true → d ≡ true) → ((f && not e) || (k && not d)) ≡ ((f || (k && not d)) && not e)
but-one f true k d h = rw (h refl, and-false f, and-false k, and-false)
but-one f false k d h = rw (and-true f, and-true)

-- the lists and words between two turns
pub record Turn (n s limit : ℕ) (cost passing out time ways pred order : List ℕ) (done frontier k : ℕ) : Type 0 where
  pub timed : length time ≡ n
  pub counted : length ways ≡ n
  pub room : length pred ≡ 64
  pub queue : length order ≡ k
  pub word : done < 2 ^ 64
  pub front : frontier < 2 ^ 64
  pub below : (t : ℕ) → has frontier t ≡ true → t < n
  pub behind : (t u : ℕ) → t < n → has (get_or pred t 0) u ≡ true → u < n
  pub state : Settling (masked_from n s cost passing out) n s (least_time (masked_from n s cost passing out) n s) (capped_ways (masked_from n s cost passing out) n s limit)
      (has done) (has frontier) (λ t u. has (get_or pred t 0) u) (λ t. get_or time t 0) (λ t. get_or ways t 0)
  pub ordered : Order n k (least_time (masked_from n s cost passing out) n s) (λ i. get_or order i 0)
  pub settled : (t : ℕ) → has done t ≡ seen (λ i. get_or order i 0) k t

-- the members of the word that `predecessors` makes
has-joined : (v x b p u : ℕ) → has (joined_by v x (2 ^ b) p) u ≡ (cond (ltb v x) false (has p u) || (leb v x && eqb u b))
has-joined v x b p u = has-or (cond (ltb v x) 0 p) (cond (leb v x) (2 ^ b) 0) u ∙ ap₂ ◌||◌ (kept (ltb v x)) (more (leb v x))
  where
    kept : (c : Bool) → has (cond c 0 p) u ≡ cond c false (has p u)
    kept true = has-none u
    kept false = refl

    more : (c : Bool) → has (cond c (2 ^ b) 0) u ≡ (c && eqb u b)
    more true = has-pow b u
    more false = has-none u

-- a member other than the new one was there before
old-parent : (f l p m e : Bool) → cond f (cond l false p || (m && e)) p ≡ true → e ≡ false → p ≡ true
old-parent f l true m e h z = refl
old-parent f l false m e h z = absurd (both h (rw z (none f l m)))
  where
    none : (f l m : Bool) → cond f (cond l false false || (m && false)) false ≡ false
    none true true true = refl
    none true true false = refl
    none true false true = refl
    none true false false = refl
    none false l m = refl

module _ (n s limit : ℕ) (cost passing out : List ℕ) (source : s < n) (a : Linked n cost passing out) (few : limit ≤ 22) where
  abbrev W : Costs
  W = masked_from n s cost passing out

  abbrev D : ℕ → ℕ
  D = least_time W n s

  abbrev σ : ℕ → ℕ
  σ = capped_ways W n s limit

  costs-within : Within W n dearest
  costs-within = masked-within n s cost passing out a.cheap a.brief

  small : n * dearest < mark
  small = masked_small n a.most

  E1 : Times W n s D
  E1 = times W n s dearest source costs-within small

  E2 : Counts W n s limit D σ
  E2 = counts W n s dearest source costs-within small limit

  pub near : (u t : ℕ) → u < n → t < n → D u ≢ mark → D u + W u t < mark
  near u t lu lt r = omega (arith, least-bound W n s dearest source costs-within small u lu r, costs-within u t lu lt, a.most)

  one_word : (t : ℕ) → t < n → 2 ^ t < 2 ^ 64
  one_word t l = pow-lt {i = t} {j = 64} (omega (arith, a.most))

  -- before the first turn
  pub turn-starts : {time ways pred : List ℕ} → Begun n s time ways pred → Turn n s limit cost passing out time ways pred [] 0 (2 ^ s) 0
  turn-starts {time} {ways} {pred} c =
      record {
        timed = c.timed;
        counted = c.counted;
        room = c.room;
        queue = refl;
        word = lit< tt;
        front = one_word s source;
        below = λ t h. rw (eqb-true t s (sym (has-pow s t) ∙ h)) source;
        behind = λ t u l h. absurd (both h (none t u));
        state = settling-starts W n s limit D σ E1 E2 near (has 0) (has (2 ^ s)) (λ t u. has (get_or pred t 0) u) (λ t. get_or time t 0) (λ t. get_or ways t 0)
            source has-none (λ t _. has-pow s t) (λ t u _. none t u) c.times c.counts;
        ordered = order-none n D (λ i. get_or [] i 0);
        settled = λ t. has-none t ∙ sym (seen_none (λ i. get_or [] i 0) t);
      }
    where
      none : (t u : ℕ) → has (get_or pred t 0) u ≡ false
      none t u = rw (c.preds t) (has-none u)

  -- a turn settles the nearest stop b of the frontier
  module _ (time ways pred order : List ℕ) (done frontier k b : ℕ) (turn : Turn n s limit cost passing out time ways pred order done frontier k) (q : Nearest time frontier b) where
    pub turn_inside : b < n
    turn_inside = turn.below b q.member

    low : (t : ℕ) → t < n → has frontier t ≡ true → get_or time b 0 ≤ get_or time t 0
    low t l h = q.least t h

    turn-waits : has done b ≡ false
    turn-waits = (b-waits W n s limit D σ E1 E2 near _ _ _ _ _ turn.state b turn_inside q.member low).0

    turn-right : get_or time b 0 ≡ D b
    turn-right = b-right W n s limit D σ E1 E2 near _ _ _ _ _ turn.state b turn_inside q.member low

    turn-reached : D b ≢ mark
    turn-reached = b-reached W n s limit D σ E1 E2 near _ _ _ _ _ turn.state b turn_inside q.member low

    turn-new : seen (λ i. get_or order i 0) k b ≡ false
    turn-new = sym (turn.settled b) ∙ turn-waits

    turn_last : (t : ℕ) → seen (λ i. get_or order i 0) k t ≡ true → D t ≤ D b
    turn_last t h = settled-first W n s limit D σ E1 E2 near _ _ _ _ _ turn.state t b turn_inside (turn.settled t ∙ h) turn-waits turn-right

    -- the order has room for it
    pub turn-room : k < n
    turn-room = order-room n k b turn.ordered turn_inside turn-new turn_last

    -- its place in every list, and room for it in the order
    pub turn-bounds : (b < 64) × (b < length ways) × (b < length pred) × (length order < 64)
    turn-bounds =
        let l = turn_inside in
        let r = turn-room in
        (omega (arith, a.most), omega (arith, turn.counted), omega (arith, turn.room, a.most), omega (arith, turn.queue, a.most))

    -- the stops to which it offers its links
    module _ (bit done' fresh : ℕ) (one : bit ≡ 2 ^ b) (marks : done' ≡ bit_or done bit) (takes : fresh ≡ bit_and (get_or out b 0) ((2 ^ 64 - 1) - done')) where
      settles : (t : ℕ) → has done' t ≡ (has done t || eqb t b)
      settles t = rw (marks, one) (has-or done (2 ^ b) t ∙ ap (λ x. has done t || x) (has-pow b t))

      word' : done' < 2 ^ 64
      word' = rw (marks, one) (or_lt 64 done (2 ^ b) turn.word (one_word b turn_inside))

      fresh_at : (t : ℕ) → t < n → has fresh t ≡ (link W b t && not (has done' t))
      fresh_at t l = rw (takes, has-and, has-not 64 done' t word' (omega (arith, a.most)), from-link n s cost passing out b t (λ h. (a.linked b t turn_inside h).1))

      fresh-link : (t : ℕ) → has fresh t ≡ true → has (get_or out b 0) t ≡ true
      fresh-link t h = ((and-eq-true_iff (has (get_or out b 0) t) _).0 (sym (has-and (get_or out b 0) ((2 ^ 64 - 1) - done') t) ∙ rw takes at h)).0

      via-at : (t : ℕ) → has fresh t ≡ true → via_of n s b cost passing time t ≡ get_or time b 0 + W b t
      via-at t h =
          let k = fresh-link t h in
          omega (arith, from-set n s cost passing out b t k (a.linked b t turn_inside k).1)

      fresh-word : fresh < 2 ^ 64
      fresh-word = rw takes (lt_of_le_of_lt (and_le_r (get_or out b 0) _) (omega arith))

      pub turn-offers : Offers n s b fresh cost passing time pred
      turn-offers =
          record {
            most = a.most;
            inside = turn_inside;
            square = a.square;
            passable = a.passable;
            timed = turn.timed;
            room = turn.room;
            below = λ t h. (a.linked b t turn_inside (fresh-link t h)).0;
            leaves = omega (arith, turn-right, least-bound W n s dearest source costs-within small b turn_inside turn-reached, a.most, stay-le s passing b, a.brief b turn_inside);
            fits = λ t h.
                let l = (a.linked b t turn_inside (fresh-link t h)).0 in
                omega (arith, via-at t h, turn-right, near b t turn_inside l turn-reached);
          }

      -- the turn keeps what holds
      module _ (time' pred' : List ℕ) (count frontier' : ℕ) (counts : count ≡ min (suc limit) (get_or ways b 0 + sum_over ways (get_or pred b 0)))
          (offered : Offered n s b fresh cost passing time pred time' pred') (timed' : length time' ≡ length time) (room' : length pred' ≡ length pred)
          (moves : frontier' ≡ bit_or (bit_and frontier ((2 ^ 64 - 1) - bit)) fresh) where
        lowers : (t : ℕ) → t < n → get_or time' t 0 ≡ cond (link W b t && not (has done' t)) (min (get_or time b 0 + W b t) (get_or time t 0)) (get_or time t 0)
        lowers t l =
            offered.times t
            ∙ split (has fresh t) (λ h. rw (h, sym (fresh_at t l) ∙ h, via-at t h)) (λ h. rw (h, sym (fresh_at t l) ∙ h))

        joins : (t u : ℕ) → t < n → has (get_or pred' t 0) u ≡ cond (link W b t && not (has done' t))
            (cond (ltb (get_or time b 0 + W b t) (get_or time t 0)) false (has (get_or pred t 0) u) || (leb (get_or time b 0 + W b t) (get_or time t 0) && eqb u b)) (has (get_or pred t 0) u)
        joins t u l =
            ap (λ x. has x u) (offered.preds t)
            ∙ split (has fresh t)
            (λ h. rw (h, sym (fresh_at t l) ∙ h, via-at t h) (has-joined (get_or time b 0 + W b t) (get_or time t 0) b (get_or pred t 0) u))
            (λ h. rw (h, sym (fresh_at t l) ∙ h))

        front_at : (t : ℕ) → t < n → has frontier' t ≡ ((has frontier t || (link W b t && not (has done' t))) && not (eqb t b))
        front_at t l =
            rw (moves, one, has-or, has-and, has-not 64 (2 ^ b) t (one_word b turn_inside) (omega (arith, a.most)), has-pow, fresh_at t l)
            (but-one (has frontier t) (eqb t b) (link W b t) (has done' t) (λ e. settles t ∙ rw e (or-true (has done t))))

        below' : (t : ℕ) → has frontier' t ≡ true → t < n
        below' t h =
            split (has frontier t) (turn.below t) λ f.
            (a.linked b t turn_inside (fresh-link t (sym (has-or (bit_and frontier _) fresh t ∙ rw (has-and, f)) ∙ rw moves at h))).0

        behind' : (t u : ℕ) → t < n → has (get_or pred' t 0) u ≡ true → u < n
        behind' t u l h =
            split (eqb u b) (λ e. rw (eqb-true u b e) turn_inside) λ e.
            turn.behind t u l
            (old-parent (link W b t && not (has done' t)) (ltb (get_or time b 0 + W b t) (get_or time t 0)) (has (get_or pred t 0) u)
            (leb (get_or time b 0 + W b t) (get_or time t 0)) (eqb u b) (sym (joins t u l) ∙ h) e)

        here : get_or (order ++ b ∷ []) k 0 ≡ b
        here = get_or_push order b 0 k turn.queue

        before : (i : ℕ) → i < k → get_or (order ++ b ∷ []) i 0 ≡ get_or order i 0
        before i l = get_or-append order (b ∷ []) 0 i (omega (arith, turn.queue))

        ordered' : Order n (suc k) D (λ i. get_or (order ++ b ∷ []) i 0)
        ordered' =
            order-more n k turn.ordered before (rw here turn_inside) (rw here turn-new) (λ t h. rw here (turn_last t h))

        settled' : (t : ℕ) → has done' t ≡ seen (λ i. get_or (order ++ b ∷ []) i 0) (suc k) t
        settled' t =
            settles t ∙ rw (turn.settled t)
            (sym (seen_more (λ i. get_or (order ++ b ∷ []) i 0) k t ∙ rw (here, seen-cong k t before)))

        pub turn-goes : Turn n s limit cost passing out time' (set ways b count) pred' (order ++ b ∷ []) done' frontier' (k + 1)
        turn-goes = subst⁻¹ (λ j. Turn n s limit cost passing out time' (set ways b count) pred' (order ++ b ∷ []) done' frontier' j) (add-one k)
            record {
              timed = timed' ∙ turn.timed;
              counted = length-set ways b count ∙ turn.counted;
              room = room' ∙ turn.room;
              queue = omega (arith, length-append order (b ∷ []), turn.queue);
              word = word';
              front = rw moves (or_lt 64 (bit_and frontier _) fresh (lt_of_le_of_lt (and_le_l frontier _) turn.front) fresh-word);
              below = below';
              behind = behind';
              state = settles-next W n s limit D σ E1 E2 near _ _ _ _ _ turn.state b turn_inside q.member low
                  (has done') (has frontier') (λ t u. has (get_or pred' t 0) u) (λ t. get_or time' t 0) (λ t. get_or (set ways b count) t 0) source
                  settles (get_or-set_same ways b count 0 turn-bounds.1 ∙ counts ∙ ap (λ m. min (suc limit) (get_or ways b 0 + sum_to m (λ u. cond (has (get_or pred b 0) u) (get_or ways u 0) 0))) turn.counted) (λ t e. get_or-set_other ways b t count 0 e) lowers (λ t u l _. joins t u l) front_at;
              ordered = ordered';
              settled = settled';
            }

  -- after the last turn
  pub turn-ends : {time ways pred order : List ℕ} {done k : ℕ} → Turn n s limit cost passing out time ways pred order done 0 k → Settled W n s limit time ways pred order k
  turn-ends {time} {ways} {pred} {order} {done} {k} c =
      record {
        times = ends-timed W n s limit D σ E1 E2 near _ _ _ _ _ c.state empty;
        counts = ends-counted W n s limit D σ E1 E2 near _ _ _ _ _ c.state empty;
        behind = c.behind;
        linked = λ t u lt lu r. c.state.linked t u (settled t lt r) lu;
        ordered = c.ordered;
        complete = λ t l r. sym (c.settled t) ∙ settled t l r;
        found = λ t h. c.state.reached t (c.settled t ∙ h);
      }
    where
      empty : (t : ℕ) → t < n → has 0 t ≡ false
      empty t _ = has-none t

      settled : (t : ℕ) → t < n → D t ≢ mark → has done t ≡ true
      settled = ends-settled W n s limit D σ E1 E2 near _ _ _ _ _ c.state empty
