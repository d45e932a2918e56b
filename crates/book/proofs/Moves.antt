-- The moving call: it divides the shares and scores of a hall of the old scale and limit, and leaves what a work out leaves; and what
-- it says to the tables of a book. Assumes nothing.
use Rattle.std.specs.Prelude.{Err}
use Prim.Native.Nat.{ℕ, ◌+◌, ◌*◌, ◌/◌, ◌<◌, ◌≤◌}
use native.Mathlib.Nat.{mul-div_cancel_left}
use native.Mathlib.Decide.{ℕ_discrete}
use native.Mathlib.Omega.{arith}
use mathlib.Core.Path.{◌≡◌, refl, sym, ◌∙◌, ap, subst, subst⁻¹}
use mathlib.Core.Logic.{◌≢◌}
use mathlib.Core.Bool.{Bool, true, false, cond, ◌&&◌, and-eq-true_iff}
use mathlib.Core.List.{List}
use lib.Dec.{leb, lit<, lit≤}
use lib.ListN.{length, length-map, get_or-map, length-replicate}
use borrow.Author.Tests.{eq-eqb, ltb-true}
use Rattle.routes.specs.Route.{Costs, list_to, all_to, least_time, ways, through, open_share, score}
use Rattle.routes.proofs.Sums.{sum_to-cong, sum_to-zero, sum_to-mul-left}
use Rattle.routes.proofs.Flows.{Flows}
use Rattle.routes.proofs.Shared.{open-share}
use Rattle.routes.proofs.Between.{none-back, none_between, none-through}
use Rattle.routes.proofs.Rows.{length-list_to, get_or-list_to, list_to-of, list_to-cong}
use Rattle.routes.proofs.Scales.{share-scaled, share-more}
use Rattle.book.specs.Hall.{Layout, Tables, most_stops, most_ways, scale, old_most_ways, old_scale, old_per_new, divided, up_to, table, entry, filled, sized, valid_costs, crowded_pair, uncrowded, right, costs_in, links_alone}
use Rattle.book.specs.Call.{Call, move_over, work_out, accepted, need, rule, refusal, after, with_layout, Accepted}
use Rattle.book.specs.Book.{Book, tables_of, book_refusal, book_after}
use Rattle.book.specs.declared.Refusal.TheVariants.{BadTables, TooManyWays}
use Rattle.book.proofs.Tables.{length-table, entry-table, table_of, table-cong}
use Rattle.book.proofs.Filled.{sized-filled, right-filled, right-true}
use Rattle.book.proofs.Passed.{need-true, passed, audited}
use Rattle.book.proofs.Calls.{whole}
use Rattle.book.proofs.Steps.{Held, held-worked, accepted-filled, held-old, none-brief}
use Rattle.book.proofs.Alone.{same-ways, same-shares}
use Rattle.book.proofs.Uncrowded.{few-ways, ways-few, few-more, few-entries}
use Rattle.book.proofs.Small.{Workable, workable, flow}

-- the shares of a hall, and that none is above 0
share-entry : (n : ℕ) (lay : Layout) (L m s v : ℕ) → s < n → v < n → entry n (filled L m n lay).share s v ≡ open_share (costs_in n lay s) n s m L v
unfolding filled
share-entry n lay L m s v k l = entry-table n (λ s. open_share (costs_in n lay s) n s m L) s v k l

abbrev pub NoShares : ℕ → Layout → Type 0
NoShares n lay = (s v : ℕ) → s < n → v < n → entry n (filled scale most_ways n lay).share s v ≡ 0

back : (x : ℕ) → old_per_new * x / old_per_new ≡ x
back x = mul-div_cancel_left x (lit< tt)

-- by the old scale a share is 8,398 times what it is by the new one, by one limit of ways, and no less by the old limit
shares-scaled : (W : Costs) (n s v : ℕ) → open_share W n s most_ways old_scale v ≡ old_per_new * open_share W n s most_ways scale v
shares-scaled W n s v = share-scaled n most_ways scale old_per_new whole W s v

old-more : (W : Costs) (n s v : ℕ) → old_per_new * open_share W n s most_ways scale v ≤ open_share W n s old_most_ways old_scale v
old-more W n s v = omega (arith, shares-scaled W n s v, share-more W n s most_ways old_most_ways old_scale v (lit≤ tt))

-- a hall in which no pair has more than 12 ways
module _ (n : ℕ) (lay : Layout) (few : uncrowded most_ways n lay ≡ true) where
  abbrev W : ℕ → Costs
  W = costs_in n lay

  -- the old limit is kept too
  few-old : uncrowded old_most_ways n lay ≡ true
  few-old = few-more most_ways old_most_ways n lay (lit≤ tt) few

  -- by the old numbers a share and a score are 8,398 times what they are by the new ones
  old-share : (s v : ℕ) → s < n → open_share (W s) n s old_most_ways old_scale v ≡ old_per_new * open_share (W s) n s most_ways scale v
  old-share s v k =
      open-share (W s) n s old_most_ways (λ t l. few-ways old_most_ways n lay few-old s t k l) old_scale v ∙
      sym (open-share (W s) n s most_ways (λ t l. few-ways most_ways n lay few s t k l) old_scale v) ∙ shares-scaled (W s) n s v

  old-score : (v : ℕ) → score W n old_most_ways old_scale v ≡ old_per_new * score W n most_ways scale v
  unfolding score
  old-score v = sum_to-cong n (λ s k. old-share s v k) ∙ sum_to-mul-left n old_per_new (λ s. open_share (W s) n s most_ways scale v)

  -- times and ways are the same
  old-ways : (filled old_scale old_most_ways n lay).ways ≡ (filled scale most_ways n lay).ways
  unfolding filled
  old-ways = table-cong n _ _ (λ s t k l. omega (arith, few-ways most_ways n lay few s t k l))

  -- so division gives the tables of the new ones
  shares-divided : divided (filled old_scale old_most_ways n lay).share ≡ (filled scale most_ways n lay).share
  unfolding filled
  shares-divided =
      let f : ℕ → ℕ → ℕ = λ s. open_share (W s) n s old_most_ways old_scale in
      let old : List ℕ = table n f in
      table_of n (λ s. open_share (W s) n s most_ways scale) (divided old) (length-map old (λ x. x / old_per_new) ∙ length-table n f)
      (λ s v k l.
      get_or-map (λ x. x / old_per_new) old (s * n + v) 0 ∙ ap (λ x. x / old_per_new) (entry-table n f s v k l ∙ old-share s v k) ∙
      back (open_share (W s) n s most_ways scale v))

  scores-divided : divided (filled old_scale old_most_ways n lay).score ≡ (filled scale most_ways n lay).score
  unfolding filled
  scores-divided =
      let f : ℕ → ℕ = score W n old_most_ways old_scale in
      let old : List ℕ = list_to n f in
      list_to-of n (score W n most_ways scale) 0 (divided old) (length-map old (λ x. x / old_per_new) ∙ length-list_to n f)
      (λ v l.
      get_or-map (λ x. x / old_per_new) old v 0 ∙ ap (λ x. x / old_per_new) (get_or-list_to n f 0 v l ∙ old-score v) ∙
      back (score W n most_ways scale v))

  -- where every share is 0 the old and the new numbers give the same tables
  none-same : NoShares n lay → filled old_scale old_most_ways n lay ≡ filled scale most_ways n lay
  unfolding filled score
  none-same none = λ i. record { layout = lay; time = table n (λ s. least_time (W s) n s); ways = old-ways i; share = shares i; score = scores i }
    where
      no-share : (s v : ℕ) → s < n → v < n → open_share (W s) n s most_ways scale v ≡ 0
      no-share s v k l = sym (share-entry n lay scale most_ways s v k l) ∙ none s v k l

      shares : table n (λ s. open_share (W s) n s old_most_ways old_scale) ≡ table n (λ s. open_share (W s) n s most_ways scale)
      shares = table-cong n _ _ (λ s v k l. omega (arith, old-share s v k, no-share s v k l))

      no-score : (v : ℕ) → v < n → score W n most_ways scale v ≡ 0
      no-score v l = sum_to-zero n (λ s k. no-share s v k l)

      scores : list_to n (score W n old_most_ways old_scale) ≡ list_to n (score W n most_ways scale)
      scores = list_to-cong n (λ v l. omega (arith, old-score v, no-score v l))

abbrev pub moving : ℕ → Call
moving n = record { n = n; ask = move_over }

-- an accepted moving call, on any tables that it can be lent: their passing times are 0
module _ (n : ℕ) (t : Tables) (alone : t.layout ≡ links_alone n t.layout) (ok : refusal (moving n) t ≡ Accepted) where
  -- it found the tables of a hall of the old numbers, in which no pair has more than 12 ways
  old-right : right old_scale old_most_ways n t ≡ true
  unfolding rule
  old-right =
      let l : Layout = links_alone n t.layout in
      subst⁻¹ (λ l. right old_scale old_most_ways n (with_layout l t) ≡ true) alone
      ((and-eq-true_iff (right old_scale old_most_ways n (with_layout l t)) (uncrowded old_most_ways n l)).0 (audited (moving n) t ok)).0

  pub move-few : uncrowded most_ways n t.layout ≡ true
  unfolding rule
  move-few =
      subst⁻¹ (λ l. uncrowded most_ways n l ≡ true) alone
      (need-true (uncrowded most_ways n (links_alone n t.layout)) TooManyWays Accepted (passed (moving n) t ok).2).0

  pub move-held : Held n t.layout
  move-held = let (size, lengths, tests) = passed (moving n) t ok in subst⁻¹ (Held n) alone (held-old n t size lengths (audited (moving n) t ok))

  pub move-found : filled old_scale old_most_ways n t.layout ≡ t
  move-found = (right-true old_scale old_most_ways n t old-right).1

  pub move-leaves : after (moving n) t ≡ filled scale most_ways n t.layout
  unfolding rule
  move-leaves = accepted-filled (moving n) t ok

  -- it divides every share and every score; costs, passing times, times and ways stay
  pub move-divides : after (moving n) t ≡ record { layout = t.layout; time = t.time; ways = t.ways; share = divided t.share; score = divided t.score }
  unfolding filled
  move-divides =
      let few = move-few in
      move-leaves ∙ λ i.
      record {
        layout = t.layout;
        time = (move-found i).time;
        ways = (sym (old-ways n t.layout few) ∙ ap (λ t. t.ways) move-found) i;
        share = (sym (shares-divided n t.layout few) ∙ ap (λ t. divided t.share) move-found) i;
        score = (sym (scores-divided n t.layout few) ∙ ap (λ t. divided t.score) move-found) i;
      }

  -- what it leaves equals a working out of the same layout
  pub move-works-out : let c : Call = record { n = n; ask = work_out t.layout } in (refusal c t ≡ Accepted) × (after (moving n) t ≡ after c t)
  unfolding rule
  move-works-out =
      let c : Call = record { n = n; ask = work_out t.layout } in
      let taken = held-worked n t.layout t move-held (passed (moving n) t ok).1 in
      (taken, move-leaves ∙ sym (accepted-filled c t taken))

-- on the tables of a hall of the old numbers it tests 11 alone
module _ (n : ℕ) (t : Tables) (alone : t.layout ≡ links_alone n t.layout) (size : up_to most_stops n ≡ true) (lengths : sized n t ≡ true)
    (old : right old_scale old_most_ways n t ≡ true) (kept : uncrowded old_most_ways n t.layout ≡ true) where
  pub move-tests : refusal (moving n) t ≡ need (uncrowded most_ways n t.layout) TooManyWays Accepted
  unfolding refusal rule
  move-tests = rw (← alone, size, lengths, none-brief n, old, kept)

  -- and passes it exactly if all ways are 12 or fewer
  pub move-eleven : refusal (moving n) t ≡ need (all_to n (λ s. all_to n (λ v. leb (entry n t.ways s v) most_ways))) TooManyWays Accepted
  move-eleven =
      let same : filled old_scale old_most_ways n t.layout ≡ t = (right-true old_scale old_most_ways n t old).1 in
      move-tests ∙ ap (λ b. need b TooManyWays Accepted) (sym (few-entries old_scale most_ways old_most_ways n t.layout (lit≤ tt)) ∙ ap (λ t. all_to n (λ s. all_to n (λ v. leb (entry n t.ways s v) most_ways))) same)

-- to the tables of links alone by the old scale it says 3 where a pair has more than 22 ways, and else 11 where one has more than 12
pub old-told : (n : ℕ) (lay : Layout) → up_to most_stops n ≡ true → length lay.cost ≡ n * n → valid_costs n lay.cost ≡ true →
    let l : Layout = links_alone n lay in
    refusal (moving n) (filled old_scale old_most_ways n l) ≡ need (uncrowded old_most_ways n l) BadTables (need (uncrowded most_ways n l) TooManyWays Accepted)
unfolding refusal rule filled
old-told n lay size square valid =
    rw (size, sized-filled old_scale old_most_ways n n (links_alone n lay) square (length-replicate n 0) ∙ eq-eqb n n refl, none-brief n, right-filled old_scale old_most_ways n (links_alone n lay) valid)

-- so a hall worked out by the old numbers, in which no pair has more than 12 ways, is moved to the tables of the new ones
pub old-moved : (n : ℕ) (lay : Layout) → Held n (links_alone n lay) → uncrowded most_ways n (links_alone n lay) ≡ true → let l : Layout = links_alone n lay in
    (refusal (moving n) (filled old_scale old_most_ways n l) ≡ Accepted) × (after (moving n) (filled old_scale old_most_ways n l) ≡ filled scale most_ways n l)
unfolding filled
old-moved n lay h few =
    let l : Layout = links_alone n lay in
    let within : need (uncrowded old_most_ways n l) BadTables (need (uncrowded most_ways n l) TooManyWays Accepted) ≡ Accepted = rw (few-old n l few, few) in
    let ok = old-told n lay h.size h.square h.valid ∙ within in
    (ok, move-leaves n (filled old_scale old_most_ways n l) refl ok)

-- accepted or refused, it leaves the book as it is
pub move-book : (n : ℕ) (b : Book) → book_after (moving n) b ≡ b
unfolding book_after rule
move-book n b = go (accepted (book_refusal (moving n) b))
  where
    go : (x : Bool) → record { stops = b.stops; layout = cond x b.layout b.layout } ≡ b
    go true = refl
    go false = refl

-- to the tables of a book it says 3 with any share above 0, with any crowded pair, and where they are not also those of links alone
module _ (b : Book) (h : Held b.stops b.layout) where
  abbrev N : ℕ
  N = b.stops

  abbrev bare : Layout
  bare = links_alone N b.layout

  -- the tables are also the old ones of the links alone, and no pair of these has more than 22 ways
  abbrev by_old : Bool
  by_old = right old_scale old_most_ways N (with_layout bare (tables_of b))

  abbrev alike : Bool
  alike = by_old && uncrowded old_most_ways N bare

  abbrev alone : ℕ → Costs
  alone = costs_in N bare

  parts : alike ≡ true → (by_old ≡ true) × (uncrowded old_most_ways N bare ≡ true)
  parts = (and-eq-true_iff by_old (uncrowded old_most_ways N bare)).0

  -- where they are, every share is 0, by the old numbers as by the new ones
  same-entry : by_old ≡ true → (s v : ℕ) → s < N → v < N → open_share (alone s) N s old_most_ways old_scale v ≡ entry N (tables_of b).share s v
  unfolding filled
  same-entry e s v k l =
      sym (share-entry N bare old_scale old_most_ways s v k l) ∙
      ap (λ t. entry N t.share s v) (right-true old_scale old_most_ways N (with_layout bare (tables_of b)) e).1

  no_old : by_old ≡ true → (s v : ℕ) → s < N → v < N → open_share (alone s) N s old_most_ways old_scale v ≡ 0
  no_old e s v k l =
      omega (arith, same-entry e s v k l, share-entry N b.layout scale most_ways s v k l, same-shares N b.layout e most_ways scale s v k, old-more (alone s) N s v)

  -- so no quickest route passes a stop, and each pair of the links alone has one way at most
  bare-held : Workable N bare
  bare-held = record { most = (workable h).most; square = h.square; long = length-replicate N 0; valid = h.valid; passable = none-brief N }

  one_way : alike ≡ true → (s t : ℕ) → s < N → t < N → ways (alone s) N s t ≤ 1
  one_way e s t k l =
      let F = flow bare-held s k in
      let (old, few) = parts e in
      none_between (alone s) N s F k t l (λ u i a c. elim (ℕ_discrete t s) [
        | yes d ↦ at_source F u i a d
        | no d ↦ none-through (alone s) N s F old_most_ways old_scale (lit≤ tt) u t i l a d (λ q. c (sym q)) (few-ways old_most_ways N bare few s t k l) (no_old old s u k i)
      ])
    where
      at_source : Flows (alone s) N s → (u : ℕ) → u < N → u ≢ s → t ≡ s → through (alone s) N s u t ≡ 0
      at_source F u i a d = ap (through (alone s) N s u) d ∙ none-back (alone s) N s F k u i a

  few-alone : alike ≡ true → uncrowded most_ways N bare ≡ true
  few-alone e = ways-few most_ways N bare (λ s t k l. omega (arith, one_way e s t k l))

  pub told-book : book_refusal (moving N) b ≡ need alike BadTables Accepted
  unfolding book_refusal rule
  told-book = rw (h.size, eq-eqb N N refl, none-brief N) (go alike refl)
    where
      go : (x : Bool) → alike ≡ x → need x BadTables (need (uncrowded most_ways N bare) TooManyWays Accepted) ≡ need x BadTables Accepted
      go true e = rw (few-alone e)
      go false e = refl

  pub move-three : (s v : ℕ) → s < N → v < N → 0 < entry N (tables_of b).share s v → book_refusal (moving N) b ≡ Err BadTables
  move-three s v k l some = told-book ∙ go alike refl
    where
      go : (x : Bool) → alike ≡ x → need x BadTables Accepted ≡ Err BadTables
      go true e = let (old, few) = parts e in absurd (omega (arith, some, same-entry old s v k l, no_old old s v k l))
      go false e = refl

  -- also where every share is 0
  pub crowded-three : (s t : ℕ) → s < N → t < N → crowded_pair most_ways N b.layout s t ≡ true → book_refusal (moving N) b ≡ Err BadTables
  crowded-three s t k l full = told-book ∙ go alike refl
    where
      go : (x : Bool) → alike ≡ x → need x BadTables Accepted ≡ Err BadTables
      go true e =
          let many = ltb-true most_ways (ways (costs_in N b.layout s) N s t) full in
          absurd (omega (arith, many, same-ways N b.layout (parts e).0 s t k l, one_way e s t k l))
      go false e = refl

  -- with passing times of 0 it accepts where there is no share above 0 and no crowded pair
  pub move_taken : b.layout ≡ bare → uncrowded most_ways N b.layout ≡ true → NoShares N b.layout → book_refusal (moving N) b ≡ Accepted
  unfolding filled
  move_taken same few none =
      let sound = right-filled old_scale old_most_ways N b.layout h.valid in
      let now : right old_scale old_most_ways N (tables_of b) ≡ true = subst (λ t. right old_scale old_most_ways N t ≡ true) (none-same N b.layout few none) sound in
      let old : by_old ≡ true = subst (λ l. right old_scale old_most_ways N (with_layout l (tables_of b)) ≡ true) same now in
      let kept : uncrowded old_most_ways N bare ≡ true = subst (λ l. uncrowded old_most_ways N l ≡ true) same (few-old N b.layout few) in
      told-book ∙ rw (old, kept)
