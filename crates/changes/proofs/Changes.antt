-- What a change of costs does to rows, where all links of a set rise or all fall: which rows stay, over which links the others are
-- worked out, and the tables that this leaves. Assumes nothing.
use Prim.Native.Nat.{ℕ, ◌+◌, ◌*◌, ◌<◌, ◌≤◌}
use mathlib.Core.Path.{◌≡◌, refl, sym, ◌∙◌, ap, ap₂}
use mathlib.Core.Logic.{◌≢◌, ◌⊎◌, inl, inr}
use mathlib.Core.Bool.{Bool, true, false, cond, not, ◌&&◌, ◌||◌, or_comm}
use mathlib.Core.List.{List}
use native.Mathlib.Decide.{ℕ_discrete}
use native.Mathlib.Omega.{arith}
use lib.Dec.{eqb, leb}
use lib.ListN.{length, get_or}
use borrow.Author.Tests.{eqb-false, ltb-true, lt-ltb}
use Rattle.routes.specs.Route.{Costs, mark, has, least_time, capped_ways, open_share}
use Rattle.routes.specs.Equations.{tight}
use Rattle.routes.proofs.Booleans.{both}
use Rattle.routes.proofs.Sums.{is_false, cond-true, cond-false}
use Rattle.routes.proofs.Flows.{Flows}
use Rattle.routes.proofs.Transfer.{SameRow, Loose, Harmless, transfer}
use Rattle.routes.proofs.Tight.{tight-true}
use Rattle.routes.proofs.Cheaper.{Cheaper, Tells, improves, left_false, falls}
use Rattle.routes.proofs.Touched.{same-row-sym, meets, dearer-tells, cheaper-tells, meets-tells}
use Rattle.routes.proofs.Passing.{link-from, linked-from, own-from, only-from, cheaper-from}
use Rattle.routes.proofs.Joined.{useful-from}
use Rattle.links.specs.Promise.{dearest, stay, masked, masked_from}
use Rattle.links.proofs.Masked.{masked_small}
use Rattle.links.specs.Work.{Linked}
use Rattle.book.specs.Hall.{Layout, laid, largest_cost, largest_passing, entry, costs_in, filled}
use Rattle.book.proofs.Tables.{length-table, entry-table}
use Rattle.tables.specs.Promise.{Square, row_of, parts, Worked}
use Rattle.book.proofs.Small.{Workable, costs-within, passing-within, within, flow}
use Rattle.tables.proofs.Masked.{job, job-flows, all-rows, same-row_of}
use Rattle.tables.proofs.Worked.{worked-of, worked-parts}
use Rattle.touch.specs.Promise.{crosses, Chosen}
use Rattle.touch.proofs.Masks.{all-chosen}
use Rattle.changes.specs.Promise.{Reworked}

-- the tables of a hall, and other costs, which differ at links of a set alone, where all rise or all fall
pub record Changes (m L n : ℕ) (links : ℕ → ℕ → Bool) (rising : Bool) (lay : Layout) (cost' times counts shares : List ℕ) : Type 0 where
  pub workable : Workable n lay
  pub worked : Worked m L n lay times counts shares
  pub workable' : Workable n (laid cost' lay.passing)
  pub only : (a b : ℕ) → a < n → b < n → entry n lay.cost a b ≢ entry n cost' a b → links a b ≡ true
  pub up : rising ≡ true → Cheaper (entry n lay.cost) (entry n cost') n
  pub down : rising ≡ false → Cheaper (entry n cost') (entry n lay.cost) n

module _ {m L n : ℕ} {links : ℕ → ℕ → Bool} {rising : Bool} {lay : Layout} {cost' times counts shares : List ℕ} (h : Changes m L n links rising lay cost' times counts shares) where
  abbrev lay' : Layout
  lay' = laid cost' lay.passing

  abbrev W : Costs
  W = entry n lay.cost

  abbrev W' : Costs
  W' = entry n cost'

  abbrev p : ℕ → ℕ
  p v = get_or lay.passing v 0

  -- the costs on routes from s, before and after, and the least time from s to t before
  abbrev C : ℕ → Costs
  C = costs_in n lay

  abbrev C' : ℕ → Costs
  C' = costs_in n lay'

  abbrev d : ℕ → ℕ → ℕ
  d s t = least_time (C s) n s t

  rows : (s : ℕ) → s < n → parts n times counts shares s ≡ row_of m L (C s) n s
  rows = worked-parts m L n lay times counts shares h.workable.most h.worked

  pub lengths : Square n times counts shares
  unfolding filled
  lengths = record {
    times = ap length h.worked.times ∙ length-table n d;
    counts = ap length h.worked.counts ∙ length-table n (λ s. capped_ways (C s) n s m);
    shares = ap length h.worked.shares ∙ length-table n (λ s. open_share (C s) n s m L);
  }

  small : n * dearest < mark
  small = masked_small n h.workable.most

  pub time-at : (s x : ℕ) → s < n → x < n → entry n times s x ≡ least_time (costs_in n lay s) n s x
  unfolding filled
  time-at s x k l = ap (λ y. entry n y s x) h.worked.times ∙ entry-table n d s x k l

  F : (s : ℕ) → s < n → Flows (C s) n s
  F = flow h.workable

  F' : (s : ℕ) → s < n → Flows (C' s) n s
  F' = flow h.workable'

  -- a changed link is there by the cheaper costs
  linked : (lo hi : Costs) → Cheaper lo hi n → (a b : ℕ) → a < n → b < n → lo a b ≢ hi a b → 0 < lo a b
  linked lo hi c a b k m ne = elim (ℕ_discrete (hi a b) 0) [ yes z ↦ omega arith | no z ↦ (c a b k m (omega arith)).0 ]

  -- one comparison a source and changed link, by the old times, tells whether the row changes
  pub crosses-tell : (s : ℕ) → s < n → Tells (costs_in n lay s) (costs_in n (laid cost' lay.passing) s) n s (λ a b.
      crosses rising (entry n lay.cost a b) (entry n cost' a b) (least_time (costs_in n lay s) n s a) (stay s lay.passing a) (least_time (costs_in n lay s) n s b))
  crosses-tell s l = go rising refl
    where
      agree : (x y : ℕ → ℕ → Bool) → ((a b : ℕ) → a < n → b < n → C s a b ≢ C' s a b → x a b ≡ y a b) → Tells (C s) (C' s) n s x → Tells (C s) (C' s) n s y
      agree x y e T = record {
        stays = λ none. T.stays (λ a b k m ne. e a b k m ne ∙ none a b k m ne);
        silent = λ R a b k m ne. sym (e a b k m ne) ∙ T.silent R a b k m ne;
      }

      go : (b : Bool) → rising ≡ b → Tells (C s) (C' s) n s (λ x y. crosses b (W x y) (W' x y) (d s x) (stay s lay.passing x) (d s y))
      go true e =
          agree (tight (C s) (d s)) _ so
          (dearer-tells (C s) (C' s) n s dearest l (within h.workable s) (within h.workable' s) small (cheaper-from W W' p s n (h.up e)))
        where
          so : (a b : ℕ) → a < n → b < n → C s a b ≢ C' s a b → tight (C s) (d s) a b ≡ crosses true (W a b) (W' a b) (d s a) (stay s lay.passing a) (d s b)
          so a b k m ne =
              let some : 0 < W a b = linked W W' (h.up e) a b k m (only-from W W' p s a b ne) in
              let sum : d s a + C s a b ≡ d s a + stay s lay.passing a + W a b = omega (arith, linked-from W p s a b some) in
              ap₂ (λ x y. x && (not (eqb (d s a) mark) && eqb y (d s b))) (link-from W p s a b ∙ lt-ltb 0 (W a b) some) sum
      go false e =
          agree (λ a b. improves (d s) (C' s a b) a b) _ so
          (cheaper-tells (C s) (C' s) n s dearest l (within h.workable s) (within h.workable' s) small (cheaper-from W' W p s n (h.down e)))
        where
          so : (a b : ℕ) → a < n → b < n → C s a b ≢ C' s a b → improves (d s) (C' s a b) a b ≡ crosses false (W a b) (W' a b) (d s a) (stay s lay.passing a) (d s b)
          so a b k m ne =
              let some : 0 < W' a b = linked W' W (h.down e) a b k m (λ q. only-from W W' p s a b ne (sym q)) in
              let sum : d s a + C' s a b ≡ d s a + stay s lay.passing a + W' a b = omega (arith, linked-from W' p s a b some) in
              ap (λ y. not (eqb (d s a) mark) && leb y (d s b)) sum

  -- and so do the links that are used before or after
  pub meets-tell : (s : ℕ) → s < n → Tells (costs_in n lay s) (costs_in n (laid cost' lay.passing) s) n s (meets (costs_in n lay s) (costs_in n (laid cost' lay.passing) s) n s)
  meets-tell s l = meets-tells (C s) (C' s) n s dearest l (within h.workable s) (within h.workable' s) small (side rising refl)
    where
      side : (b : Bool) → rising ≡ b → Cheaper (C s) (C' s) n ⊎ Cheaper (C' s) (C s) n
      side true e = inl (cheaper-from W W' p s n (h.up e))
      side false e = inr (cheaper-from W' W p s n (h.down e))

  -- where costs fell, any other link that cost more than the time between its ends is still on no quickest route
  useless : (s : ℕ) → s < n → rising ≡ false → (a b : ℕ) → a < n → b < n → W' a b ≢ d a b → links a b ≡ false → tight (C' s) (least_time (C' s) n s) a b ≡ false
  useless s l e a b k m ne other = is_false _ λ t.
      let quick : W' a b ≡ least_time (C' a) n a b = useful-from W' p n largest_cost largest_passing (costs-within h.workable') (passing-within h.workable') small s a b l k m t in
      let same : W a b ≡ W' a b = elim (ℕ_discrete (W a b) (W' a b)) [ yes q ↦ q | no q ↦ absurd (both (h.only a b k m q) other) ] in
      let less : least_time (C' a) n a b ≤ d a b = falls (C' a) (C a) n a (F' a k) (F a k) (cheaper-from W' W p a n (h.down e)) b m in
      let some : 0 < W' a b = ltb-true 0 (W' a b) (sym (link-from W' p s a b) ∙ (tight-true (C' s) (least_time (C' s) n s) a b t).linked) in
      let there : 0 < W a b = omega arith in
      let direct : d a b ≤ d a a + C a a b = (F a k).times.relaxed a b k m (link-from W p a a b ∙ lt-ltb 0 (W a b) there) (omega (arith, (F a k).times.source)) in
      ne (omega (arith, (F a k).times.source, own-from W p a b there))

  -- the links of masks as they cost on routes from s
  abbrev over : List ℕ → ℕ → Costs
  over out s = masked_from n s cost' lay.passing out

  -- the chosen links are enough
  chosen-job : (out : List ℕ) → Chosen n links rising cost' times out → Linked n cost' lay.passing out
  chosen-job out c = job h.workable' out _ c.long c.bit

  chosen-rows : (out : List ℕ) → Chosen n links rising cost' times out → (s : ℕ) → s < n → SameRow (over out s) (C' s) n s
  chosen-rows out c s l = go rising refl
    where
      loose : rising ≡ false → Harmless (C' s) (over out s) n (least_time (C' s) n s)
      loose e a b k m ne = keep (has (get_or out a 0) b) refl
        where
          apart : W' a b ≢ masked n cost' out a b
          apart = only-from W' (masked n cost' out) p s a b ne

          keep : (x : Bool) → has (get_or out a 0) b ≡ x → Loose (C' s) (over out s) (least_time (C' s) n s) a b
          keep true x = absurd (apart (sym (cond-true (W' a b) 0 x)))
          keep false x =
              let none : masked n cost' out a b ≡ 0 = cond-false (W' a b) 0 x in
              let some : 0 < W' a b = omega (arith, apart) in
              let left : (eqb (W' a b) (entry n times a b) || links a b) ≡ false =
              rw (lt-ltb a n k, lt-ltb b n m, lt-ltb 0 (W' a b) some, e) at (sym (c.bit a b) ∙ x) in
              let dear : eqb (W' a b) (entry n times a b) ≡ false = left_false (eqb (W' a b) (entry n times a b)) (links a b) left in
              let other : links a b ≡ false = left_false (links a b) (eqb (W' a b) (entry n times a b)) (or_comm (links a b) _ ∙ left) in
              let slow : W' a b ≢ d a b = λ q. eqb-false (W' a b) (entry n times a b) dear (q ∙ sym (time-at a b k m)) in
              (useless s l e a b k m slow other, λ y. absurd (omega (arith, ltb-true 0 (masked n cost' out a b) (sym (link-from (masked n cost' out) p s a b) ∙ y))))

      go : (b : Bool) → rising ≡ b → SameRow (over out s) (C' s) n s
      go true e = all-rows h.workable' out (all-chosen n links cost' times out (rw e at c)) s l
      go false e = same-row-sym (C' s) (over out s) n s (transfer (C' s) (over out s) n s (F' s l) (job-flows (chosen-job out c) s l) (loose e))

  -- a set of sources that leaves out only rows that stay, and its rows worked out over the chosen links
  module _ (sources : ℕ) (stays : (s : ℕ) → s < n → has sources s ≡ false → SameRow (costs_in n lay s) (costs_in n (laid cost' lay.passing) s) n s)
      (times' counts' shares' : List ℕ) (r : Reworked m L n links rising sources (laid cost' lay.passing) times counts shares times' counts' shares') where
    -- leaves the tables of the new costs
    pub worked-changed : Worked m L n (laid cost' lay.passing) times' counts' shares'
    worked-changed = worked-of m L n lay' times' counts' shares' r.filled.lengths λ s l. r.filled.rows s ∙ go s l (has sources s) refl
      where
        go : (s : ℕ) → s < n → (b : Bool) → has sources s ≡ b →
            cond b (row_of m L (over r.out s) n s) (parts n times counts shares s) ≡ row_of m L (C' s) n s
        go s l true e = same-row_of m L (over r.out s) (C' s) n s (chosen-rows r.out r.chosen s l)
        go s l false e = rows s l ∙ same-row_of m L (C s) (C' s) n s (stays s l e)
