-- An accepted edit: its set of touched sources, the rows that stay and those that change, and how the scores move. Assumes nothing.
use Prim.Native.Nat.{ℕ, suc, ◌<◌, ◌≤◌, min}
use mathlib.Core.Path.{◌≡◌, refl, sym, ◌∙◌, ap}
use mathlib.Core.Logic.{◌≢◌}
use mathlib.Core.Bool.{Bool, true, false, not}
use lib.ListN.{get_or}
use borrow.Author.Tests.{eq-eqb}
use Rattle.routes.specs.Route.{Costs, all_to, least_time, ways, capped_ways, open_share}
use Rattle.routes.proofs.Sums.{all-cong}
use Rattle.routes.proofs.Touched.{same_entries, untouched, touched-row}
use Rattle.routes.proofs.Shared.{open-share, open-ways}
use Rattle.book.specs.Hall.{Layout, most_ways, scale, table, entry, filled, touched, costs_in}
use Rattle.book.specs.Call.{Call, edit, accepted, cost_set, with_edit, rule, refusal, after, answer, Accepted}
use Rattle.book.specs.Book.{Book, tables_of, EditFacts, changed}
use Rattle.book.specs.declared.Edit.{Edit}
use Rattle.book.proofs.Tables.{entry-table, only_set}
use Rattle.book.proofs.Passed.{Permitted, permitted}
use Rattle.book.proofs.Steps.{Held, entry-edited, held-edited, accepted-book, refusal-book}
use Rattle.book.proofs.Reversals.{rule-reversed}
use Rattle.book.proofs.Sets.{same_row, member, set-facts}
use Rattle.book.proofs.Uncrowded.{few-ways}
use Rattle.book.proofs.Small.{dearest, within, small, workable}
use Rattle.routes.proofs.Passing.{only-from, differs-from}

module _ (n : ℕ) (e : Edit) (lay : Layout) (h : Held n lay) (ok : accepted (rule n (edit e) lay).tests ≡ true) where
  p : Permitted n e lay
  p = permitted n e lay ok

  abbrev u : ℕ
  u = e.u

  abbrev v : ℕ
  v = e.v

  abbrev left : Layout
  left = with_edit n e lay

  -- what the links cost on routes from a source, before and after
  abbrev W : ℕ → Costs
  W = costs_in n lay

  abbrev W' : ℕ → Costs
  W' = costs_in n left

  abbrev touches : ℕ → Bool
  touches = touched n lay left u v

  abbrev stays : ℕ → ℕ → Bool
  stays s = same_entries (W s) (W' s) n s scale

  -- the cost of the edited link differs, and no other
  differs : (s : ℕ) → W s u v ≢ W' s u v
  differs s =
      differs-from (entry n lay.cost) (entry n left.cost) (λ x. get_or lay.passing x 0) s u v
      (λ q. p.differs (q ∙ entry-edited n e lay h p u v p.to ∙ rw (eq-eqb u u refl, eq-eqb v v refl)))

  others : (s a b : ℕ) → a < n → b < n → W s a b ≢ W' s a b → (a ≡ u) × (b ≡ v)
  others s a b ha hb ne =
      only_set n lay.cost u v (cost_set e.kind e.cost) a b h.square p.from p.to hb
      (only-from (entry n lay.cost) (entry n left.cost) (λ x. get_or lay.passing x 0) s a b ne)

  -- the edit touches exactly the sources with a row that does not stay
  row-touched : (s : ℕ) → s < n → touches s ≡ not (all_to n (stays s))
  unfolding touched
  row-touched s hs =
      touched-row (W s) (W' s) n s dearest hs (within (workable h) s) (within (workable (held-edited n e lay h p)) s) (small (workable h))
      u v p.from p.to (differs s) (others s) scale

  -- the row of a source that is not touched stays, whatever pairs are crowded
  pub row_kept : (s : ℕ) → s < n → touches s ≡ false → changed n (filled scale most_ways n lay) (filled scale most_ways n left) s ≡ false
  unfolding touched filled
  row_kept s hs away =
      let R = untouched (W s) (W' s) n s dearest hs (within (workable h) s) (within (workable (held-edited n e lay h p)) s) (small (workable h))
      u v p.from p.to (differs s) (others s) away in
      same_row n (filled scale most_ways n lay) (filled scale most_ways n left) s (record {
        time = λ x hx. at (λ s. least_time (W s) n s) x hx ∙ R.times x hx ∙ sym (at (λ s. least_time (W' s) n s) x hx);
        ways = λ x hx.
            at (λ s. capped_ways (W s) n s most_ways) x hx ∙ ap (min (suc most_ways)) (R.counts x hx) ∙
            sym (at (λ s. capped_ways (W' s) n s most_ways) x hx);
        share = λ x hx.
            at (λ s. open_share (W s) n s most_ways scale) x hx ∙ R.open_shares most_ways scale x hx ∙
            sym (at (λ s. open_share (W' s) n s most_ways scale) x hx);
      })
    where
      at : (f : ℕ → ℕ → ℕ) (x : ℕ) → x < n → entry n (table n f) s x ≡ f s x
      at f x hx = entry-table n f s x hs hx

  -- the row of a source of which no pair is crowded before or after changes exactly if it is touched
  module _ (s : ℕ) (hs : s < n) (few : (t : ℕ) → t < n → ways (W s) n s t ≤ most_ways) (few' : (t : ℕ) → t < n → ways (W' s) n s t ≤ most_ways) where
    at : (f : ℕ → ℕ → ℕ) {y : ℕ} (x : ℕ) → x < n → f s x ≡ y → entry n (table n f) s x ≡ y
    at f x hx e = entry-table n f s x hs hx ∙ e

    pub row-changed : changed n (filled scale most_ways n lay) (filled scale most_ways n left) s ≡ touches s
    unfolding changed filled
    row-changed = ap not (all-cong n (λ x hx. rw (
      at (λ s. least_time (W s) n s) x hx refl,
      at (λ s. least_time (W' s) n s) x hx refl,
      at (λ s. capped_ways (W s) n s most_ways) x hx (open-ways (W s) n s most_ways few x hx),
      at (λ s. capped_ways (W' s) n s most_ways) x hx (open-ways (W' s) n s most_ways few' x hx),
      at (λ s. open_share (W s) n s most_ways scale) x hx (open-share (W s) n s most_ways few scale x),
      at (λ s. open_share (W' s) n s most_ways scale) x hx (open-share (W' s) n s most_ways few' scale x),
    ))) ∙ sym (row-touched s hs)

  -- the promises of demand 3 for this edit
  edited-rule : EditFacts n e (filled scale most_ways n lay) (filled scale most_ways n left) (rule n (edit e) lay).says
  unfolding filled rule
  edited-rule = record {
    set = set-facts n touches lay left (entry n lay.cost u v) (workable h).most row_kept;
    changes = λ few few' s hs.
        row-changed s hs (λ t l. few-ways most_ways n lay few s t hs l) (λ t l. few-ways most_ways n left few' s t hs l) ∙ sym (member n touches s hs);
    tells = refl;
    reverses = rule-reversed n e lay h ok;
  }

-- and for every accepted edit on the tables of a book
pub edited-book : (c : Call) (b : Book) (e : Edit) → Held b.stops b.layout → c.ask ≡ edit e →
    refusal c (tables_of b) ≡ Accepted → EditFacts c.n e (tables_of b) (after c (tables_of b)) (answer c (tables_of b))
unfolding after answer filled rule
edited-book c b e h asked ok =
    let (same, fits, passable, sound, tests) = accepted-book c b (ap accepted (sym (refusal-book c b h) ∙ ok)) in
    rw (ok, asked, ← same) (edited-rule c.n e b.layout (rw same h) (rw asked at tests))
