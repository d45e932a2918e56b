-- Rows worked out over all links beside rows that are right already: the tables are those of the hall. Assumes nothing.
use Prim.Native.Nat.{ℕ, ◌<◌, ◌≤◌}
use mathlib.Core.Path.{◌≡◌, refl, sym, ◌∙◌}
use mathlib.Core.List.{List}
use Rattle.routes.specs.Route.{has, least_time, capped_ways, open_share}
use Rattle.routes.proofs.Bits.{split}
use Rattle.routes.proofs.Rows.{list_to-cong}
use Rattle.links.specs.Promise.{masked_from, AllLinks}
use Rattle.book.specs.Hall.{Tables, most_ways, scale, table, entry, filled, Layout, costs_in}
use Rattle.book.specs.Contract.{tables}
use Rattle.book.proofs.Tables.{entry-table}
use Rattle.book.proofs.Sets.{SameRow}
use Rattle.book.proofs.Sizes.{stops, lengths}
use Rattle.cells.specs.Promise.{summed}
use Rattle.cells.proofs.Sums.{summed-whole}
use Rattle.tables.specs.Promise.{part, parts, row_of, Worked, FilledRows}
use Rattle.tables.proofs.Parts.{part-table}
use Rattle.book.proofs.Small.{Workable}
use Rattle.tables.proofs.Masked.{all-rows, same-row_of}
use Rattle.tables.proofs.Worked.{worked-of, worked-parts, worked-scores}
use Rattle.course.specs.Promise.{RightOutside}

-- rows with the same entries are the same parts
same-part : (n : ℕ) (f g : ℕ → ℕ → ℕ) (s : ℕ) → s < n → n ≤ 64 → ((x : ℕ) → x < n → entry n (table n f) s x ≡ entry n (table n g) s x) →
    part n (table n f) s ≡ part n (table n g) s
same-part n f g s l most h =
    part-table n f s l most ∙ list_to-cong n (λ x k. sym (entry-table n f s x l k) ∙ h x k ∙ entry-table n g s x l k) ∙ sym (part-table n g s l most)

-- a row of one hall that is the row of another
pub row-of : (n : ℕ) (lay now : Layout) (s : ℕ) → s < n → n ≤ 64 →
    SameRow n (filled scale most_ways n lay) (filled scale most_ways n now) s →
    let t : Tables = filled scale most_ways n now in parts n t.time t.ways t.share s ≡ row_of most_ways scale (costs_in n lay s) n s
unfolding filled
row-of n lay now s l most h =
    (λ i. record {
      time = same-part n (λ s. least_time (costs_in n now s) n s) (λ s. least_time (costs_in n lay s) n s) s l most (λ x k. sym (h.time x k)) i;
      ways = same-part n (λ s. capped_ways (costs_in n now s) n s most_ways) (λ s. capped_ways (costs_in n lay s) n s most_ways) s l most (λ x k. sym (h.ways x k)) i;
      share = same-part n (λ s. open_share (costs_in n now s) n s most_ways scale) (λ s. open_share (costs_in n lay s) n s most_ways scale) s l most (λ x k. sym (h.share x k)) i;
    }) ∙
    worked-parts most_ways scale n lay _ _ _ most (record { times = refl; counts = refl; shares = refl }) s l

-- rows can be worked out over such tables
pub workable-of : {n set : ℕ} {t : Tables} → RightOutside n set t → Workable n t.layout
workable-of {n} {set} {t} b =
    let l = lengths n t b.lengths in
    record { most = (stops n b.size).1; square = l.costs; long = l.passings; valid = b.valid; passable = b.passable }

-- the rows of a set are worked out, and the others were right
module _ (n set : ℕ) (t : Tables) (b : RightOutside n set t) (out : List ℕ) (links : AllLinks n t.layout.cost out) (times' counts' shares' : List ℕ)
    (done : FilledRows most_ways scale (λ s. masked_from n s t.layout.cost t.layout.passing out) n set t.time t.ways t.share times' counts' shares') where
  pub rows-worked : Worked most_ways scale n t.layout times' counts' shares'
  rows-worked = worked-of most_ways scale n t.layout times' counts' shares' done.lengths rows
    where
      rows : (s : ℕ) → s < n → parts n times' counts' shares' s ≡ row_of most_ways scale (costs_in n t.layout s) n s
      rows s l = split (has set s)
          (λ e. done.rows s ∙ rw e (same-row_of most_ways scale (masked_from n s t.layout.cost t.layout.passing out) (costs_in n t.layout s) n s (all-rows (workable-of b) out links s l)))
          (λ e. done.rows s ∙ rw e (b.rows s l e))

  -- and their scores are summed
  pub put-filled : (score' : List ℕ) → score' ≡ summed n n shares' t.score → tables t.layout.cost t.layout.passing times' counts' shares' score' ≡ filled scale most_ways n t.layout
  unfolding filled
  put-filled score' sums = λ i. record {
    layout = t.layout;
    time = rows-worked.times i;
    ways = rows-worked.counts i;
    share = rows-worked.shares i;
    score = (sums ∙ summed-whole n shares' t.score (lengths n t b.lengths).scores ∙ worked-scores most_ways scale n t.layout shares' rows-worked.shares) i;
  }
