-- Work out, from its tests and rows to what it promises. Assumes nothing.
use Rattle.std.specs.Prelude.{Err}
use Prim.Native.Nat.{ℕ, ◌*◌}
use mathlib.Core.Path.{◌≡◌, refl, ◌∙◌}
use mathlib.Core.Bool.{true, false}
use mathlib.Core.List.{List}
use borrow.Author.Tests.{eq-eqb}
use Rattle.book.specs.Hall.{Layout, laid, Tables, most_ways, scale, filled, sized, valid_costs}
use Rattle.book.specs.Call.{Call, work_out, need, rule, refusal, Done, Accepted}
use Rattle.book.specs.Contract.{tables, of_refusal, Inside}
use Rattle.book.specs.declared.Refusal.TheVariants.{BadCost}
use Rattle.book.proofs.Sizes.{stops, lengths}
use Rattle.book.proofs.Refused.{refused-done}
use Rattle.book.proofs.Doors.{behind-door, accepted-done}
use Rattle.cells.specs.Promise.{Shares, summed}
use Rattle.cells.proofs.Sums.{summed-whole}
use Rattle.tables.specs.Promise.{Worked}
use Rattle.tables.proofs.Measured.{hall-measure}
use Rattle.book.proofs.Small.{Workable}
use Rattle.tables.proofs.Worked.{worked-scores, worked-shares}

-- its own layout is that of the tables that it is lent, so where these have their lengths it fits
pub brought-fits : (n : ℕ) (t : Tables) → sized n t ≡ true → (rule n (work_out t.layout) t.layout).fits ≡ true
unfolding rule
brought-fits n t e = rw ((lengths n t e).costs, (lengths n t e).passings, eq-eqb (n * n) (n * n) refl, eq-eqb n n refl)

module _ (n : ℕ) (cost passing time ways share score : List ℕ) (i : Inside n (tables cost passing time ways share score)) where
  abbrev lay : Layout
  lay = laid cost passing

  abbrev call : Call
  call = record { n = n; ask = work_out lay }

  abbrev found : Tables
  found = tables cost passing time ways share score

  -- the test behind the door
  pub work-refusal : refusal call found ≡ need (valid_costs n cost) BadCost Accepted
  unfolding rule
  work-refusal = behind-door call found (brought-fits n found) refl i

  pub work-invalid : valid_costs n cost ≡ false → Done call found found (of_refusal (Err BadCost))
  unfolding rule
  work-invalid e = refused-done call found (Err BadCost) (work-refusal ∙ rw e) refl

  module _ (valid : valid_costs n cost ≡ true) {time' ways' share' : List ℕ} (a : Worked most_ways scale n lay time' ways' share') where
    workable : Workable n lay
    workable =
        let l = lengths n found i.lengths in
        record { most = (stops n i.size).1; square = l.costs; long = l.passings; valid = valid; passable = i.passable }

    -- the sums of shares fit, and with them the tables are those of the hall
    pub work-shares : Shares n share'
    work-shares = worked-shares most_ways scale n lay share' a.shares hall-measure.fine workable

    pub work-accepted : {score' : List ℕ} → score' ≡ summed n n share' score → Done call found (tables cost passing time' ways' share' score') (of_refusal Accepted)
    unfolding rule filled
    work-accepted {score'} sums =
        accepted-done call found (tables cost passing time' ways' share' score') (of_refusal Accepted) (work-refusal ∙ rw valid) (λ j. record {
          layout = lay;
          time = a.times j;
          ways = a.counts j;
          share = a.shares j;
          score = (sums ∙ summed-whole n share' score (lengths n found i.lengths).scores ∙ worked-scores most_ways scale n lay share' a.shares) j;
        }) refl
