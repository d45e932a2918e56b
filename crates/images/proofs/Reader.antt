-- Image read, from its tests and rows to what it promises. Assumes nothing.
use Rattle.std.specs.Prelude.{Err}
use Prim.Native.Nat.{ℕ, ◌+◌, ◌*◌, ◌<◌}
use mathlib.Core.Path.{◌≡◌, refl, sym, ◌∙◌}
use mathlib.Core.Bool.{true, false}
use mathlib.Core.List.{List}
use native.Mathlib.Numerals.{add-one}
use native.Mathlib.Omega.{arith}
use lib.ListN.{set}
use Rattle.book.specs.Hall.{Layout, laid, Tables, most_ways, scale, filled, is_image, costs_of}
use Rattle.book.specs.Call.{Call, image_read, need, rule, refusal, Done, Accepted}
use Rattle.book.specs.Contract.{tables, of_refusal, Inside}
use Rattle.book.proofs.Refused.{refused-done}
use Rattle.book.proofs.Doors.{behind-door, accepted-done}
use Rattle.book.specs.declared.Refusal.TheVariants.{BadImage}
use Rattle.book.proofs.Records.{from, to, cost_at, costs_to, costs-more}
use Rattle.book.proofs.Images.{Image, length-read, read-valid}
use Rattle.cells.specs.Promise.{Shares, summed}
use Rattle.tables.specs.Promise.{Worked}
use Rattle.book.proofs.Sizes.{stops, lengths, passing-fits}
use Rattle.cells.proofs.Sums.{summed-whole}
use Rattle.tables.proofs.Measured.{hall-measure}
use Rattle.book.proofs.Small.{Workable}
use Rattle.tables.proofs.Worked.{worked-scores, worked-shares}

-- one more record read
pub read_more : {n c i place x : ℕ} {image cost : List ℕ} → Image n image c → i < c → cost ≡ costs_to n image i →
    place ≡ from image i * n + to image i → x ≡ cost_at image i → set cost place x ≡ costs_to n image (i + 1)
read_more {n} {c} {i} {place} {x} {image} {cost} h l e f g =
    rw (add-one, e, f, g) (sym (costs-more n image i (λ j k. h.links j (omega arith))))

module _ (n : ℕ) (image cost passing time ways share score : List ℕ) (i : Inside n (tables cost passing time ways share score)) where
  abbrev call : Call
  call = record { n = n; ask = image_read image passing }

  abbrev found : Tables
  found = tables cost passing time ways share score

  -- the layout of the image's hall
  abbrev lay : Layout
  lay = laid (costs_of n image) passing

  -- the test behind the door
  read-refusal : refusal call found ≡ need (is_image n image) BadImage Accepted
  unfolding rule
  read-refusal = behind-door call found (passing-fits n found) refl i

  pub read-broken : is_image n image ≡ false → Done call found found (of_refusal (Err BadImage))
  unfolding rule
  read-broken e = refused-done call found (Err BadImage) (read-refusal ∙ rw e) refl

  module _ (whole : is_image n image ≡ true) {cost' time' ways' share' : List ℕ} (costs : cost' ≡ costs_of n image) (a : Worked most_ways scale n (laid cost' passing) time' ways' share') where
    -- the rows of the image's hall
    made : Worked most_ways scale n lay time' ways' share'
    made = rw costs at a

    workable : Workable n lay
    workable = record {
      most = (stops n i.size).1;
      square = length-read n image;
      long = (lengths n found i.lengths).passings;
      valid = read-valid n image whole;
      passable = i.passable;
    }

    -- the sums of shares fit, and with them the tables are those of the image's hall
    pub read-shares : Shares n share'
    read-shares = worked-shares most_ways scale n lay share' made.shares hall-measure.fine workable

    pub read-accepted : {score' : List ℕ} → score' ≡ summed n n share' score → Done call found (tables cost' passing time' ways' share' score') (of_refusal Accepted)
    unfolding rule filled
    read-accepted {score'} sums =
        accepted-done call found (tables cost' passing time' ways' share' score') (of_refusal Accepted) (read-refusal ∙ rw whole) (λ j. record {
          layout = laid (costs j) passing;
          time = made.times j;
          ways = made.counts j;
          share = made.shares j;
          score = (sums ∙ summed-whole n share' score (lengths n found i.lengths).scores ∙ worked-scores most_ways scale n lay share' made.shares) j;
        }) refl
