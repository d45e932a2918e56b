-- What the demands say of single calls, over `refusal`, `after` and `answer`: exact shares, one stop,
-- and images written and read. Assumes nothing.
use Rattle.std.specs.Prelude.{Err}
use Prim.Native.Nat.{ℕ, zero, suc, ◌*◌, ◌%◌, ◌<◌, ◌≤◌, ◌∣◌}
use native.Mathlib.Nat.{dvd_of_mod-eq-zero, dvd-mul_right_of_dvd, div-mul_cancel, lt_irrefl}
use mathlib.Core.Path.{◌≡◌, refl, ◌∙◌, ap}
use mathlib.Core.Logic.{◌≢◌}
use mathlib.Core.Bool.{Bool, true}
use mathlib.Core.List.{List, [], ◌∷◌, ◌++◌}
use lib.Dec.{eqb}
use lib.ListN.{length, take, drop}
use lib.Seq.{take-append_seam}
use borrow.Author.Tests.{eqb-true, ne_eqb, eq-eqb}
use Rattle.routes.specs.Route.{Costs, all_to, ways, through, portion}
use Rattle.routes.proofs.Sums.{all_true}
use Rattle.book.specs.Hall.{Layout, Tables, most_stops, most_ways, scale, old_most_ways, old_scale, up_to, entry, filled, sized, valid_pair, right, image_of, is_image, costs_of, laid, valid_passing, no_links}
use Rattle.book.specs.Call.{Call, edit, image_write, image_read, cost_tests, rule, Answer, refusal, after, answer, Accepted}
use Rattle.book.proofs.Bytes.{Bytes}
use Rattle.book.proofs.Images.{written_read, written-costs, read-written}
use Rattle.book.proofs.Filled.{sized-filled, sized-cost, right-filled, right-true, sized-passing}
use Rattle.book.proofs.Passed.{need-true, passed, edit-alone, brief}
use Rattle.book.proofs.Steps.{held-audited, accepted-held, accepted-filled, OfMove}
use Rattle.book.proofs.Buffers.{image-writes, write-taken, written-right, written-length, written-buffer}
use Rattle.book.proofs.NoLinks.{valid-none}
use Rattle.book.specs.declared.Edit.{Edit}
use Rattle.book.specs.declared.Refusal.TheVariants.{BadStop, BadImage}
use Rattle.book.proofs.Sizes.{stops}

-- 1 to m divide L, tested one by one
abbrev pub all_divide : (m L : ℕ) → Bool
all_divide m L = all_to m (λ i. eqb (L % suc i) 0)

divides : (m L : ℕ) → all_divide m L ≡ true → (k : ℕ) → 0 < k → k ≤ m → k ∣ L
divides m L all zero z h = absurd (lt_irrefl 0 z)
divides m L all (suc k) z h = dvd_of_mod-eq-zero (suc k) (eqb-true (L % suc k) 0 (all_true m (λ i. eqb (L % suc i) 0) all k h))

-- every number of ways that a pair may have divides the scale, and every one that it might have divides the old scale
pub whole : (k : ℕ) → 0 < k → k ≤ most_ways → k ∣ scale
unfolding all_to
whole = divides most_ways scale refl

pub whole-old : (k : ℕ) → 0 < k → k ≤ old_most_ways → k ∣ old_scale
unfolding all_to
whole-old = divides old_most_ways old_scale refl

-- so what a pair that is not crowded adds to a share is exact: times its ways, it is the scale times the ways through v
pub exact : (W : Costs) (n s v t : ℕ) → 0 < ways W n s t → ways W n s t ≤ most_ways → t ≢ s → t ≢ v →
    portion W n s scale v t * ways W n s t ≡ scale * through W n s v t
unfolding portion
exact W n s v t some few a b =
    rw (ne_eqb t s a, ne_eqb t v b)
    (div-mul_cancel (ways W n s t) (dvd-mul_right_of_dvd (ways W n s t) (whole (ways W n s t) some few) (through W n s v t)))

-- every edit of a hall of one stop is 4
pub one-stop : (e : Edit) (p : ℕ) → valid_passing 1 (p ∷ []) ≡ true → refusal (record { n = 1; ask = edit e }) (filled scale most_ways 1 (no_links 1 (p ∷ []))) ≡ Err BadStop
unfolding refusal rule filled
one-stop e p fits =
    let lay : Layout = no_links 1 (p ∷ []) in
    rw (sized-filled scale most_ways 1 1 lay refl refl, fits, right-filled scale most_ways 1 lay (valid-none 1))
    (edit-alone e lay)

-- an edit on right tables is accepted where its stops, its cost and its link fit
pub edit-taken : (n : ℕ) (e : Edit) (t : Tables) → up_to most_stops n ≡ true → sized n t ≡ true → valid_passing n t.layout.passing ≡ true → right scale most_ways n t ≡ true →
    valid_pair n e.u e.v ≡ true → cost_tests e.kind e.cost (entry n t.layout.cost e.u e.v) ≡ Accepted →
    refusal (record { n = n; ask = edit e }) t ≡ Accepted
unfolding refusal rule
edit-taken n e t size lengths passable sound pair fits = rw (size, lengths, passable, sound, pair) fits

-- an image is read, and gives the tables of its costs and the lent passing times
module _ (n : ℕ) (t : Tables) (image : List ℕ) (size : up_to most_stops n ≡ true) (lengths : sized n t ≡ true) (passable : valid_passing n t.layout.passing ≡ true) (is : is_image n image ≡ true) where
  abbrev reading : Call
  reading = record { n = n; ask = image_read image t.layout.passing }

  pub read_taken : refusal reading t ≡ Accepted
  unfolding refusal rule
  read_taken = rw (size, sized-passing n t lengths, eq-eqb n n refl, lengths, passable, is)

  read-gives : after reading t ≡ filled scale most_ways n (laid (costs_of n image) t.layout.passing)
  unfolding after rule
  read-gives = rw read_taken

-- what is written from tables is read into any others of the same lengths, and gives the same tables if the passing times are the same
pub written_back : (n : ℕ) (t t' : Tables) (buffer : List ℕ) → refusal (record { n = n; ask = image_write buffer }) t ≡ Accepted → sized n t' ≡ true →
    t'.layout.passing ≡ t.layout.passing →
    let a : Answer = answer (record { n = n; ask = image_write buffer }) t in
    let c : Call = record { n = n; ask = image_read (take a.length a.buffer) t'.layout.passing } in
    (refusal c t' ≡ Accepted) × (after c t' ≡ t)
unfolding rule
written_back n t t' buffer ok lengths alike =
    let call : Call = record { n = n; ask = image_write buffer } in
    let image : List ℕ = image_of n t.layout.cost in
    let w = image-writes n t buffer in
    let (size, sizes, tests) = passed call t ok in
    let (valid, same) = right-true scale most_ways n t (written-right w ok) in
    let small : n ≤ 64 = (stops n size).1 in
    let costs = written-costs n t.layout.cost small valid (sized-cost n t sizes) in
    let passable : valid_passing n t'.layout.passing ≡ true = rw alike (brief call t ok) in
    let is = written_read n t.layout.cost small valid in
    let layouts : laid (costs_of n image) t'.layout.passing ≡ t.layout = λ i. laid (costs i) (alike i) in
    let front : take (length image) (image ++ drop (length image) buffer) ≡ image = take-append_seam image _ in
    rw (written-length w ok, written-buffer w ok, front)
    (read_taken n t' image size lengths passable is, read-gives n t' image size lengths passable is ∙ ap (filled scale most_ways n) layouts ∙ same)

-- an image that is read, written again from what it gave, gives its bytes, and the bytes past them stay
pub read_back : (n : ℕ) (t : Tables) (image passing buffer : List ℕ) → Bytes image → refusal (record { n = n; ask = image_read image passing }) t ≡ Accepted →
    length image ≤ length buffer →
    let c : Call = record { n = n; ask = image_write buffer } in
    let t' : Tables = after (record { n = n; ask = image_read image passing }) t in
    (refusal c t' ≡ Accepted) × ((answer c t').length ≡ length image) × ((answer c t').buffer ≡ image ++ drop (length image) buffer)
unfolding filled rule OfMove
read_back n t image passing buffer bytes ok fits =
    let read : Call = record { n = n; ask = image_read image passing } in
    let lay : Layout = laid (costs_of n image) passing in
    let (size, lengths, tests) = passed read t ok in
    let again = read-written n image (stops n size).1 bytes (need-true (is_image n image) BadImage _ tests).0 in
    let w = image-writes n (filled scale most_ways n lay) buffer in
    let taken = write-taken w (held-audited n lay (accepted-held read t ok tt)) refl refl (rw again fits) in
    rw (accepted-filled read t ok)
    (taken, written-length w taken ∙ ap length again, written-buffer w taken ∙ ap (λ l. l ++ drop (length l) buffer) again)
