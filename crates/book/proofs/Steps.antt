-- One call on the tables of a book: it is refused, leaves and answers what the book says. Assumes nothing.
use Rattle.std.specs.Prelude.{Ok, Err}
use Prim.Native.Nat.{ℕ, ◌+◌, ◌*◌, ◌<◌}
use mathlib.Core.Path.{◌≡◌, refl, ◌∙◌, ap, subst}
use mathlib.Core.Logic.{◌≢◌}
use mathlib.Core.Bool.{Bool, true, false, cond, not, ◌&&◌, and-eq-true_iff}
use mathlib.Core.List.{List, [], ◌∷◌}
use lib.Dec.{eqb, ltb, leb}
use lib.ListN.{length, length-set, length-replicate, get_or-replicate}
use native.Mathlib.Omega.{arith}
use borrow.Author.Tests.{eqb-true, eq-eqb, ne_eqb, leb-true}
use Rattle.routes.proofs.Booleans.{both}
use Rattle.routes.proofs.Sums.{all_of}
use Rattle.book.specs.Hall.{Layout, laid, Tables, most_stops, most_ways, most_edits, scale, old_most_ways, old_scale, up_to, entry, filled, sized, valid_costs, valid_passing, no_passing, links_alone, no_links, crowded_pair, uncrowded, right, route_list, image_of, is_image}
use Rattle.book.specs.Call.{Ask, empty_hall, audit, move_over, work_out, edit, edit_list, list_routes, image_write, image_read, Call, number, accepted, need, cost_set, with_edit, edit_refusal, run, with_edits, judged, Rule, writing, rule, with_layout, Answer, refusal, after, answer, Done, Accepted, Outcome}
use Rattle.book.specs.Book.{Book, tables_of, book_refusal, book_after, book_answer, Step, lent, kept, Sequence}
use Rattle.book.specs.Contract.{Audited}
use Rattle.book.specs.declared.Edit.{Edit}
use Rattle.book.specs.declared.Refusal.{Refusal}
use Rattle.book.specs.declared.Refusal.TheVariants.{BadSize, BadLength, BadTables, BadStop, BadCost, BadImage, ShortBuffer, TooManyWays, ListTooLong, BadPassing, CrowdedPair}
use Rattle.book.proofs.Tables.{entry_set, valid-set}
use Rattle.book.proofs.Images.{length-read, read-valid}
use Rattle.book.proofs.NoLinks.{valid-none}
use Rattle.book.proofs.Filled.{sized-beside, sized-costs, sized-filled, sized-cost, sized-passing, right-filled, right-true}
use Rattle.book.proofs.Alone.{moved_same}
use Rattle.book.proofs.Answers.{book-refusal}
use Rattle.book.proofs.Places.{Told, edit-told, judged-told}
use Rattle.book.proofs.Passed.{need-true, chain-true, passed, fitted, brief, audited, Permitted, permitted, judged-true}

-- what holds of a book's N and layout at every point of a sequence
pub record Held (n : ℕ) (lay : Layout) : Type 0 where
  pub size : up_to most_stops n ≡ true
  pub square : length lay.cost ≡ n * n
  pub long : length lay.passing ≡ n
  pub valid : valid_costs n lay.cost ≡ true
  pub passable : valid_passing n lay.passing ≡ true

-- it holds where there are no links
pub held_none : (n : ℕ) (passing : List ℕ) → up_to most_stops n ≡ true → length passing ≡ n → valid_passing n passing ≡ true → Held n (no_links n passing)
held_none n passing size long passable = record {
  size = size;
  square = length-replicate (n * n) 0;
  long = long;
  valid = valid-none n;
  passable = passable;
}

-- of a layout with which work out passes its tests, and work out accepts those of which it holds
pub worked-held : (n : ℕ) (brought lay : Layout) → let r : Rule = rule n (work_out brought) lay in
    up_to most_stops n ≡ true → r.fits ≡ true → valid_passing n r.lent.passing ≡ true → accepted r.tests ≡ true → Held n brought
unfolding rule
worked-held n brought lay size fits passable e =
    let (square, long) = (and-eq-true_iff (eqb (length brought.cost) (n * n)) _).0 fits in
    let (valid, e₁) = need-true (valid_costs n brought.cost) BadCost _ e in
    record { size = size; square = eqb-true _ _ square; long = eqb-true _ _ long; valid = valid; passable = passable }

pub held-worked : (n : ℕ) (brought : Layout) (t : Tables) → Held n brought → sized n t ≡ true → refusal (record { n = n; ask = work_out brought }) t ≡ Accepted
unfolding refusal rule
held-worked n brought t h s = rw (h.size, s, h.square, h.long, eq-eqb (n * n) (n * n) refl, eq-eqb n n refl, h.passable, h.valid)

module _ (n : ℕ) (e : Edit) (lay : Layout) (h : Held n lay) (p : Permitted n e lay) where
  -- an edit leaves the new cost at its link, and the others as they were
  pub entry-edited : (s t : ℕ) → t < n → entry n (with_edit n e lay).cost s t ≡ cond (eqb e.u s && eqb e.v t) (cost_set e.kind e.cost) (entry n lay.cost s t)
  entry-edited s t ht = entry_set n lay.cost e.u e.v (cost_set e.kind e.cost) s t h.square p.from p.to ht

  pub held-edited : Held n (with_edit n e lay)
  held-edited = record {
    size = h.size;
    square = length-set lay.cost _ _ ∙ h.square;
    long = h.long;
    passable = h.passable;
    valid = valid-set n lay.cost e.u e.v (cost_set e.kind e.cost) h.square p.from p.to p.apart p.fits h.valid;
  }

-- and so does a list of them
pub held-list : (n k : ℕ) (edits : List Edit) (lay : Layout) → Held n lay → accepted (judged n k edits lay).refusal ≡ true → Held n (with_edits n edits lay)
unfolding run rule
held-list n k [] lay h ok = h
held-list n k (e ∷ rest) lay h ok =
    let (first, then) = judged-true n k e rest lay ok in
    held-list n (k + 1) rest (with_edit n e lay) (held-edited n e lay h (permitted n e lay first)) then

-- of the layout of tables that are right
pub held-right : (n : ℕ) (t : Tables) → up_to most_stops n ≡ true → sized n t ≡ true → valid_passing n t.layout.passing ≡ true → right scale most_ways n t ≡ true →
    Held n t.layout
held-right n t size lengths passable sound =
    let (valid, same) = right-true scale most_ways n t sound in
    record { size = size; square = sized-cost n t lengths; long = sized-passing n t lengths; valid = valid; passable = passable }

-- the tables of such a layout are what the audit finds right
pub held-audited : (n : ℕ) (lay : Layout) → Held n lay → Audited n (filled scale most_ways n lay)
unfolding filled
held-audited n lay h = record {
  inside = record { size = h.size; lengths = sized-filled scale most_ways n n lay h.square h.long ∙ eq-eqb n n refl; passable = h.passable };
  sound = right-filled scale most_ways n lay h.valid;
}

-- every passing time 0: none is too long
pub none-brief : (n : ℕ) → valid_passing n (no_passing n) ≡ true
unfolding valid_passing
none-brief n = all_of n _ (λ v l. rw (get_or-replicate {A = ℕ} n v 0 0 l))

-- of the links of tables that are right by the old numbers
pub held-old : (n : ℕ) (t : Tables) → up_to most_stops n ≡ true → sized n t ≡ true → (rule n move_over t.layout).sound t ≡ true → Held n (links_alone n t.layout)
unfolding rule
held-old n t size lengths old =
    let alone : Layout = links_alone n t.layout in
    let (found, few) = (and-eq-true_iff (right old_scale old_most_ways n (with_layout alone t)) (uncrowded old_most_ways n alone)).0 old in
    let (valid, same) = right-true old_scale old_most_ways n (with_layout alone t) found in
    record { size = size; square = sized-cost n t lengths; long = length-replicate n 0; valid = valid; passable = none-brief n }

-- what is asked of the moving call alone
unfoldable pub OfMove : Ask → Type 0 → Type 0
OfMove (empty_hall passing) X = Unit {0}
OfMove audit X = Unit {0}
OfMove move_over X = X
OfMove (work_out brought) X = Unit {0}
OfMove (edit e) X = Unit {0}
OfMove (edit_list edits) X = Unit {0}
OfMove (list_routes s t buffer) X = Unit {0}
OfMove (image_write buffer) X = Unit {0}
OfMove (image_read image passing) X = Unit {0}

pub of-move : (ask : Ask) {X : Type 0} → X → OfMove ask X
unfolding OfMove
of-move (empty_hall passing) x = tt
of-move audit x = tt
of-move move_over x = x
of-move (work_out brought) x = tt
of-move (edit e) x = tt
of-move (edit_list edits) x = tt
of-move (list_routes s t buffer) x = tt
of-move (image_write buffer) x = tt
of-move (image_read image passing) x = tt

-- and of the layout that a call leaves which passes its tests; a moving call leaves the one that it found
rule-held : (n : ℕ) (ask : Ask) (t : Tables) → let r : Rule = rule n ask t.layout in
    up_to most_stops n ≡ true → sized n t ≡ true → r.fits ≡ true → valid_passing n r.lent.passing ≡ true → r.sound t ≡ true → accepted r.tests ≡ true →
    OfMove ask (Held n t.layout) → Held n r.leaves
unfolding rule OfMove
rule-held n (empty_hall passing) t size lengths fits passable sound e own = held_none n passing size (eqb-true _ _ fits) passable
rule-held n audit t size lengths fits passable sound e own = held-right n t size lengths passable sound
rule-held n move_over t size lengths fits passable sound e own = own
rule-held n (work_out brought) t size lengths fits passable sound e own = worked-held n brought t.layout size fits passable e
rule-held n (edit x) t size lengths fits passable sound e own = held-edited n x t.layout (held-right n t size lengths passable sound) (permitted n x t.layout e)
rule-held n (edit_list edits) t size lengths fits passable sound e own =
    let (short, judged) = need-true (leb (length edits) most_edits) ListTooLong _ e in
    held-list n 1 edits t.layout (held-right n t size lengths passable sound) judged
rule-held n (list_routes s x buffer) t size lengths fits passable sound e own = held-right n t size lengths passable sound
rule-held n (image_write buffer) t size lengths fits passable sound e own = held-right n t size lengths passable sound
rule-held n (image_read image passing) t size lengths fits passable sound e own =
    let (is, e₁) = need-true (is_image n image) BadImage _ e in
    record { size = size; square = length-read n image; long = eqb-true _ _ fits; valid = read-valid n image is; passable = passable }

-- so it holds of the layout that any accepted call leaves, on any tables, and its tables are left
module _ (c : Call) (t : Tables) (e : refusal c t ≡ Accepted) where
  pub accepted-held : OfMove c.ask (Held c.n t.layout) → Held c.n (rule c.n c.ask t.layout).leaves
  accepted-held own =
      let (size, lengths, tests) = passed c t e in
      rule-held c.n c.ask t size lengths (fitted c t e) (brief c t e) (audited c t e) tests own

  pub accepted-filled : after c t ≡ filled scale most_ways c.n (rule c.n c.ask t.layout).leaves
  unfolding after
  accepted-filled = rw e

-- on what a call is lent this is so, also of the moving call
pub lent-held : (c : Call) (t : Tables) → refusal c (lent c t) ≡ Accepted → Held c.n (rule c.n c.ask (lent c t).layout).leaves
unfolding rule OfMove
lent-held c t e = accepted-held c (lent c t) e (own c.ask (passed c (lent c t) e) (audited c (lent c t) e))
  where
    own : (ask : Ask) → let t' : Tables = lent (record { n = c.n; ask = ask }) t in let r : Rule = rule c.n ask t'.layout in
        (up_to most_stops c.n ≡ true) × (sized c.n t' ≡ true) × (accepted r.tests ≡ true) → r.sound t' ≡ true → OfMove ask (Held c.n t'.layout)
    own (empty_hall passing) p sound = tt
    own audit p sound = tt
    own move_over (size, lengths, tests) sound = held-old c.n (with_layout (links_alone c.n t.layout) t) size lengths sound
    own (work_out brought) p sound = tt
    own (edit e) p sound = tt
    own (edit_list edits) p sound = tt
    own (list_routes s x buffer) p sound = tt
    own (image_write buffer) p sound = tt
    own (image_read image passing) p sound = tt

-- a work out as its contract has it, on its own layout beside four of the tables, is a step from the tables
pub work-out-step : (n : ℕ) (brought : Layout) (t t' : Tables) (a : Answer) → Done (record { n = n; ask = work_out brought }) (with_layout brought t) t' a →
    Sequence t (record { call = record { n = n; ask = work_out brought }; left = t'; answer = a } ∷ [])
unfolding Sequence rule
work-out-step n brought t t' a d = (d, tt)

-- the rule of a call on what it is lent is that over the present layout, but that a moving call leaves its links alone
abbrev lent_leaves : ℕ → Ask → Layout → Layout
lent_leaves n ask lay = (rule n ask (rule n ask lay).lent).leaves

abbrev leaving : Layout → Rule → Rule
leaving leaves r = record {
  lent = r.lent;
  lent_buffer = r.lent_buffer;
  fits = r.fits;
  sound = r.sound;
  sound_in_book = r.sound_in_book;
  tests = r.tests;
  place = r.place;
  leaves = leaves;
  says = r.says;
}

rule-lent : (n : ℕ) (ask : Ask) (lay : Layout) → rule n ask (rule n ask lay).lent ≡ leaving (lent_leaves n ask lay) (rule n ask lay)
unfolding rule
rule-lent n (empty_hall passing) lay = refl
rule-lent n audit lay = refl
rule-lent n move_over lay = refl
rule-lent n (work_out brought) lay = refl
rule-lent n (edit e) lay = refl
rule-lent n (edit_list edits) lay = refl
rule-lent n (list_routes s t buffer) lay = refl
rule-lent n (image_write buffer) lay = refl
rule-lent n (image_read image passing) lay = refl

-- tables that are right pass whatever a call audits, but for the moving call, of which the book asks the same
sound-in-book : (n : ℕ) (ask : Ask) (lay : Layout) (t : Tables) → right scale most_ways n t ≡ true → (rule n ask lay).sound t ≡ (rule n ask lay).sound_in_book t
unfolding rule
sound-in-book n (empty_hall passing) lay t e = refl
sound-in-book n audit lay t e = e
sound-in-book n move_over lay t e = refl
sound-in-book n (work_out c) lay t e = refl
sound-in-book n (edit x) lay t e = e
sound-in-book n (edit_list edits) lay t e = e
sound-in-book n (list_routes s x buffer) lay t e = e
sound-in-book n (image_write buffer) lay t e = e
sound-in-book n (image_read image passing) lay t e = refl

module _ (c : Call) (b : Book) where
  abbrev ruled : Rule
  ruled = rule c.n c.ask b.layout

  -- a call that the book accepts has its N, and passes its own tests; what it brings fits
  pub accepted-book : accepted (book_refusal c b) ≡ true →
      (c.n ≡ b.stops) × (ruled.fits ≡ true) × (valid_passing c.n ruled.lent.passing ≡ true) × (ruled.sound_in_book (tables_of b) ≡ true) × (accepted ruled.tests ≡ true)
  unfolding book_refusal
  accepted-book e =
      let (size, lengths, passable, sound, tests) =
      chain-true c.n (ruled.fits && eqb c.n b.stops) (valid_passing c.n ruled.lent.passing) (ruled.sound_in_book (tables_of b)) ruled.tests e in
      let (fits, same) = (and-eq-true_iff ruled.fits (eqb c.n b.stops)).0 lengths in
      (eqb-true c.n b.stops same, fits, passable, sound, tests)

  module _ (h : Held b.stops b.layout) where
    -- the book's tables have the lengths for N alone, and pass what a call audits exactly where the book says so
    lengths-book : sized c.n (tables_of b) ≡ eqb c.n b.stops
    lengths-book = sized-filled scale most_ways c.n b.stops b.layout h.square h.long

    sound-book : c.n ≡ b.stops → ruled.sound (tables_of b) ≡ ruled.sound_in_book (tables_of b)
    sound-book same =
        sound-in-book c.n c.ask b.layout (tables_of b) (rw same (right-filled scale most_ways b.stops b.layout h.valid))

    -- so they refuse what the book refuses
    pub refusal-book : refusal c (tables_of b) ≡ book_refusal c b
    unfolding refusal book_refusal filled
    refusal-book = rw lengths-book (ap (need (up_to most_stops c.n) BadSize) (go ruled.fits (eqb c.n b.stops) refl))
      where
        behind : Bool → Outcome
        behind sound = need (valid_passing c.n ruled.lent.passing) BadPassing (need sound BadTables ruled.tests)

        go : (f x : Bool) → eqb c.n b.stops ≡ x →
            need (f && x) BadLength (behind (ruled.sound (tables_of b))) ≡ need (f && x) BadLength (behind (ruled.sound_in_book (tables_of b)))
        go true true e = rw (sound-book (eqb-true c.n b.stops e))
        go true false e = refl
        go false x e = refl

    -- the book after the call
    pub held_after : Held (book_after c b).stops (book_after c b).layout
    unfolding book_after filled
    held_after = go (accepted (book_refusal c b)) refl
      where
        go : (x : Bool) → accepted (book_refusal c b) ≡ x → Held b.stops (cond x ruled.leaves b.layout)
        go true e =
            let (same, fits, passable, sound, tests) = accepted-book e in
            let lengths : sized c.n (tables_of b) ≡ true = lengths-book ∙ eq-eqb c.n b.stops same in
            subst (λ n. Held n ruled.leaves) same
            (rule-held c.n c.ask (tables_of b) (rw same h.size) lengths fits passable (sound-book same ∙ sound) tests (of-move c.ask (rw same h)))
        go false e = h

-- a test that is made twice
and-twice : (x y : Bool) → (x && (x && y)) ≡ (x && y)
and-twice true y = refl
and-twice false y = refl

and-both-twice : (x y z : Bool) → ((x && y) && (x && (y && z))) ≡ ((x && y) && z)
and-both-twice true y z = and-twice y z
and-both-twice false y z = refl

-- a call on what it is lent refuses what the book refuses: the lengths
module _ (n : ℕ) (b : Book) (h : Held b.stops b.layout) where
  abbrev beside : Ask → Tables
  beside ask = with_layout (rule n ask b.layout).lent (tables_of b)

  with-passing : (passing : List ℕ) → sized n (with_layout (laid b.layout.cost passing) (tables_of b)) ≡ (eqb (length passing) n && eqb n b.stops)
  with-passing passing = sized-costs scale most_ways n b.stops b.layout passing h.square

  present : sized n (tables_of b) ≡ eqb n b.stops
  present = sized-filled scale most_ways n b.stops b.layout h.square h.long

  lent-sized : (ask : Ask) → let fits : Bool = (rule n ask b.layout).fits in (fits && sized n (beside ask)) ≡ (fits && eqb n b.stops)
  unfolding rule filled
  lent-sized (empty_hall passing) = ap (λ x. eqb (length passing) n && x) (with-passing passing) ∙ and-twice (eqb (length passing) n) (eqb n b.stops)
  lent-sized audit = present
  lent-sized move_over = with-passing (no_passing n) ∙ rw (length-replicate {A = ℕ} n 0, eq-eqb n n refl)
  lent-sized (work_out brought) =
      ap (λ x. (eqb (length brought.cost) (n * n) && eqb (length brought.passing) n) && x) (sized-beside scale most_ways n b.stops b.layout brought) ∙
      and-both-twice (eqb (length brought.cost) (n * n)) (eqb (length brought.passing) n) (eqb n b.stops)
  lent-sized (edit e) = present
  lent-sized (edit_list edits) = present
  lent-sized (list_routes s t buffer) = present
  lent-sized (image_write buffer) = present
  lent-sized (image_read image passing) = ap (λ x. eqb (length passing) n && x) (with-passing passing) ∙ and-twice (eqb (length passing) n) (eqb n b.stops)

  -- what it audits
  lent-sound : (ask : Ask) → (rule n ask b.layout).sound (beside ask) ≡ (rule n ask b.layout).sound (tables_of b)
  unfolding rule filled
  lent-sound (empty_hall passing) = refl
  lent-sound audit = refl
  lent-sound move_over = refl
  lent-sound (work_out brought) = refl
  lent-sound (edit e) = refl
  lent-sound (edit_list edits) = refl
  lent-sound (list_routes s t buffer) = refl
  lent-sound (image_write buffer) = refl
  lent-sound (image_read image passing) = refl

  refusal-lent : (ask : Ask) → let c : Call = record { n = n; ask = ask } in refusal c (lent c (tables_of b)) ≡ book_refusal c b
  unfolding refusal filled
  refusal-lent ask = rw (rule-lent n ask b.layout, lent-sized ask, lent-sound ask, ← present) (refusal-book (record { n = n; ask = ask }) b h)

-- what is left of the tables of a layout by an accepted call on what it is lent, with the passing times that the host then has
kept_leaves : (n : ℕ) (ask : Ask) (lay : Layout) → Held n lay → (rule n ask lay).sound_in_book (filled scale most_ways n lay) ≡ true →
    with_layout (laid (lent_leaves n ask lay).cost (rule n ask lay).leaves.passing) (filled scale most_ways n (lent_leaves n ask lay)) ≡ filled scale most_ways n (rule n ask lay).leaves
unfolding rule filled
kept_leaves n (empty_hall passing) lay h sound = refl
kept_leaves n audit lay h sound = refl
kept_leaves n move_over lay h sound = moved_same n lay ((and-eq-true_iff (right old_scale old_most_ways n (with_layout (links_alone n lay) (filled scale most_ways n lay))) (uncrowded old_most_ways n (links_alone n lay))).0 sound).0
kept_leaves n (work_out brought) lay h sound = refl
kept_leaves n (edit e) lay h sound = refl
kept_leaves n (edit_list edits) lay h sound = refl
kept_leaves n (list_routes s t buffer) lay h sound = refl
kept_leaves n (image_write buffer) lay h sound = refl
kept_leaves n (image_read image passing) lay h sound = refl

-- a call that was made on the tables of a book: its answer is the book's, and the tables after it are those of the book after it
module _ (s : Step) (b : Book) (h : Held b.stops b.layout) (d : Done s.call (lent s.call (tables_of b)) s.left s.answer) where
  refusal-made : refusal s.call (lent s.call (tables_of b)) ≡ book_refusal s.call b
  refusal-made = refusal-lent s.call.n b h s.call.ask

  pub answer-made : s.answer ≡ book_answer s.call b
  unfolding answer book_answer filled
  answer-made = d.answered ∙ rw (refusal-made, rule-lent s.call.n s.call.ask b.layout)

  pub kept-made : kept s (tables_of b) ≡ tables_of (book_after s.call b)
  unfolding after book_after filled
  kept-made =
      rw (answer-made, book-refusal s.call b, d.left, refusal-made)
      (go (accepted (book_refusal s.call b)) refl)
    where
      leaves : Layout
      leaves = (rule s.call.n s.call.ask b.layout).leaves

      go : (x : Bool) → accepted (book_refusal s.call b) ≡ x →
          let t' : Tables = cond x (filled scale most_ways s.call.n (lent_leaves s.call.n s.call.ask b.layout)) (lent s.call (tables_of b)) in
          with_layout (cond x (laid t'.layout.cost leaves.passing) b.layout) t' ≡ filled scale most_ways b.stops (cond x leaves b.layout)
      go true e =
          let (same, fits, passable, sound, tests) = accepted-book s.call b e in
          kept_leaves s.call.n s.call.ask b.layout (rw same h) (rw (← same) at sound) ∙ rw same
      go false e = refl

-- an answer other than k
record Other (k : ℕ) (r : Outcome) : Type 0 where
  apart : eqb (number r) k ≡ false

need-other : {k : ℕ} (p : Bool) (r : Refusal) {next : Outcome} → eqb (number (Err r)) k ≡ false → Other k next → Other k (need p r next)
need-other true r e f = f
need-other false r e f = record { apart = e }

-- an answer that is neither 3 nor 11, as every test of a call's own gives but the moving one's
record Own (r : Outcome) : Type 0 where
  three : Other 3 r
  eleven : Other 11 r

need-own : (p : Bool) (r : Refusal) {next : Outcome} → eqb (number (Err r)) 3 ≡ false → eqb (number (Err r)) 11 ≡ false → Own next → Own (need p r next)
need-own p r e f own = record { three = need-other p r e own.three; eleven = need-other p r f own.eleven }

accepted-own : Own Accepted
accepted-own = record { three = record { apart = refl }; eleven = record { apart = refl } }

-- what only an edit's refusals are
told-own : (r : Outcome) → Told r → Own r
told-own (Ok tt) t = accepted-own
told-own (Err r) t =
    let (low, high) = (and-eq-true_iff (leb 4 (number (Err r))) (leb (number (Err r)) 8)).0 (t.tells refl) in
    record {
      three = record { apart = ne_eqb (number (Err r)) 3 (λ e. omega (arith, e, leb-true 4 (number (Err r)) low)) };
      eleven = record { apart = ne_eqb (number (Err r)) 11 (λ e. omega (arith, e, leb-true (number (Err r)) 8 high)) };
    }

-- and those of a call that writes
writing-own : (n : ℕ) (known full : Bool) (bytes buffer : List ℕ) (lay : Layout) → Own (writing n known full bytes buffer lay).tests
writing-own n known full bytes buffer lay =
    need-own known BadStop refl refl (need-own (not full) CrowdedPair refl refl (need-own (leb (length bytes) (length buffer)) ShortBuffer refl refl accepted-own))

rule-own : (n : ℕ) (ask : Ask) (lay : Layout) → ask ≢ move_over → Own (rule n ask lay).tests
unfolding rule
rule-own n (empty_hall passing) lay other = accepted-own
rule-own n audit lay other = accepted-own
rule-own n move_over lay other = absurd (other refl)
rule-own n (work_out brought) lay other = need-own (valid_costs n brought.cost) BadCost refl refl accepted-own
rule-own n (edit e) lay other = told-own (edit_refusal n e lay.cost) (edit-told n e lay.cost)
rule-own n (edit_list edits) lay other =
    need-own (leb (length edits) most_edits) ListTooLong refl refl (told-own (judged n 1 edits lay).refusal (judged-told n 1 edits lay))
rule-own n (list_routes s t buffer) lay other = writing-own n (ltb s n && ltb t n) (crowded_pair most_ways n lay s t) (route_list n lay s t) buffer lay
rule-own n (image_write buffer) lay other = writing-own n true false (image_of n lay.cost) buffer lay
rule-own n (image_read image passing) lay other = need-own (is_image n image) BadImage refl refl accepted-own

-- so no call but the moving one says 11, on any tables
pub never-eleven : (c : Call) (t : Tables) → c.ask ≢ move_over → refusal c t ≢ Err TooManyWays
unfolding refusal
never-eleven c t another e =
    let r : Rule = rule c.n c.ask t.layout in
    let tests : Other 11 (need (r.sound t) BadTables r.tests) = need-other (r.sound t) BadTables refl (rule-own c.n c.ask t.layout another).eleven in
    let rest = need-other (r.fits && sized c.n t) BadLength refl (need-other (valid_passing c.n r.lent.passing) BadPassing refl tests) in
    let other : Other 11 (refusal c t) = need-other (up_to most_stops c.n) BadSize refl rest in
    both (ap (λ r. eqb (number r) 11) e) other.apart

-- of the tables that a book gives only the moving call asks anything
asks_nothing : (n : ℕ) (ask : Ask) (lay : Layout) (t : Tables) → ask ≢ move_over → (rule n ask lay).sound_in_book t ≡ true
unfolding rule
asks_nothing n (empty_hall passing) lay t other = refl
asks_nothing n audit lay t other = refl
asks_nothing n move_over lay t other = absurd (other refl)
asks_nothing n (work_out c) lay t other = refl
asks_nothing n (edit e) lay t other = refl
asks_nothing n (edit_list edits) lay t other = refl
asks_nothing n (list_routes s x buffer) lay t other = refl
asks_nothing n (image_write buffer) lay t other = refl
asks_nothing n (image_read image passing) lay t other = refl

-- so to any other call a book never says 3
pub never-bad : (c : Call) (b : Book) → c.ask ≢ move_over → book_refusal c b ≢ Err BadTables
unfolding book_refusal
never-bad c b another e =
    let r : Rule = rule c.n c.ask b.layout in
    let own : Other 3 (need (r.sound_in_book (tables_of b)) BadTables r.tests) = rw (asks_nothing c.n c.ask b.layout (tables_of b) another) (rule-own c.n c.ask b.layout another).three in
    let brief = need-other (valid_passing c.n r.lent.passing) BadPassing refl own in
    let rest = need-other (r.fits && eqb c.n b.stops) BadLength refl brief in
    let other : Other 3 (book_refusal c b) = need-other (up_to most_stops c.n) BadSize refl rest in
    both (ap (λ r. eqb (number r) 3) e) other.apart
