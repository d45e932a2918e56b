-- An accepted list of edits: it names the union of what its edits touch, rows outside the union stay, and the scores move by what the
-- shares inside it move. Any list on right tables does what its edits do one after another, up to the first that is refused.
-- Assumes nothing.
use Rattle.std.specs.Prelude.{Err}
use Prim.Native.Nat.{ℕ, ◌+◌, ◌<◌, ◌≤◌}
use mathlib.Core.Path.{◌≡◌, refl, sym, ◌∙◌, ap}
use mathlib.Core.Bool.{Bool, true, false, cond, ◌&&◌, ◌||◌, and-false, or-false}
use mathlib.Core.List.{List, [], ◌∷◌}
use lib.Dec.{ltb, leb}
use lib.ListN.{length}
use Rattle.routes.specs.Route.{sum_to, has, set_of}
use Rattle.routes.proofs.Sums.{sum_to-zero, sum_to-cong}
use borrow.Author.Tests.{eq-eqb, lt-ltb, le-leb, lt-leb}
use Rattle.routes.proofs.Booleans.{both}
use Rattle.routes.proofs.Bits.{has-set_of}
use Rattle.book.specs.Hall.{Layout, Tables, most_stops, most_edits, most_ways, scale, filled, right, touched}
use Rattle.book.specs.Call.{Call, audit, edit, edit_list, number, accepted, with_edit, edit_refusal, run, with_edits, touched_by, Verdict, judged, of_an_edit, Answer, refused_at, names, Rule, rule, reply, refusal, after, answer, Accepted, Outcome}
use Rattle.book.specs.Book.{Book, tables_of, SetFacts, changed}
use Rattle.book.specs.Contract.{Audited}
use Rattle.book.specs.declared.Edit.{Edit}
use Rattle.book.specs.declared.Refusal.TheVariants.{ListTooLong}
use Rattle.book.proofs.Filled.{sized-filled, right-filled, right-true}
use Rattle.book.proofs.Passed.{need-true, accepted-only, passed, audited, up-to, permitted, judged-true, brief}
use Rattle.book.proofs.Answers.{answer-refusal, reply-either}
use Rattle.book.proofs.Places.{none_told, edit-tells, accepted-place}
use Rattle.book.proofs.Steps.{Held, held-right, held-edited, accepted-book, refusal-book}
use Rattle.book.proofs.Sets.{same_row, row_stays, set-facts}
use Rattle.book.proofs.Edits.{row_kept}
use Rattle.book.proofs.Doors.{leaves-tables}

neither : (a b : Bool) → (a || b) ≡ false → (a ≡ false) × (b ≡ false)
neither false b e = (refl, e)
neither true b e = absurd (both refl e)

-- a row that no edit of the list touches is the old one
pub list-stays : (n k : ℕ) (edits : List Edit) (lay : Layout) → Held n lay → accepted (judged n k edits lay).refusal ≡ true →
    (s : ℕ) → s < n → touched_by n edits lay s ≡ false → changed n (filled scale most_ways n lay) (filled scale most_ways n (with_edits n edits lay)) s ≡ false
unfolding run touched_by rule
list-stays n k [] lay h ok s hs away = same_row n _ _ s (record { time = λ x l. refl; ways = λ x l. refl; share = λ x l. refl })
list-stays n k (e ∷ rest) lay h ok s hs away =
    let lay' : Layout = with_edit n e lay in
    let (first, then) = judged-true n k e rest lay ok in
    let (here, later) = neither (touched n lay lay' e.u e.v s) (touched_by n rest lay' s) away in
    row_stays n (filled scale most_ways n lay) (filled scale most_ways n lay') _ s (row_kept n e lay h first s hs here)
    (list-stays n (k + 1) rest lay' (held-edited n e lay h (permitted n e lay first)) then s hs later)

-- the promises of demand 3 for an accepted list
listed-rule : (n : ℕ) (edits : List Edit) (lay : Layout) → Held n lay → accepted (rule n (edit_list edits) lay).tests ≡ true →
    SetFacts n (touched_by n edits lay) (filled scale most_ways n lay) (filled scale most_ways n (with_edits n edits lay)) (rule n (edit_list edits) lay).says
unfolding rule
listed-rule n edits lay h ok =
    let (short, judged) = need-true (leb (length edits) most_edits) ListTooLong _ ok in
    set-facts n (touched_by n edits lay) lay (with_edits n edits lay) 0 (up-to most_stops n h.size).1 (list-stays n 1 edits lay h judged)

-- and for every accepted list on the tables of a book
pub listed-book : (c : Call) (b : Book) (edits : List Edit) → Held b.stops b.layout → c.ask ≡ edit_list edits →
    refusal c (tables_of b) ≡ Accepted → SetFacts c.n (touched_by c.n edits b.layout) (tables_of b) (after c (tables_of b)) (answer c (tables_of b))
unfolding after answer filled rule
listed-book c b edits h asked ok =
    let (same, fits, passable, sound, tests) = accepted-book c b (ap accepted (sym (refusal-book c b h) ∙ ok)) in
    rw (ok, asked, ← same) (listed-rule c.n edits b.layout (rw same h) (rw asked at tests))

-- an edit and a list of edits as calls
abbrev pub one : ℕ → Edit → Call
one n e = record { n = n; ask = edit e }

abbrev pub list : ℕ → List Edit → Call
list n edits = record { n = n; ask = edit_list edits }

-- the edits as calls one after another: the first refused one and its place, k being the place of the first in hand
unfoldable pub in_turn : (n k : ℕ) → List Edit → Tables → Verdict
in_turn n k [] t = record { refusal = Accepted; place = 0 }
in_turn n k (e ∷ rest) t = cond (accepted (refusal (one n e) t)) (in_turn n (k + 1) rest (after (one n e) t)) (record { refusal = refusal (one n e) t; place = k })

-- and the sources that one of them names
unfoldable pub named_by : ℕ → List Edit → Tables → ℕ → Bool
named_by n [] t s = false
named_by n (e ∷ rest) t s = has (answer (one n e) t).touched s || named_by n rest (after (one n e) t) s

-- an edit on the tables of a hall
module _ (n : ℕ) (e : Edit) (lay : Layout) (h : Held n lay) where
  abbrev here : Tables
  here = filled scale most_ways n lay

  one-refusal : refusal (one n e) here ≡ edit_refusal n e lay.cost
  unfolding refusal rule filled
  one-refusal =
      rw (h.size, sized-filled scale most_ways n n lay h.square h.long ∙ eq-eqb n n refl, h.passable, right-filled scale most_ways n lay h.valid)

  one-after : accepted (edit_refusal n e lay.cost) ≡ true → after (one n e) here ≡ filled scale most_ways n (with_edit n e lay)
  unfolding after rule filled
  one-after ok = rw (one-refusal, ok)

  one-names : accepted (edit_refusal n e lay.cost) ≡ true → (s : ℕ) → has (answer (one n e) here).touched s ≡ (ltb s n && touched n lay (with_edit n e lay) e.u e.v s)
  unfolding answer rule filled
  one-names ok s = rw (one-refusal, ok) (has-set_of n (touched n lay (with_edit n e lay) e.u e.v) s)

-- so the edits one after another are judged as the list is, and leave and name what it leaves and names
turn-judged : (n k : ℕ) (edits : List Edit) (lay : Layout) → Held n lay → in_turn n k edits (filled scale most_ways n lay) ≡ judged n k edits lay
unfolding in_turn judged rule
turn-judged n k [] lay h = refl
turn-judged n k (e ∷ rest) lay h =
    rw (one-refusal n e lay h) (go (accepted (edit_refusal n e lay.cost)) refl (λ ok.
    rw (one-after n e lay h ok) (turn-judged n (k + 1) rest (with_edit n e lay) (held-edited n e lay h (permitted n e lay ok)))))
  where
    stopped : Verdict
    stopped = record { refusal = edit_refusal n e lay.cost; place = k }

    go : (b : Bool) → accepted (edit_refusal n e lay.cost) ≡ b →
        (accepted (edit_refusal n e lay.cost) ≡ true → in_turn n (k + 1) rest (after (one n e) (filled scale most_ways n lay)) ≡ judged n (k + 1) rest (with_edit n e lay)) →
        cond b (in_turn n (k + 1) rest (after (one n e) (filled scale most_ways n lay))) stopped ≡ cond b (judged n (k + 1) rest (with_edit n e lay)) stopped
    go true ok more = more ok
    go false ok more = refl

turn-left : (n k : ℕ) (edits : List Edit) (lay : Layout) → Held n lay → accepted (judged n k edits lay).refusal ≡ true →
    run (λ e. after (one n e)) edits (filled scale most_ways n lay) ≡ filled scale most_ways n (with_edits n edits lay)
unfolding run rule
turn-left n k [] lay h ok = refl
turn-left n k (e ∷ rest) lay h ok =
    let (first, then) = judged-true n k e rest lay ok in
    rw (one-after n e lay h first) (turn-left n (k + 1) rest (with_edit n e lay) (held-edited n e lay h (permitted n e lay first)) then)

turn-named : (n k : ℕ) (edits : List Edit) (lay : Layout) → Held n lay → accepted (judged n k edits lay).refusal ≡ true → (s : ℕ) →
    (ltb s n && touched_by n edits lay s) ≡ named_by n edits (filled scale most_ways n lay) s
unfolding touched_by named_by rule
turn-named n k [] lay h ok s = and-false (ltb s n)
turn-named n k (e ∷ rest) lay h ok s =
    let (first, then) = judged-true n k e rest lay ok in
    let lay' : Layout = with_edit n e lay in
    either (ltb s n) (touched n lay lay' e.u e.v s) (touched_by n rest lay' s) ∙
    rw (one-names n e lay h first s, one-after n e lay h first, ← turn-named n (k + 1) rest lay' (held-edited n e lay h (permitted n e lay first)) then s)
  where
    either : (a b c : Bool) → (a && (b || c)) ≡ ((a && b) || (a && c))
    either true b c = refl
    either false b c = refl

module _ (n : ℕ) (edits : List Edit) (lay : Layout) (h : Held n lay) (few : length edits ≤ most_edits) where
  abbrev there : Tables
  there = filled scale most_ways n lay

  verdict-of : refusal (list n edits) there ≡ (judged n 1 edits lay).refusal
  unfolding refusal rule filled
  verdict-of =
      rw (h.size, sized-filled scale most_ways n n lay h.square h.long ∙ eq-eqb n n refl, h.passable, right-filled scale most_ways n lay h.valid, le-leb (length edits) most_edits few)

  place_of : (answer (list n edits) there).place ≡ (judged n 1 edits lay).place
  unfolding answer rule filled
  place_of = rw verdict-of (go (accepted (judged n 1 edits lay).refusal) refl)
    where
      go : (b : Bool) → accepted (judged n 1 edits lay).refusal ≡ b →
          (cond b (names n (touched_by n edits lay) 0) (refused_at (judged n 1 edits lay).refusal (cond (of_an_edit (judged n 1 edits lay).refusal) (judged n 1 edits lay).place 0) [])).place ≡ (judged n 1 edits lay).place
      go true ok = sym (accepted-place n 1 edits lay ok)
      go false shut = rw (edit-tells n 1 edits lay shut)

  in-turn : let a : Answer = answer (list n edits) there in
      let first : Verdict = in_turn n 1 edits there in
      (a.refusal ≡ first.refusal) × (a.place ≡ first.place) ×
      (accepted first.refusal ≡ true → (after (list n edits) there ≡ run (λ e. after (one n e)) edits there) × ((s : ℕ) → has a.touched s ≡ named_by n edits there s) ×
      (a.rows ≡ sum_to n (λ s. cond (named_by n edits there s) 1 0)))
  unfolding after answer rule filled
  in-turn = rw (turn-judged n 1 edits lay h) (
    answer-refusal (list n edits) there ∙ verdict-of,
    place_of,
    λ ok. (
      rw (verdict-of, ok) (sym (turn-left n 1 edits lay h ok)),
      λ s. rw (verdict-of, ok) (has-set_of n (touched_by n edits lay) s ∙ turn-named n 1 edits lay h ok s),
      rw (verdict-of, ok) (sum_to-cong n (λ s l. rw (← turn-named n 1 edits lay h ok s, lt-ltb s n l))),
    ),
  )

-- on right tables a list of at most 32 edits answers as its edits do one after another: the refusal and the place of the first that is
-- refused; where none is, it leaves what they leave, and names and counts the union of what they name
pub list-in-turn : (n : ℕ) (edits : List Edit) (t : Tables) → Audited n t → length edits ≤ most_edits →
    let a : Answer = answer (list n edits) t in
    let first : Verdict = in_turn n 1 edits t in
    (a.refusal ≡ first.refusal) × (a.place ≡ first.place) ×
    (accepted first.refusal ≡ true → (after (list n edits) t ≡ run (λ e. after (one n e)) edits t) × ((s : ℕ) → has a.touched s ≡ named_by n edits t s) ×
    (a.rows ≡ sum_to n (λ s. cond (named_by n edits t s) 1 0)))
list-in-turn n edits t sound few =
    let h = held-right n t sound.inside.size sound.inside.lengths sound.inside.passable sound.sound in
    let filling = (right-true scale most_ways n t sound.sound).1 in
    rw filling at (in-turn n edits t.layout h few)

-- on any tables on which it is accepted, which are right by that, a list has the facts of demand 3: rows outside the union are the old
-- ones
pub list-facts : (n : ℕ) (edits : List Edit) (t : Tables) → refusal (list n edits) t ≡ Accepted →
    SetFacts n (touched_by n edits t.layout) t (after (list n edits) t) (answer (list n edits) t)
unfolding after answer rule
list-facts n edits t ok =
    let (size, lengths, tests) = passed (list n edits) t ok in
    let sound : right scale most_ways n t ≡ true = audited (list n edits) t ok in
    let same = (right-true scale most_ways n t sound).1 in
    rw ok (rw same at (listed-rule n edits t.layout (held-right n t size lengths (brief (list n edits) t ok) sound) tests))

-- refused with 1, 2, 13, 3 or 12, and with whatever is no refusal of an edit, a list tells no place
pub list-unplaced : (n : ℕ) (edits : List Edit) (t : Tables) → let r : Outcome = refusal (list n edits) t in
    (ltb (number r) 4 || ltb 8 (number r)) ≡ true → (answer (list n edits) t).place ≡ 0
unfolding answer rule
list-unplaced n edits t e =
    reply-either (λ a. a.place ≡ 0) (refusal (list n edits) t) (rule n (edit_list edits) t.layout) (λ ok. refl) (none_told (refusal (list n edits) t) (judged n 1 edits t.layout).place e)

-- 12 comes behind 3 and before the edits
pub list-long : (n : ℕ) (edits : List Edit) (t : Tables) → Audited n t → most_edits < length edits →
    (refusal (list n edits) t ≡ Err ListTooLong) × ((answer (list n edits) t).place ≡ 0) × (after (list n edits) t ≡ t)
unfolding refusal after answer rule
list-long n edits t sound long = rw (sound.inside.size, sound.inside.lengths, sound.inside.passable, sound.sound, lt-leb (length edits) most_edits long) (refl, refl, refl)

-- a list of no edits is an audit that names no source
pub list-none : (n : ℕ) (t : Tables) → let a : Answer = answer (list n []) t in
    (a.refusal ≡ refusal (record { n = n; ask = audit }) t) × (a.place ≡ 0) × (a.touched ≡ 0) × (a.rows ≡ 0) × (after (list n []) t ≡ t)
unfolding refusal answer rule judged touched_by run set_of
list-none n t = (answer-refusal (list n []) t, said.0, said.1, said.2, leaves-tables (list n []) t refl refl)
  where
    none : (b : Bool) → cond {A = ℕ} b 0 0 ≡ 0
    none true = refl
    none false = refl

    nothing : Answer → Type 0
    nothing a = (a.place ≡ 0) × (a.touched ≡ 0) × (a.rows ≡ 0)

    said : nothing (answer (list n []) t)
    said = reply-either nothing (refusal (list n []) t) (rule n (edit_list []) t.layout) (λ ok. (refl, sum_to-zero n (λ i l. refl), sum_to-zero n (λ i l. refl)))
        (none (of_an_edit (refusal (list n []) t)), refl, refl)

-- a list of one edit is that edit, but for the place
module _ (n : ℕ) (e : Edit) (t : Tables) where
  alone : (judged n 1 (e ∷ []) t.layout).refusal ≡ edit_refusal n e t.layout.cost
  unfolding judged
  alone = go (accepted (edit_refusal n e t.layout.cost)) refl
    where
      go : (b : Bool) → accepted (edit_refusal n e t.layout.cost) ≡ b →
          (cond {A = Verdict} b (record { refusal = Accepted; place = 0 }) (record { refusal = edit_refusal n e t.layout.cost; place = 1 })).refusal ≡ edit_refusal n e t.layout.cost
      go true ok = sym (accepted-only (edit_refusal n e t.layout.cost) ok)
      go false shut = refl

  same-refusal : refusal (list n (e ∷ [])) t ≡ refusal (one n e) t
  unfolding refusal rule
  same-refusal = rw alone

  same-sources : touched_by n (e ∷ []) t.layout ≡ touched n t.layout (with_edit n e t.layout) e.u e.v
  unfolding touched_by
  same-sources i s = or-false (touched n t.layout (with_edit n e t.layout) e.u e.v s) i

  -- what the two say, by their common refusal
  same_set : (r : Outcome) → let a : Answer = reply r (rule n (edit_list (e ∷ [])) t.layout) in let b : Answer = reply r (rule n (edit e) t.layout) in
      (a.touched ≡ b.touched) × (a.rows ≡ b.rows)
  unfolding rule
  same_set r = go (accepted r)
    where
      go : (b : Bool) → let said : Rule → Answer = λ x. cond b x.says (refused_at r (x.place r) x.lent_buffer) in
          ((said (rule n (edit_list (e ∷ [])) t.layout)).touched ≡ (said (rule n (edit e) t.layout)).touched) ×
          ((said (rule n (edit_list (e ∷ [])) t.layout)).rows ≡ (said (rule n (edit e) t.layout)).rows)
      go true = (ap (set_of n) same-sources, ap (λ sources. sum_to n (λ s. cond (sources s) 1 0)) same-sources)
      go false = (refl, refl)

  pub list-one : let a : Answer = answer (list n (e ∷ [])) t in let b : Answer = answer (one n e) t in
      (a.refusal ≡ b.refusal) × (a.touched ≡ b.touched) × (a.rows ≡ b.rows) × (after (list n (e ∷ [])) t ≡ after (one n e) t)
  unfolding after answer run rule
  list-one = (
    answer-refusal (list n (e ∷ [])) t ∙ same-refusal ∙ sym (answer-refusal (one n e) t),
    rw same-refusal (same_set (refusal (one n e) t)).0,
    rw same-refusal (same_set (refusal (one n e) t)).1,
    rw same-refusal,
  )
