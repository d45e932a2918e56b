-- Demand 3, and what follows from it. Assumes nothing.
use Rattle.std.specs.Prelude.{Err}
use Prim.Native.Nat.{ℕ, ◌+◌, ◌<◌}
use mathlib.Core.Path.{◌≡◌, refl, sym, ◌∙◌, ap, ap₂, subst, subst⁻¹}
use mathlib.Core.Logic.{◌≢◌}
use mathlib.Core.Bool.{Bool, true, false, cond, ◌&&◌}
use mathlib.Core.List.{List, [], ◌∷◌, ◌++◌, map}
use lib.Dec.{ltb}
use lib.ListN.{get_or}
use borrow.Author.Tests.{eq-eqb, lt-ltb}
use Rattle.routes.specs.Route.{sum_to, has}
use Rattle.routes.proofs.Sums.{sum_to-cong}
use Rattle.book.specs.Hall.{Layout, Tables, most_stops, most_ways, scale, old_most_ways, old_scale, up_to, entry, filled, sized, right, touched, laid, no_passing, links_alone, valid_passing, crowded_pair, uncrowded}
use Rattle.book.specs.Call.{Call, empty_hall, move_over, work_out, edit, edit_list, run, touched_by, need, rule, Answer, refusal, after, answer, Done, reversal, with_layout, Accepted}
use Rattle.book.specs.Book.{Book, tables_of, book_refusal, book_after, book_answers, Step, calls_of, lent, kept, Sequence, Start, at_empty_hall, at_moved_hall, start_ask, first_layout, first_book, Started, changed, SetFacts, EditFacts, Demand3}
use Rattle.book.specs.declared.Edit.{Edit}
use Rattle.book.specs.declared.Refusal.TheVariants.{BadTables}
use Rattle.book.proofs.Filled.{sized-filled, sized-passing}
use Rattle.book.proofs.Answers.{answer-refusal, book-refusal, done-refusal}
use Rattle.book.proofs.Refused.{kept-left}
use Rattle.book.proofs.Steps.{Held, held-worked, held_after, accepted-filled, answer-made, kept-made, never-bad, lent-held}
use Rattle.book.proofs.Moves.{moving, move-leaves, old-moved, move-book, told-book, move-three, crowded-three}
use Rattle.book.proofs.Edits.{edited-book}
use Rattle.book.proofs.Lists.{listed-book}

-- a sequence from the tables of a book leaves those of the book at its end
run-made : (steps : List Step) (b : Book) → Held b.stops b.layout → Sequence (tables_of b) steps →
    (run kept steps (tables_of b) ≡ filled scale most_ways b.stops (run book_after (calls_of steps) b).layout) × Held b.stops (run book_after (calls_of steps) b).layout
unfolding run Sequence book_after
run-made [] b h made = (refl, h)
run-made (s ∷ rest) b h (d, made) =
    let same = kept-made s b h d in
    let (left, held) = run-made rest (book_after s.call b) (held_after s.call b h) (subst (λ t. Sequence t rest) same made) in
    (rw same left, held)

-- and its answers are the book's
answers-made : (steps : List Step) (b : Book) → Held b.stops b.layout → Sequence (tables_of b) steps →
    map (λ s. s.answer) steps ≡ book_answers (calls_of steps) b
unfolding book_answers Sequence
answers-made [] b h made = refl
answers-made (s ∷ rest) b h (d, made) =
    ap₂ ◌∷◌ (answer-made s b h d)
    (answers-made rest (book_after s.call b) (held_after s.call b h) (subst (λ t. Sequence t rest) (kept-made s b h d) made))

-- a part of a sequence is one, the call behind it was lent what it left, and the rest is a sequence from what that call left
front : (made : List Step) (s : Step) (rest : List Step) (t : Tables) → Sequence t (made ++ s ∷ rest) →
    Sequence t made × Done s.call (lent s.call (run kept made t)) s.left s.answer × Sequence (kept s (run kept made t)) rest
unfolding run Sequence
front [] s rest t (d, more) = (tt, d, more)
front (m ∷ made) s rest t (d, more) = let (part, e, behind) = front made s rest (kept m t) more in ((d, part), e, behind)

-- what holds of an accepted call on the tables of a book holds of one that was made there, if it was lent the five themselves
facts-made : (P : Tables → Answer → Type 0) (s : Step) (b : Book) → lent s.call (tables_of b) ≡ tables_of b →
    Done s.call (lent s.call (tables_of b)) s.left s.answer → s.answer.refusal ≡ Accepted →
    (refusal s.call (tables_of b) ≡ Accepted → P (after s.call (tables_of b)) (answer s.call (tables_of b))) → P s.left s.answer
facts-made P s b own d ok facts =
    let same : Done s.call (tables_of b) s.left s.answer = subst (λ t. Done s.call t s.left s.answer) own d in
    rw (same.left, same.answered) (facts (sym (done-refusal s.call (tables_of b) same) ∙ ok))

-- an accepted edit on the tables of a book, and an accepted list, have the facts that demand 3 wants
edited-made : (s : Step) (b : Book) (e : Edit) → Held b.stops b.layout → s.call.ask ≡ edit e →
    Done s.call (lent s.call (tables_of b)) s.left s.answer → s.answer.refusal ≡ Accepted →
    EditFacts s.call.n e (tables_of b) s.left s.answer
unfolding rule
edited-made s b e h asked d ok =
    facts-made (EditFacts s.call.n e (tables_of b)) s b (ap (λ ask. lent (record { n = s.call.n; ask = ask }) (tables_of b)) asked) d ok
    (edited-book s.call b e h asked)

listed-made : (s : Step) (b : Book) (edits : List Edit) → Held b.stops b.layout → s.call.ask ≡ edit_list edits →
    Done s.call (lent s.call (tables_of b)) s.left s.answer → s.answer.refusal ≡ Accepted →
    SetFacts s.call.n (touched_by s.call.n edits (tables_of b).layout) (tables_of b) s.left s.answer
unfolding rule filled
listed-made s b edits h asked d ok =
    facts-made (SetFacts s.call.n (touched_by s.call.n edits b.layout) (tables_of b)) s b
    (ap (λ ask. lent (record { n = s.call.n; ask = ask }) (tables_of b)) asked) d ok (listed-book s.call b edits h asked)

-- the layout of the tables that such a call left is that of the book at first
layout-first : (from : Start) (N : ℕ) (found start : Tables) →
    let c : Call = record { n = N; ask = start_ask from } in
    let leaves : Layout = (rule N (start_ask from) (lent c found).layout).leaves in
    start ≡ filled scale most_ways N leaves → leaves ≡ first_layout from N start
unfolding rule filled
layout-first (at_empty_hall passing) N found start e = refl
layout-first at_moved_hall N found start e = ap (λ t. laid t.layout.cost (no_passing N)) (sym e)

module _ (from : Start) (N : ℕ) (start : Tables) (begun : Started from N start) where
  abbrev opening : Call
  opening = record { n = N; ask = start_ask from }

  abbrev given : Tables
  given = lent opening begun.found

  opened : refusal opening given ≡ Accepted
  opened = sym (done-refusal opening given begun.done) ∙ begun.taken

  start-filled : start ≡ filled scale most_ways N (rule N (start_ask from) given.layout).leaves
  start-filled = begun.done.left ∙ accepted-filled opening given opened

  -- so the tables are that book's
  held_first : Held N (first_layout from N start)
  held_first = subst (Held N) (layout-first from N begun.found start start-filled) (lent-held opening begun.found opened)

  start-book : start ≡ tables_of (first_book from N start)
  start-book = start-filled ∙ ap (filled scale most_ways N) (layout-first from N begun.found start start-filled)

  -- after a sequence the tables are those of a book, whose layout is the sequence's
  at-end : (steps : List Step) → Sequence start steps →
      let b : Book = run book_after (calls_of steps) (first_book from N start) in
      (run kept steps start ≡ filled scale most_ways N b.layout) × Held N b.layout
  at-end steps made =
      let (left, held) = run-made steps (first_book from N start) held_first (subst (λ t. Sequence t steps) start-book made) in
      (ap (run kept steps) start-book ∙ left, held)

  -- what holds of the tables of every book holds of them
  pub of_books : (P : Tables → Type 0) (steps : List Step) → Sequence start steps → ((lay : Layout) → Held N lay → P (filled scale most_ways N lay)) → P (run kept steps start)
  of_books P steps made h = let (same, held) = at-end steps made in subst⁻¹ P same (h _ held)

  -- a call in a sequence was made on the tables of a book
  at-step : (P : Tables → Type 0) (before rest : List Step) (s : Step) → Sequence start (before ++ s ∷ rest) →
      ((b : Book) → b.stops ≡ N → Held b.stops b.layout → Done s.call (lent s.call (tables_of b)) s.left s.answer → P (tables_of b)) →
      P (run kept before start)
  at-step P before rest s made facts =
      let (part, d, more) = front before s rest start made in
      of_books (λ t. Done s.call (lent s.call t) s.left s.answer → P t) before part (λ lay h d. facts (record { stops = N; layout = lay }) refl h d) d

-- demand 3
pub demand3 : Demand3
unfolding Demand3
demand3 from N start steps begun made = (
  (at-end from N start begun steps made).0,
  answers-made steps (first_book from N start) (held_first from N start begun) (subst (λ t. Sequence t steps) (start-book from N start begun) made),
  λ before rest s e split asked ok.
      at-step from N start begun (λ t. EditFacts s.call.n e t s.left s.answer) before rest s (subst (Sequence start) split made)
      (λ b N-stops h d. edited-made s b e h asked d ok),
  λ before rest s edits split asked ok.
      at-step from N start begun (λ t. SetFacts s.call.n (touched_by s.call.n edits t.layout) t s.left s.answer) before rest s (subst (Sequence start) split made)
      (λ b N-stops h d. listed-made s b edits h asked d ok),
)

-- what an accepted empty hall or moving call leaves are such tables to start from
pub sequence-from : (from : Start) (N : ℕ) (found : Tables) → let c : Call = record { n = N; ask = start_ask from } in
    refusal c (lent c found) ≡ Accepted → Started from N (after c (lent c found))
sequence-from from N found ok =
    let c : Call = record { n = N; ask = start_ask from } in
    record { found = found; said = answer c (lent c found); done = record { left = refl; answered = refl }; taken = answer-refusal c (lent c found) ∙ ok }

-- of a moving call the book has the links of the tables that it found, and every passing time 0
pub moved-starts : (N : ℕ) (found : Tables) → let given : Tables = lent (moving N) found in
    refusal (moving N) given ≡ Accepted →
    Started at_moved_hall N (after (moving N) given) × (first_layout at_moved_hall N (after (moving N) given) ≡ links_alone N found.layout)
unfolding filled rule
moved-starts N found ok =
    (sequence-from at_moved_hall N found ok, λ i. laid (move-leaves N (lent (moving N) found) refl ok i).layout.cost (no_passing N))

-- and the tables of every hall without passing times and crowded pairs are such tables: those of its links by the old numbers, moved
pub hall-starts : (N : ℕ) (lay : Layout) → Held N (links_alone N lay) → uncrowded most_ways N (links_alone N lay) ≡ true → Started at_moved_hall N (filled scale most_ways N (links_alone N lay))
unfolding filled rule
hall-starts N lay h few = let (ok, left) = old-moved N lay h few in subst (Started at_moved_hall N) left (moved-starts N (filled old_scale old_most_ways N (links_alone N lay)) ok).0

-- every N from 1 to 64, with valid passing times, has an empty hall to start from, and every list of calls is such a sequence
pub sequence-starts : (N : ℕ) (passing : List ℕ) (found : Tables) → let c : Call = record { n = N; ask = empty_hall passing } in
    up_to most_stops N ≡ true → sized N (lent c found) ≡ true → valid_passing N passing ≡ true → Started (at_empty_hall passing) N (after c (lent c found))
unfolding refusal rule
sequence-starts N passing found size lengths passable =
    sequence-from (at_empty_hall passing) N found (rw (size, sized-passing N (with_layout (laid found.layout.cost passing) found) lengths, eq-eqb N N refl, lengths, passable))

abbrev pub step_of : Call → Tables → Step
step_of c t = record { call = c; left = after c (lent c t); answer = answer c (lent c t) }

unfoldable pub steps_of : List Call → Tables → List Step
steps_of [] t = []
steps_of (c ∷ calls) t = step_of c t ∷ steps_of calls (kept (step_of c t) t)

pub sequence-runs : (calls : List Call) (t : Tables) → Sequence t (steps_of calls t) × (calls_of (steps_of calls t) ≡ calls)
unfolding Sequence steps_of
sequence-runs [] t = (tt, refl)
sequence-runs (c ∷ calls) t =
    let (made, same) = sequence-runs calls (kept (step_of c t) t) in
    ((record { left = refl; answered = refl }, made), ap (λ l. c ∷ l) same)

module _ (from : Start) (N : ℕ) (start : Tables) (begun : Started from N start) where
  -- sequences that end with the same links and passing times end with the same tables, wherever they started
  pub same-links : (from' : Start) (start' : Tables) → Started from' N start' → (steps steps' : List Step) → Sequence start steps → Sequence start' steps' →
      (run book_after (calls_of steps) (first_book from N start)).layout ≡ (run book_after (calls_of steps') (first_book from' N start')).layout →
      run kept steps start ≡ run kept steps' start'
  unfolding Demand3
  same-links from' start' begun' steps steps' made made' same =
      (demand3 from N start steps begun made).0 ∙ ap (filled scale most_ways N) same ∙ sym (demand3 from' N start' steps' begun' made').0

  -- sequences of the same calls from the same links and passing times answer the same, whatever their first tables held before
  pub same-answers : (from' : Start) (start' : Tables) → Started from' N start' → (steps steps' : List Step) → Sequence start steps → Sequence start' steps' →
      first_layout from N start ≡ first_layout from' N start' → calls_of steps ≡ calls_of steps' → map (λ s. s.answer) steps ≡ map (λ s. s.answer) steps'
  unfolding Demand3
  same-answers from' start' begun' steps steps' made made' first same =
      (demand3 from N start steps begun made).1 ∙ ap₂ (λ calls lay. book_answers calls (record { stops = N; layout = lay })) same first ∙
      sym (demand3 from' N start' steps' begun' made').1

  -- an accepted edit of a sequence in the words of its routes: it changes no row but those of the sources that it touches, and exactly
  -- those if no pair is crowded before or after; it answers how many they are, and moves each score by what their shares move
  pub edit-exact : (before rest : List Step) (s : Step) (e : Edit) → Sequence start (before ++ s ∷ rest) → s.call.ask ≡ edit e → s.answer.refusal ≡ Accepted →
      let n : ℕ = s.call.n in
      let t : Tables = run kept before start in
      let t' : Tables = s.left in
      let touches : ℕ → Bool = touched n t.layout t'.layout e.u e.v in
      ((x : ℕ) → x < n → touches x ≡ false → changed n t t' x ≡ false) ×
      (uncrowded most_ways n t.layout ≡ true → uncrowded most_ways n t'.layout ≡ true → (x : ℕ) → x < n → changed n t t' x ≡ touches x) ×
      (s.answer.rows ≡ sum_to 64 (λ x. cond (ltb x n && touches x) 1 0)) ×
      ((x : ℕ) → x < n →
      get_or t'.score x 0 + sum_to n (λ s. cond (touches s) (entry n t.share s x) 0) ≡ get_or t.score x 0 + sum_to n (λ s. cond (touches s) (entry n t'.share s x) 0))
  unfolding Demand3
  edit-exact before rest s e made asked ok =
      let f = (demand3 from N start (before ++ s ∷ rest) begun made).2 before rest s e refl asked ok in
      let t : Tables = run kept before start in
      let n : ℕ = s.call.n in
      let touches : ℕ → Bool = touched n t.layout s.left.layout e.u e.v in
      let member : (x : ℕ) → x < n → has s.answer.touched x ≡ touches x = λ x l. f.set.names x ∙ rw (lt-ltb x n l) in
      let over : (u : Tables) (x : ℕ) → sum_to n (λ s'. cond (has s.answer.touched s') (entry n u.share s' x) 0) ≡ sum_to n (λ s'. cond (touches s') (entry n u.share s' x) 0) =
      λ u x. sum_to-cong n (λ i l. rw (member i l)) in
      (λ x l away. f.set.stays x l (member x l ∙ away), λ few few' x l. f.changes few few' x l ∙ member x l, f.set.counts ∙ sum_to-cong 64 (λ i l. rw (f.set.names i)), λ x l. rw (← over t x, ← over s.left x) (f.set.moves x l))

  -- an accepted edit of a sequence that the next call reverses: that one is accepted too, leaves the five tables of before the edit,
  -- and touches the same sources
  pub reversed-next : (before rest : List Step) (s r : Step) (e : Edit) → Sequence start (before ++ s ∷ r ∷ rest) → s.call.ask ≡ edit e →
      s.answer.refusal ≡ Accepted → r.call ≡ record { n = s.call.n; ask = edit (reversal e.kind e.u e.v s.answer) } →
      let t : Tables = run kept before start in
      (r.answer.refusal ≡ Accepted) × (kept r (kept s t) ≡ t) × (r.answer.touched ≡ s.answer.touched) × (r.answer.rows ≡ s.answer.rows)
  unfolding Demand3 Sequence rule
  reversed-next before rest s r e made asked ok back =
      let back-of : Call = record { n = s.call.n; ask = edit (reversal e.kind e.u e.v s.answer) } in
      let t : Tables = run kept before start in
      let facts = ((demand3 from N start (before ++ s ∷ r ∷ rest) begun made).2 before (r ∷ rest) s e refl asked ok).reverses in
      let (part, d, (d', more)) = front before s (r ∷ rest) start made in
      let same : kept s t ≡ s.left = kept-left s t d (ap (λ ask. lent (record { n = s.call.n; ask = ask }) t) asked) in
      let lent-so : lent r.call (kept s t) ≡ kept s t = ap (λ c. lent c (kept s t)) back in
      let done : Done back-of s.left r.left r.answer = subst (λ t. Done back-of t r.left r.answer) (lent-so ∙ same) (subst (λ c. Done c (lent r.call (kept s t)) r.left r.answer) back d') in (
        done-refusal back-of s.left done ∙ facts.taken,
        kept-left r (kept s t) d' lent-so ∙ done.left ∙ facts.gives,
        ap (λ a. a.touched) done.answered ∙ facts.touches.0,
        ap (λ a. a.rows) done.answered ∙ facts.touches.1,
      )

  -- no call of a sequence but the moving one answers 3
  pub never-three : (made : List Step) (s : Step) (rest : List Step) → Sequence start (made ++ s ∷ rest) → s.call.ask ≢ move_over → s.answer.refusal ≢ Err BadTables
  never-three made s rest all another =
      at-step from N start begun (λ t. s.answer.refusal ≢ Err BadTables) made rest s all
      (λ b N-stops h d bad. never-bad s.call b another (sym (ap (λ a. a.refusal) (answer-made s b h d) ∙ book-refusal s.call b) ∙ bad))

  -- a moving call of a sequence leaves the tables as they are; with N it says 3 exactly where they are not also those of the old scale
  -- and limit for passing times of 0, as with any share above 0 and with any crowded pair, and else it is accepted: it never says 11
  abbrev alike : ℕ → Tables → Bool
  alike n t = right old_scale old_most_ways n (with_layout (links_alone n t.layout) t) && uncrowded old_most_ways n (links_alone n t.layout)

  module _ (made : List Step) (s : Step) (rest : List Step) (all : Sequence start (made ++ s ∷ rest)) (asked : s.call.ask ≡ move_over) where
    pub moved-kept : kept s (run kept made start) ≡ run kept made start
    moved-kept =
        at-step from N start begun (λ t. kept s t ≡ t) made rest s all (λ b N-stops h d.
        kept-made s b h d ∙ ap tables_of (ap (λ ask. book_after (record { n = s.call.n; ask = ask }) b) asked ∙ move-book s.call.n b))

    module _ (size : s.call.n ≡ N) where
      said-book : (b : Book) → b.stops ≡ N → Held b.stops b.layout → Done s.call (lent s.call (tables_of b)) s.left s.answer →
          s.answer.refusal ≡ book_refusal (moving b.stops) b
      said-book b N-stops h d =
          let call : s.call ≡ moving b.stops = λ i. record { n = (size ∙ sym N-stops) i; ask = asked i } in
          ap (λ a. a.refusal) (answer-made s b h d) ∙ book-refusal s.call b ∙ ap (λ c. book_refusal c b) call

      pub moved_told : s.answer.refusal ≡ need (alike N (run kept made start)) BadTables Accepted
      unfolding filled
      moved_told =
          at-step from N start begun (λ t. s.answer.refusal ≡ need (alike N t) BadTables Accepted) made rest s all (λ b N-stops h d.
          said-book b N-stops h d ∙ told-book b h ∙ ap (λ m. need (alike m (tables_of b)) BadTables Accepted) N-stops)

      pub moved-three : (x v : ℕ) → x < N → v < N → 0 < entry N (run kept made start).share x v → s.answer.refusal ≡ Err BadTables
      moved-three x v k l =
          at-step from N start begun (λ t. 0 < entry N t.share x v → s.answer.refusal ≡ Err BadTables) made rest s all (λ b N-stops h d some.
          said-book b N-stops h d ∙ move-three b h x v (rw N-stops k) (rw N-stops l) (subst (λ m. 0 < entry m (tables_of b).share x v) (sym N-stops) some))

      pub moved-crowded : (x y : ℕ) → x < N → y < N → crowded_pair most_ways N (run kept made start).layout x y ≡ true → s.answer.refusal ≡ Err BadTables
      unfolding filled
      moved-crowded x y k l =
          at-step from N start begun (λ t. crowded_pair most_ways N t.layout x y ≡ true → s.answer.refusal ≡ Err BadTables) made rest s all (λ b N-stops h d full.
          said-book b N-stops h d ∙ crowded-three b h x y (rw N-stops k) (rw N-stops l) (subst (λ m. crowded_pair most_ways m b.layout x y ≡ true) (sym N-stops) full))

  -- a work out on the layout that a sequence leaves is accepted and changes nothing
  pub worked-out : (steps : List Step) → Sequence start steps →
      let t : Tables = run kept steps start in
      let c : Call = record { n = N; ask = work_out t.layout } in
      (refusal c t ≡ Accepted) × (after c t ≡ t)
  unfolding after filled rule
  worked-out steps made =
      let worked : Tables → Call = λ t. record { n = N; ask = work_out t.layout } in
      of_books from N start begun (λ t. (refusal (worked t) t ≡ Accepted) × (after (worked t) t ≡ t)) steps made
      (λ lay h.
      let taken = held-worked N lay (filled scale most_ways N lay) h (sized-filled scale most_ways N N lay h.square h.long ∙ eq-eqb N N refl) in
      (taken, rw taken))
