-- Where a list of edits stands after some of its edits, all of them accepted: it begins so, and each accepted edit leads on. Assumes
-- nothing.
use Rattle.std.specs.Prelude.{Result, Ok}
use Rattle.std.proofs.lemmas.List.Elements.{All-append, All-cons}
use Prim.Native.Nat.{ℕ, ◌+◌, ◌*◌, ◌<◌, ◌≤◌}
use mathlib.Core.Path.{◌≡◌, refl, sym, ◌∙◌, ap, ap₂}
use mathlib.Core.Bool.{true, false, cond}
use mathlib.Core.List.{List, [], ◌∷◌, ◌++◌}
use native.Mathlib.Omega.{arith}
use lib.Bits.{bit_or}
use lib.Dec.{leb}
use lib.ListN.{length, get_or, length-append}
use borrow.Author.Tests.{leb-true}
use Rattle.routes.specs.Route.{set_of}
use Rattle.links.proofs.Flat.{flat-lt}
use Rattle.book.specs.Hall.{Tables, most_ways, most_edits, scale, entry, filled, sized, right, touched, Layout, laid, valid_passing}
use Rattle.book.specs.Call.{Outcome, Accepted, Call, edit, accepted, with_edit, edit_refusal, run, with_edits, touched_by, judged, rule, refusal, after, answer, names, Done, cost_set}
use Rattle.book.specs.Contract.{of_edit, Audited}
use Rattle.book.specs.declared.Edit.{Edit}
use Rattle.book.specs.declared.Edited.{Edited}
use Rattle.book.specs.declared.Refusal.{Refusal}
use Rattle.book.specs.declared.Refusal.TheVariants.{ListTooLong}
use Rattle.book.proofs.Filled.{right-true}
use Rattle.book.proofs.Sizes.{stops}
use Rattle.book.proofs.Passed.{need-true, chain-true, Permitted, permitted}
use Rattle.book.proofs.Answers.{done-refusal}
use Rattle.book.proofs.Doors.{behind-audit}
use Rattle.book.proofs.Steps.{Held, held-right, held-list, held-audited}
use Rattle.course.specs.declared.Course.{Course}
use Rattle.course.specs.Promise.{admits, kept, change_of, Noted, IsInside, undo, undone}
use Rattle.course.proofs.Unions.{set_of-or, set_of-none}
use Rattle.course.proofs.Undone.{undone-more}
use Rattle.course.proofs.Verdicts.{with_edits-more, touched_by-more, judged-more}

-- these edits were made, and no other: the tables are theirs, the course has what they touched, and its changes can be put back
pub record Running (n : ℕ) (start : Tables) (made : List Edit) (c : Course) (t : Tables) : Type 0 where
  pub held : Held n start.layout
  pub begins : filled scale most_ways n start.layout ≡ start
  pub many : c.done ≡ length made
  pub taken : accepted (judged n 1 made start.layout).refusal ≡ true
  pub now : t ≡ filled scale most_ways n (with_edits n made start.layout)
  pub union : c.touched ≡ set_of n (touched_by n made start.layout)
  pub inside : IsInside (n * n) (kept c)
  pub back : undo (kept c) t.layout ≡ start.layout

pub running-audited : (n : ℕ) (start : Tables) (made : List Edit) (c : Course) (t : Tables) → Running n start made c t → Audited n t
running-audited n start made c t r =
    rw r.now (held-audited n (with_edits n made start.layout) (held-list n 1 made start.layout r.held r.taken))

-- a list that is let in: its tables are right, and it is not too long
pub admitted : (n long : ℕ) (t : Tables) → accepted (admits n long t) ≡ true → Audited n t × (long ≤ most_edits)
admitted n long t ok =
    let (size, lengths, passable, sound, rest) = chain-true n (sized n t) (valid_passing n t.layout.passing) (right scale most_ways n t) _ ok in
    let (short, done) = need-true (leb long most_edits) ListTooLong Accepted rest in
    (record { inside = record { size = size; lengths = lengths; passable = passable }; sound = sound }, leb-true long most_edits short)

-- before the first edit
pub running-begins : (n long : ℕ) (t : Tables) (c : Course) → accepted (admits n long t) ≡ true → c.touched ≡ 0 → c.done ≡ 0 → Running n t [] c t
unfolding run judged undone touched_by filled
running-begins n long t c ok none empty =
    let a = (admitted n long t ok).0 in
    let filling = (right-true scale most_ways n t a.sound).1 in
    record {
      held = held-right n t a.inside.size a.inside.lengths a.inside.passable a.sound;
      begins = filling;
      many = empty;
      taken = refl;
      now = sym filling;
      union = none ∙ sym (set_of-none n);
      inside = rw empty (λ i x l. absurd (omega arith));
      back = rw empty refl;
    }

-- what an edit did that was made on right tables
module _ (n : ℕ) (e : Edit) (t t' : Tables) (a : Result Edited Refusal) (d : Done (record { n = n; ask = edit e }) t t' (of_edit a)) where
  abbrev call : Call
  call = record { n = n; ask = edit e }

  abbrev said : Outcome
  said = (of_edit a).refusal

  edit-judged : Audited n t → said ≡ edit_refusal n e t.layout.cost
  unfolding rule
  edit-judged sound = done-refusal call t d ∙ behind-audit call t (λ s. refl) refl refl sound

  accepts : accepted (refusal call t) ≡ accepted said
  accepts = ap accepted (sym (done-refusal call t d))

  -- it lies inside the hall
  pub edit-inside : Audited n t → accepted said ≡ true → (e.u < n) × (e.v < n) × (n ≤ 64)
  unfolding rule
  edit-inside sound ok =
      let p = permitted n e t.layout (ap accepted (sym (edit-judged sound)) ∙ ok) in
      (p.from, p.to, (stops n sound.inside.size).1)

  edit-left : accepted said ≡ true → t' ≡ filled scale most_ways n (with_edit n e t.layout)
  unfolding after rule
  edit-left ok = d.left ∙ rw (accepts ∙ ok)

  edit-said : accepted said ≡ true → of_edit a ≡ names n (touched n t.layout (with_edit n e t.layout) e.u e.v) (entry n t.layout.cost e.u e.v)
  unfolding answer rule
  edit-said ok = d.answered ∙ rw (accepts ∙ ok)

  pub edit-kept : accepted said ≡ false → t' ≡ t
  unfolding after
  edit-kept shut = d.left ∙ rw (accepts ∙ shut)

-- one more edit was made
module _ (n : ℕ) (start : Tables) (made : List Edit) (c : Course) (t : Tables) (r : Running n start made c t) (e : Edit) (t' : Tables) (a : Result Edited Refusal)
    (d : Done (record { n = n; ask = edit e }) t t' (of_edit a)) where
  abbrev here : Layout
  here = with_edits n made start.layout

  now-here : t.layout ≡ here
  unfolding filled
  now-here = ap (λ t. t.layout) r.now

  sound : Audited n t
  sound = running-audited n start made c t r

  next-judged : (of_edit a).refusal ≡ edit_refusal n e here.cost
  next-judged = edit-judged n e t t' a d sound ∙ ap (λ x. edit_refusal n e x.cost) now-here

  -- the verdict with it
  pub judged-next : judged n 1 (made ++ e ∷ []) start.layout ≡
      cond (accepted (of_edit a).refusal) (record { refusal = Accepted; place = 0 }) (record { refusal = (of_edit a).refusal; place = 1 + length made })
  unfolding judged
  judged-next = judged-more n 1 made e start.layout ∙ rw (r.taken, ← next-judged)

-- it was accepted, and noted
module _ (n : ℕ) (start : Tables) (made : List Edit) (c : Course) (t : Tables) (r : Running n start made c t) (e : Edit) (t' : Tables) (a : Edited)
    (d : Done (record { n = n; ask = edit e }) t t' (of_edit (Ok a))) (c' : Course) (noted : Noted n e (Ok a) c c') where
  p : Permitted n e t.layout
  unfolding rule
  p = permitted n e t.layout (ap accepted (sym (edit-judged n e t t' (Ok a) d (sound n start made c t r e t' (Ok a) d))))

  abbrev spot : ℕ
  spot = e.u * n + e.v

  same-layout : t.layout ≡ with_edits n made start.layout
  same-layout = now-here n start made c t r e t' (Ok a) d

  left : t' ≡ filled scale most_ways n (with_edit n e t.layout)
  left = edit-left n e t t' (Ok a) d refl

  left-layout : t'.layout ≡ with_edit n e t.layout
  unfolding filled
  left-layout = ap (λ t. t.layout) left

  told : of_edit (Ok a) ≡ names n (touched n t.layout (with_edit n e t.layout) e.u e.v) (entry n t.layout.cost e.u e.v)
  told = edit-said n e t t' (Ok a) d refl

  -- the sources of the edit join the others
  joined : c'.touched ≡ set_of n (touched_by n (made ++ e ∷ []) start.layout)
  unfolding Noted
  joined =
      noted.0 ∙ ap₂ bit_or r.union (ap (λ x. x.touched) told ∙ ap (λ x. set_of n (touched n x (with_edit n e x) e.u e.v)) same-layout) ∙
      set_of-or n (touched_by n made start.layout) (touched n (with_edits n made start.layout) (with_edit n e (with_edits n made start.layout)) e.u e.v) ∙
      ap (set_of n) (λ i s. sym (touched_by-more n made e start.layout s) i)

  changes : (c'.done ≡ c.done + 1) × (kept c' ≡ kept c ++ change_of n e a ∷ [])
  unfolding Noted
  changes = (noted.1, noted.2)

  -- and its change takes it back
  taken_back : undo (kept c ++ change_of n e a ∷ []) t'.layout ≡ start.layout
  taken_back =
      let before : a.before ≡ get_or t.layout.cost spot 0 = ap (λ x. x.before) told in
      rw (left-layout, before) (ap (λ x. laid x t.layout.passing) (undone-more (kept c) t.layout.cost spot (cost_set e.kind e.cost)) ∙ r.back)

  pub running-next : Running n start (made ++ e ∷ []) c' t'
  running-next = record {
    held = r.held;
    begins = r.begins;
    many = simp length-append (omega (arith, changes.0, r.many));
    taken = rw (judged-next n start made c t r e t' (Ok a) d) refl;
    now = left ∙ ap (filled scale most_ways n) (ap (with_edit n e) same-layout ∙ sym (with_edits-more n made e start.layout));
    union = joined;
    inside = rw changes.1 (All-append (λ c. c.spot < n * n) (kept c) (change_of n e a ∷ []) r.inside (All-cons (λ c. c.spot < n * n) (change_of n e a) [] (flat-lt n e.u e.v (stops n r.held.size).1 p.from p.to).0 (λ i d l. absurd (omega arith))));
    back = rw changes.1 taken_back;
  }
