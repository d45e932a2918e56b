-- The loop over a list of edits, whatever form the list comes in: `gives i e` says that its edit at the place i is e. It begins, goes on
-- with the next edit, stops at a refused one, and ends with the list done. Assumes nothing.
use Rattle.std.specs.Prelude.{Result, Ok, Err}
use Rattle.std.proofs.lemmas.List.{ext_get_or, get_or_append_left, get_or-take, take-append-drop}
use Rattle.std.proofs.Math.Seq.{get_or-append_seam, drop-cons}
use Prim.Native.Nat.{ℕ, suc, ◌+◌, ◌<◌, ◌≤◌}
use mathlib.Core.Path.{◌≡◌, refl, sym, ◌∙◌, ap, subst}
use mathlib.Core.List.{List, [], ◌∷◌, ◌++◌}
use mathlib.Core.Logic.{⊎_elim}
use native.Mathlib.Nat.{eq-or-lt_of_le}
use native.Mathlib.Omega.{arith}
use lib.Count.{ones}
use lib.ListN.{length, get_or, take, drop, length-append}
use lib.Seq.{length-take-le, take_all}
use Rattle.routes.proofs.Booleans.{both}
use Rattle.book.specs.Hall.{Tables}
use Rattle.book.specs.Call.{Accepted, accepted, edit, edit_list, Done}
use Rattle.book.specs.Contract.{SameLoans, of_edit, of_list, Audited}
use Rattle.book.specs.declared.Edit.{Edit}
use Rattle.book.specs.declared.Kind.TheVariants.{Insert}
use Rattle.book.specs.declared.Edited.{Edited}
use Rattle.book.specs.declared.Refusal.{Refusal}
use Rattle.book.specs.declared.lent.LentMut.{LentMut}
use Rattle.course.specs.declared.Course.{Course}
use Rattle.course.specs.Promise.{admits, Lists, kept, Noted, outcome_of, Turned, restored, Undoes}
use Rattle.course.proofs.Standing.{Running, running-audited, running-begins, running-next, edit-kept}
use Rattle.course.proofs.Ends.{can-undo, list_done}

-- the first i edits were made, each accepted
pub record Going (n : ℕ) (gives : ℕ → Edit → Type 0) (start : Tables) (i : ℕ) (c : Course) (t : Tables) : Type 0 where
  pub made : List Edit
  pub many : length made ≡ i
  pub given : (k : ℕ) → k < i → (d : Edit) → gives k (get_or made k d)
  pub running : Running n start made c t

-- the same loans after two steps
pub loans_on : {a b c : LentMut} → SameLoans a b → SameLoans b c → SameLoans a c
loans_on p q = record { cost = q.cost ∙ p.cost; passing = q.passing ∙ p.passing; time = q.time ∙ p.time; ways = q.ways ∙ p.ways; share = q.share ∙ p.share; score = q.score ∙ p.score }

-- what a turn came to
accepted_turn : {n : ℕ} {e : Edit} {c c' : Course} {t t' : Tables} → Turned n e c c' t t' Accepted →
    (a : Edited) × Done (record { n = n; ask = edit e }) t t' (of_edit (Ok a)) × Noted n e (Ok a) c c'
accepted_turn {n} {e} {c} {c'} {t} {t'} turn = go turn.answer turn.done turn.told turn.noted
  where
    go : (a : Result Edited Refusal) → Done (record { n = n; ask = edit e }) t t' (of_edit a) → Accepted ≡ outcome_of a → Noted n e a c c' →
        (a : Edited) × Done (record { n = n; ask = edit e }) t t' (of_edit (Ok a)) × Noted n e (Ok a) c c'
    go (Ok a) d told noted = (a, d, noted)
    go (Err r) d told noted = absurd (both refl (ap accepted told))

refused_turn : {n : ℕ} {e : Edit} {c c' : Course} {t t' : Tables} (r : Refusal) → Turned n e c c' t t' (Err r) →
    Done (record { n = n; ask = edit e }) t t' (of_edit (Err r)) × (c' ≡ c)
unfolding Noted
refused_turn {n} {e} {c} {c'} {t} {t'} r turn = go turn.answer turn.done turn.told turn.noted
  where
    go : (a : Result Edited Refusal) → Done (record { n = n; ask = edit e }) t t' (of_edit a) → Err r ≡ outcome_of a → Noted n e a c c' →
        Done (record { n = n; ask = edit e }) t t' (of_edit (Err r)) × (c' ≡ c)
    go (Ok a) d told noted = absurd (both refl (sym (ap accepted told)))
    go (Err x) d told noted = (rw told d, noted)

module _ (n : ℕ) (gives : ℕ → Edit → Type 0) (start : Tables) where
  pub going-begins : (long : ℕ) (c : Course) → Accepted ≡ admits n long start → c.touched ≡ 0 → c.done ≡ 0 → Going n gives start 0 c start
  going-begins long c let_in none empty =
      record { made = []; many = refl; given = λ k l. absurd (omega arith); running = running-begins n long start c (ap accepted (sym let_in)) none empty }

  module _ (i : ℕ) (c : Course) (t : Tables) (g : Going n gives start i c t) where
    -- what a turn asks
    pub going-open : Audited n t × (c.done ≡ i)
    going-open = (running-audited n start g.made c t g.running, g.running.many ∙ g.many)

    module _ (e : Edit) (gave : gives i e) (c' : Course) (t' : Tables) where
      pub going_on : Turned n e c c' t t' Accepted → Going n gives start (i + 1) c' t'
      going_on turn =
          let (a, d, noted) = accepted_turn turn in
          record {
            made = g.made ++ e ∷ [];
            many = simp length-append (omega (arith, g.many));
            given = λ k l d. ⊎_elim (λ last. subst (λ k. gives k (get_or (g.made ++ e ∷ []) k d)) (g.many ∙ sym last) (rw (get_or-append_seam g.made e [] d, g.many) gave)) (λ less. rw (get_or_append_left g.made (e ∷ []) d k (omega (arith, g.many))) (g.given k less d)) (eq-or-lt_of_le (upto k l));
            running = running-next n start g.made c t g.running e t' a d c' noted;
          }
        where
          upto : (k : ℕ) → k < i + 1 → k ≤ i
          upto k l = omega arith

      -- a refused one: its predecessors can be put back
      pub going-undoes : (r : Refusal) → Turned n e c c' t t' (Err r) → (c'.done ≡ i) × Undoes n c'.touched (kept c') t'
      going-undoes r turn =
          let (d, same) = refused_turn r turn in
          rw (same, edit-kept n e t t' (Err r) d refl) (going-open.1, can-undo n start g.made c t g.running)

  -- the edits that were made are the first of any list that is given so
  module _ (i : ℕ) (c : Course) (t : Tables) (g : Going n gives start i c t) (many : ℕ) (edits : List Edit) (l : Lists gives many edits) (within : i ≤ many) where
    front : g.made ≡ take i edits
    front =
        (ext_get_or none g.made (take i edits) (g.many ∙ sym (length-take-le i edits (omega (arith, l.long))))
        (λ k h. l.each k _ (omega (arith, g.many)) (g.given k (omega (arith, g.many)) none) none ∙ sym (get_or-take i edits k none (omega (arith, g.many)))))
      where
        none : Edit
        none = record { kind = Insert; u = 0; v = 0; cost = 0 }

    -- refused at the next one, and put back
    pub going-stops : (e : Edit) → i < many → gives i e → (c' : Course) (t' : Tables) (r : Refusal) → Turned n e c c' t t' (Err r) → Accepted ≡ admits n many start →
        Done (record { n = n; ask = edit_list edits }) start (restored n c' t') (of_list (Err (record { refusal = r; place = i + 1 })))
    going-stops e next gave c' t' r turn let_in =
        let (d, same) = refused_turn r turn in
        rw (same, ← g.many) (((list_done n edits start).1 (sym (rw (← l.long) at let_in)) g.made c t g.running).0 e (drop (i + 1) edits) whole t' r d)
      where
        whole : edits ≡ g.made ++ e ∷ drop (i + 1) edits
        whole =
            let one : i + 1 ≡ suc i = omega arith in
            let rest : drop i edits ≡ e ∷ drop (suc i) edits = drop-cons edits i e (omega (arith, l.long)) ∙ ap (λ x. x ∷ drop (suc i) edits) (sym (l.each i e next gave e)) in
            rw one (sym (take-append-drop i edits) ∙ ap (λ r. take i edits ++ r) rest ∙ ap (λ f. f ++ e ∷ drop (suc i) edits) (sym front))

    -- and behind the last one
    pub going-ends : i ≡ many → Accepted ≡ admits n many start →
        Done (record { n = n; ask = edit_list edits }) start t (of_list (Ok (record { touched = c.touched; rows = ones c.touched })))
    going-ends last let_in = ((list_done n edits start).1 (sym (rw (← l.long) at let_in)) g.made c t g.running).1 (front ∙ take_all i edits (omega (arith, l.long)))
