-- The C face hands on what a call did, so that it is a step of demand 3. Assumes nothing.
use Rattle.std.specs.Prelude.{Result, Ok, Err}
use Prim.Native.Nat.{ℕ, zero, suc, ◌<◌}
use mathlib.Core.List.{List, []}
use mathlib.Core.Path.{◌≡◌, refl, sym, ◌∙◌, ap}
use native.Mathlib.Omega.{arith}
use Rattle.book.specs.Hall.{Tables}
use Rattle.book.specs.Call.{Outcome, Call, Answer, number, answer, Done}
use Rattle.book.specs.Contract.{of_refusal, of_edit}
use Rattle.book.specs.declared.Edited.{Edited}
use Rattle.book.specs.declared.Refusal.{Refusal}
use Rattle.host.specs.declared.HallEdited.{HallEdited}
use Rattle.host.specs.declared.HallListed.{HallListed}
use Rattle.host.specs.declared.HallWritten.{HallWritten}
use Rattle.host.specs.Promise.{Numbers, in_numbers, of_number, of_edited, of_listed, of_written, Handed, HandedList}
use Rattle.flat_list.specs.Flat.{first_other}

pub handed : {c : Call} {t t' : Tables} {a : Answer} {x : Numbers} → Done c t t' a → x ≡ in_numbers a → Handed c t t' x
handed d e = record { left = d.left; said = e ∙ ap in_numbers d.answered }

-- a refusal alone
pub handed-number : {c : Call} {t t' : Tables} {a : Outcome} {r : ℕ} → Done c t t' (of_refusal a) → r ≡ number a → Handed c t t' (of_number r)
handed-number d e = handed d (ap of_number e)

-- an edit's, field by field
pub handed-edit : {c : Call} {t t' : Tables} (a : Result Edited Refusal) {x : HallEdited} → Done c t t' (of_edit a) →
    x.refusal ≡ number (of_edit a).refusal → x.touched ≡ (of_edit a).touched → x.rows ≡ (of_edit a).rows → x.before ≡ (of_edit a).before → Handed c t t' (of_edited x)
handed-edit a {x} d e f g h = handed d (go a e f g h)
  where
    go : (a : Result Edited Refusal) → x.refusal ≡ number (of_edit a).refusal → x.touched ≡ (of_edit a).touched → x.rows ≡ (of_edit a).rows → x.before ≡ (of_edit a).before →
        of_edited x ≡ in_numbers (of_edit a)
    go (Ok y) e f g h = λ i. of_edited (record { refusal = e i; rows = g i; touched = f i; before = h i })
    go (Err r) e f g h = λ i. of_edited (record { refusal = e i; rows = g i; touched = f i; before = h i })

-- a call through the C face is a step of demand 3, and what it gives is its answer in numbers
pub handed-done : {c : Call} {t t' : Tables} {x : Numbers} → Handed c t t' x → (a : Answer) × Done c t t' a × (x ≡ in_numbers a)
handed-done {c} {t} h = (answer c t, record { left = h.left; answered = refl }, h.said)

-- two answers to one list are the same, and so are the tables that they leave: nothing is left open
same-listed : {a b : HallListed} → of_listed a ≡ of_listed b → a ≡ b
same-listed e = λ i. record { refusal = (e i).refusal; place = (e i).place; touched = (e i).touched; rows = (e i).rows }

module _ (n : ℕ) (list : List ℕ) (t t' t'' : Tables) (a b : HallListed) (h : HandedList n list t t' a) (k : HandedList n list t t'' b) where
  pub list-fixed : (t' ≡ t'') × (a ≡ b)
  list-fixed = go (first_other list) refl
    where
      go : (place : ℕ) → first_other list ≡ place → (t' ≡ t'') × (a ≡ b)
      go zero e = ((h.edits e).left ∙ sym (k.edits e).left, same-listed ((h.edits e).said ∙ sym (k.edits e).said))
      go (suc p) e =
          let some : 0 < first_other list = omega (arith, e) in
          ((h.other some).0 ∙ sym (k.other some).0, (h.other some).1 ∙ sym (k.other some).1)

-- each part of an answer in numbers by its own field
abbrev Gives : Numbers → (refusal place touched rows before length : ℕ) → List ℕ → Type 0
Gives x refusal place touched rows before length buffer =
    (x.refusal ≡ refusal) × (x.place ≡ place) × (x.touched ≡ touched) × (x.rows ≡ rows) × (x.before ≡ before) × (x.length ≡ length) × (x.buffer ≡ buffer)

pub numbers-so : (a : Answer) → Gives (in_numbers a) (number a.refusal) a.place a.touched a.rows a.before a.length a.buffer
numbers-so a = (refl, refl, refl, refl, refl, refl, refl)

pub edited-so : (a : HallEdited) → Gives (of_edited a) a.refusal 0 a.touched a.rows a.before 0 []
edited-so a = (refl, refl, refl, refl, refl, refl, refl)

pub listed-so : (a : HallListed) → Gives (of_listed a) a.refusal a.place a.touched a.rows 0 0 []
listed-so a = (refl, refl, refl, refl, refl, refl, refl)

pub written-so : (a : HallWritten) (buffer : List ℕ) → Gives (of_written a buffer) a.refusal 0 0 0 0 a.length buffer
written-so a buffer = (refl, refl, refl, refl, refl, refl, refl)
