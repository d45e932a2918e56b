-- A flat list has as many edits as quadruples, each at its place. Assumes nothing.
use Rattle.std.specs.Prelude.{Option, None, Some}
use Rattle.std.specs.Option.{is_some}
use Prim.Native.Nat.{ℕ, zero, suc, ◌+◌, ◌*◌, ◌/◌, ◌%◌, ◌<◌, ◌≤◌, min}
use mathlib.Core.Path.{◌≡◌, refl, sym, ◌∙◌, ap}
use mathlib.Core.Logic.{⊎_elim}
use mathlib.Core.Bool.{Bool, true, false, cond, ◌&&◌}
use mathlib.Core.List.{List, [], ◌∷◌}
use native.Mathlib.Nat.{eq-or-lt_of_le}
use native.Mathlib.Omega.{arith}
use lib.Dec.{ltb}
use borrow.Author.Tests.{ltb-true, ltb-false}
use lib.ListN.{length, get_or, length-append, get_or-append}
use lib.Seq.{get_or_at}
use Rattle.book.specs.Hall.{most_edits}
use Rattle.routes.proofs.Booleans.{both}
use Rattle.book.specs.declared.Edit.{Edit}
use Rattle.book.specs.declared.Kind.{Kind}
use Rattle.course.specs.Promise.{Lists}
use Rattle.flat_list.specs.Flat.{no_kind, edit_at, first_edits, edits_of, cut_short, turns_of, other_from, first_other, place_of}

length-first : (k : ℕ) (list : List ℕ) → length (first_edits k list) ≡ k
unfolding first_edits
length-first zero list = refl
length-first (suc k) list = simp length-append (omega (arith, length-first k list))

pub length-edits : (list : List ℕ) → length (edits_of list) ≡ length list / 4
length-edits list = length-first (length list / 4) list

pub edit-first : (k i : ℕ) (list : List ℕ) (d : Edit) → i < k → edit_at list i ≡ get_or (first_edits k list) i d
unfolding first_edits
edit-first zero i list d l = absurd (omega arith)
edit-first (suc k) i list d l =
    let upto : i ≤ k = omega arith in
    ⊎_elim (λ same. rw same (sym (get_or_at (first_edits k list) (edit_at list k) [] d k (length-first k list))))
    (λ less. edit-first k i list d less ∙ sym (get_or-append (first_edits k list) (edit_at list k ∷ []) d i (omega (arith, length-first k list)))) (eq-or-lt_of_le upto)

-- no more turns than edits, and than a list may have
pub turns-within : (long : ℕ) → (turns_of long ≤ long) × (turns_of long ≤ most_edits)
turns-within long = go (ltb most_edits long) refl
  where
    go : (b : Bool) → ltb most_edits long ≡ b → (cond b most_edits long ≤ long) × (cond b most_edits long ≤ most_edits)
    go true e = let more = ltb-true most_edits long e in (omega arith, omega arith)
    go false e = let short = ltb-false most_edits long e in (omega arith, omega arith)

pub turns-least : (long : ℕ) → min most_edits long ≡ turns_of long
turns-least long = go (ltb most_edits long) refl
  where
    go : (b : Bool) → ltb most_edits long ≡ b → min most_edits long ≡ cond b most_edits long
    go true e = let more = ltb-true most_edits long e in omega arith
    go false e = let short = ltb-false most_edits long e in omega arith

-- the search for a kind that is none: the first i edits have one
pub other-next : (else i k : ℕ) (list : List ℕ) → no_kind (get_or list (4 * i) 0) ≡ false → other_from else i (suc k) list ≡ other_from else (i + 1) k list
unfolding other_from
other-next else i k list some = rw some

pub other-here : (else i k : ℕ) (list : List ℕ) → no_kind (get_or list (4 * i) 0) ≡ true → other_from else i (suc k) list ≡ i + 1
unfolding other_from
other-here else i k list none = rw none

pub other-last : (else i : ℕ) (list : List ℕ) → other_from else i 0 list ≡ else
unfolding other_from
other-last else i list = refl

-- its place is that of one of the first 32 edits
other-most : (else i k : ℕ) (list : List ℕ) → else ≤ most_edits → i + k ≤ most_edits → other_from else i k list ≤ most_edits
unfolding other_from
other-most else i zero list e l = e
other-most else i (suc k) list e l = go (no_kind (get_or list (4 * i) 0)) (other_from else (i + 1) k list) (other-most else (i + 1) k list e (omega arith))
  where
    go : (b : Bool) (later : ℕ) → later ≤ most_edits → cond b (i + 1) later ≤ most_edits
    go true later h = omega arith
    go false later h = h

cut_most : (numbers : ℕ) → cut_short numbers ≤ most_edits
cut_most numbers = go (ltb 0 (numbers % 4)) (ltb (numbers / 4) most_edits) refl
  where
    go : (some few : Bool) → ltb (numbers / 4) most_edits ≡ few → cond (some && few) (numbers / 4 + 1) 0 ≤ most_edits
    go true true e = let less = ltb-true (numbers / 4) most_edits e in omega arith
    go true false e = omega arith
    go false few e = omega arith

pub other-few : (list : List ℕ) → first_other list ≤ most_edits
other-few list = other-most (cut_short (length list)) 0 (turns_of (length list / 4)) list (cut_most (length list)) (omega (arith, (turns-within (length list / 4)).1))

-- a function that gives edit i of the numbers gives their list
pub flat-lists : {gives : ℕ → Edit → Type 0} (list : List ℕ) → ((i : ℕ) (e : Edit) → i < length list / 4 → gives i e → e ≡ edit_at list i) →
    Lists gives (length list / 4) (edits_of list)
flat-lists list gave = record { long = length-edits list; each = λ i e l given d. gave i e l given ∙ edit-first (length list / 4) i list d l }

-- whether a kind is read, by whether it is none
pub read-none : (k : Kind) (b : Bool) {o : Option Kind} → o ≡ cond b None (Some k) → is_some o ≡ false → b ≡ true
read-none k true e none = refl
read-none k false e none = absurd (both refl (ap is_some (sym e) ∙ none))

pub read-some : (k : Kind) (b : Bool) {o : Option Kind} → o ≡ cond b None (Some k) → is_some o ≡ true → b ≡ false
read-some k true e some = absurd (both some (ap is_some e))
read-some k false e some = refl

pub place-next : (i : ℕ) → Some (i + 1) ≡ place_of (i + 1)
place-next i = let one : i + 1 ≡ suc i = omega arith in rw one

-- a place that is told is the place
pub place-is : (k p : ℕ) → Some p ≡ place_of k → p ≡ k
place-is zero p e = absurd (both refl (ap is_some e))
place-is (suc k) p e = ap value e
  where
    value : Option ℕ → ℕ
    value None = 0
    value (Some x) = x
