-- A refused call: nothing that it was lent differs after it, and it says its refusal and, of a list, the place alone. Assumes nothing.
use Prim.Native.Nat.{ℕ}
use mathlib.Core.Path.{◌≡◌, refl, sym, ◌∙◌, ap}
use mathlib.Core.Bool.{Bool, true, false, cond}
use mathlib.Core.List.{List}
use Rattle.book.specs.Hall.{Layout, laid, links_alone, Tables, most_ways, scale, filled}
use Rattle.book.specs.Call.{Ask, empty_hall, audit, move_over, work_out, edit, edit_list, list_routes, image_write, image_read, Call, accepted, Answer, refused_at, rule, with_layout, refusal, after, answer, Done, Outcome}
use Rattle.book.specs.Book.{Step, lent, kept}
use Rattle.book.proofs.Answers.{done-refusal}
use Rattle.book.specs.declared.Edit.{Edit}

-- the buffer that a call is lent
abbrev pub buffer_of : Call → Tables → List ℕ
buffer_of c t = (rule c.n c.ask t.layout).lent_buffer

-- the place that a refusal of it tells
abbrev pub place_of : Call → Tables → Outcome → ℕ
place_of c t r = (rule c.n c.ask t.layout).place r

-- tables and buffer as found, an empty set, no rows, no cost before, length 0
pub record Unchanged (c : Call) (t t' : Tables) (a : Answer) : Type 0 where
  pub tables : t' ≡ t
  pub set : a.touched ≡ 0
  pub count : a.rows ≡ 0
  pub before : a.before ≡ 0
  pub length : a.length ≡ 0
  pub buffer : a.buffer ≡ buffer_of c t

refused-answer : (c : Call) (t : Tables) → accepted (refusal c t) ≡ false → answer c t ≡ refused_at (refusal c t) (place_of c t (refusal c t)) (buffer_of c t)
unfolding answer
refused-answer c t e = rw e

-- every call, on any tables
pub refused-unchanged : (c : Call) (t t' : Tables) (a : Answer) → Done c t t' a → accepted a.refusal ≡ false → Unchanged c t t' a
unfolding after
refused-unchanged c t t' a d closed =
    let same : accepted (refusal c t) ≡ false = ap accepted (sym (done-refusal c t d)) ∙ closed in
    let said = d.answered ∙ refused-answer c t same in
    record {
      tables = d.left ∙ rw same;
      set = ap (λ a. a.touched) said;
      count = ap (λ a. a.rows) said;
      before = ap (λ a. a.before) said;
      length = ap (λ a. a.length) said;
      buffer = ap (λ a. a.buffer) said;
    }

-- and the other way round: this is all that a refused call has to do
pub refused-done : (c : Call) (t : Tables) (r : Outcome) → refusal c t ≡ r → accepted r ≡ false → Done c t t (refused_at r (place_of c t r) (buffer_of c t))
unfolding after
refused-done c t r e f = record { left = rw (e, f); answered = sym (refused-answer c t (rw e f) ∙ ap (λ r. refused_at r (place_of c t r) (buffer_of c t)) e) }

-- in a sequence the tables after it are those before it, with the passing times
pub refused-kept : (s : Step) (t : Tables) → Done s.call (lent s.call t) s.left s.answer → accepted s.answer.refusal ≡ false → kept s t ≡ t
refused-kept s t d closed =
    let same = (refused-unchanged s.call (lent s.call t) s.left s.answer d closed).tables in
    rw (closed, same)

-- and a call that brings no layout leaves the tables themselves
pub kept-left : (s : Step) (t : Tables) → Done s.call (lent s.call t) s.left s.answer → lent s.call t ≡ t → kept s t ≡ s.left
unfolding after filled
kept-left s t d same = go (accepted s.answer.refusal) refl
  where
    leaves : Layout → Layout
    leaves lay = (rule s.call.n s.call.ask lay).leaves

    go : (b : Bool) → accepted s.answer.refusal ≡ b →
        with_layout (cond b (laid s.left.layout.cost (leaves t.layout).passing) t.layout) s.left ≡ s.left
    go true e =
        let taken : accepted (refusal s.call (lent s.call t)) ≡ true = ap accepted (sym (done-refusal s.call (lent s.call t) d)) ∙ e in
        let left : s.left ≡ filled scale most_ways s.call.n (leaves (lent s.call t).layout) = d.left ∙ rw taken in
        let passing : (leaves t.layout).passing ≡ s.left.layout.passing = sym (ap (λ x. x.layout.passing) left ∙ ap (λ x. (leaves x.layout).passing) same) in
        λ i. with_layout (laid s.left.layout.cost (passing i)) s.left
    go false e =
        let found : s.left ≡ t = (refused-unchanged s.call (lent s.call t) s.left s.answer d e).tables ∙ same in
        rw found

-- every call but four is lent the tables themselves; work out its own layout beside four of them, empty hall and image read their passing
-- times, and the moving call passing times of 0; a route list and an image write their buffer
pub lent-all : (n s x : ℕ) (e : Edit) (edits : List Edit) (brought : Layout) (passing buffer image : List ℕ) (t : Tables) →
    let of : Ask → Tables = λ ask. lent (record { n = n; ask = ask }) t in
    let into : Ask → List ℕ = λ ask. buffer_of (record { n = n; ask = ask }) t in
    (of audit ≡ t) × (of (edit e) ≡ t) × (of (edit_list edits) ≡ t) × (of (list_routes s x buffer) ≡ t) × (of (image_write buffer) ≡ t) ×
    (of (work_out brought) ≡ with_layout brought t) × (of (empty_hall passing) ≡ with_layout (laid t.layout.cost passing) t) ×
    (of (image_read image passing) ≡ with_layout (laid t.layout.cost passing) t) × (of move_over ≡ with_layout (links_alone n t.layout) t) ×
    (into (list_routes s x buffer) ≡ buffer) × (into (image_write buffer) ≡ buffer)
unfolding rule
lent-all n s x e edits brought passing buffer image t = (refl, refl, refl, refl, refl, refl, refl, refl, refl, refl, refl)
