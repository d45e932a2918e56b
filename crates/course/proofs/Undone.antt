-- Costs put back, the last change first: what is kept after an edit takes that edit back. Assumes nothing.
use Rattle.std.proofs.lemmas.List.{get_or_append_left}
use Rattle.std.proofs.Math.Seq.{get_or-append_seam}
use Prim.Native.Nat.{ℕ, ◌<◌}
use mathlib.Core.Path.{◌≡◌, refl, sym, ◌∙◌}
use native.Mathlib.Omega.{arith}
use mathlib.Core.List.{List, [], ◌∷◌, ◌++◌}
use lib.ListN.{length, get_or, set, length-set, length-append}
use lib.Seq.{set-set, set-get_or}
use Rattle.course.specs.Promise.{undone, IsInside}
use Rattle.course.specs.declared.Change.{Change}

-- the last change is put back in the table as it stands
pub undone-last : (changes : List Change) (c : Change) (cost : List ℕ) → undone (changes ++ c ∷ []) cost ≡ undone changes (set cost c.spot c.cost)
unfolding undone
undone-last [] c cost = refl
undone-last (x ∷ changes) c cost = rw (undone-last changes c cost)

-- one more entry was set, and what stood there is kept
pub undone-more : (changes : List Change) (cost : List ℕ) (at new : ℕ) →
    undone (changes ++ record { spot = at; cost = get_or cost at 0 } ∷ []) (set cost at new) ≡ undone changes cost
undone-more changes cost at new =
    rw (undone-last changes (record { spot = at; cost = get_or cost at 0 }) (set cost at new), set-set cost at new (get_or cost at 0), set-get_or cost at 0)

-- the loop that puts them back: the last change is taken off, and its cost set
pub last-inside : (k : ℕ) (rest : List Change) (c : Change) → IsInside k (rest ++ c ∷ []) → (c.spot < k) × IsInside k rest
last-inside k rest c inside = (
  rw (get_or-append_seam rest c [] c) at (inside (length rest) c (simp length-append (omega arith))),
  λ i d l. rw (get_or_append_left rest (c ∷ []) d i l) at (inside i d (simp length-append (omega (arith, l)))),
)

pub put-last : {changes : List Change} {k : ℕ} (rest : List Change) (c : Change) (cost : List ℕ) → changes ≡ rest ++ c ∷ [] → length cost ≡ k → IsInside k changes →
    (length (set cost c.spot c.cost) ≡ k) × IsInside k rest × (undone rest (set cost c.spot c.cost) ≡ undone changes cost)
put-last {changes} {k} rest c cost same long inside =
    (length-set cost c.spot c.cost ∙ long, (last-inside k rest c (rw same at inside)).1, rw same (sym (undone-last rest c cost)))

pub none-left : (changes : List Change) (cost : List ℕ) → (0 < length changes → ⊥) → cost ≡ undone changes cost
unfolding undone
none-left [] cost none = refl
none-left (c ∷ changes) cost none = absurd (none (omega arith))
