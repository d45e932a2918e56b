-- What operators said in two edits, a delete and an insert at a higher cost, a raise says in one. Assumes nothing.
use Prim.Native.Nat.{ℕ, ◌+◌, ◌*◌, ◌<◌}
use mathlib.Core.Path.{◌≡◌, sym, ◌∙◌, ap}
use lib.Dec.{ltb}
use lib.Seq.{set-set}
use borrow.Author.Tests.{lt-ltb}
use Rattle.book.specs.Hall.{Layout, Tables, most_ways, largest_cost, scale, up_to, entry, filled, valid_pair, laid}
use Rattle.book.specs.Call.{Call, edit, rule, refusal, after, with_cost, Accepted}
use Rattle.book.specs.declared.Edit.{Edit}
use Rattle.book.specs.declared.Kind.{Kind}
use Rattle.book.specs.declared.Kind.TheVariants.{Insert, Raise, Delete}
use Rattle.book.specs.declared.Refusal.TheVariants.{BadStop, BadCost, LinkAbsent}
use Rattle.book.proofs.Passed.{need-true, passed, audited, brief}
use Rattle.book.proofs.Steps.{accepted-filled}
use Rattle.book.proofs.Calls.{edit-taken}

module _ (n u v c x : ℕ) (t : Tables) where
  abbrev change : Kind → ℕ → Edit
  change kind cost = record { kind = kind; u = u; v = v; cost = cost }

  abbrev call : Kind → ℕ → Call
  call kind cost = record { n = n; ask = edit (change kind cost) }

  -- the layout that the delete left, and its tables
  abbrev without : Layout
  without = with_cost n u v 0 t.layout

  abbrev shut : Tables
  shut = filled scale most_ways n without

  module _ (deleted : refusal (call Delete x) t ≡ Accepted) (inserted : refusal (call Insert c) (after (call Delete x) t) ≡ Accepted)
      (more : entry n t.layout.cost u v < c) where
    left : after (call Delete x) t ≡ shut
    unfolding rule
    left = accepted-filled (call Delete x) t deleted

    behind : refusal (call Insert c) shut ≡ Accepted
    behind = rw (← left) inserted

    again : with_cost n u v c without ≡ with_cost n u v c t.layout
    again = ap (λ x. laid x t.layout.passing) (set-set t.layout.cost (u * n + v) 0 c)

    -- the raise has the delete's link and the insert's cost
    taken : refusal (call Raise c) t ≡ Accepted
    unfolding rule filled
    taken =
        let (size, lengths, tests) = passed (call Delete x) t deleted in
        let (pair, tests₁) = need-true (valid_pair n u v) BadStop _ tests in
        let (there, tests₂) = need-true (ltb 0 (entry n t.layout.cost u v)) LinkAbsent _ tests₁ in
        let (size', lengths', more-tests) = passed (call Insert c) shut behind in
        let (pair', more-tests₁) = need-true (valid_pair n u v) BadStop _ more-tests in
        let (fits, more-tests₂) = need-true (up_to largest_cost c) BadCost _ more-tests₁ in
        edit-taken n (change Raise c) t size lengths (brief (call Delete x) t deleted) (audited (call Delete x) t deleted) pair (rw (fits, there, lt-ltb (entry n t.layout.cost u v) c more))

    -- where both are accepted, so is the raise, and it leaves what they left
    pub raise-for-two : (refusal (call Raise c) t ≡ Accepted) × (after (call Raise c) t ≡ after (call Insert c) (after (call Delete x) t))
    unfolding rule filled
    raise-for-two =
        (taken, rw left (accepted-filled (call Raise c) t taken ∙ ap (filled scale most_ways n) (sym again) ∙ sym (accepted-filled (call Insert c) shut behind)))
