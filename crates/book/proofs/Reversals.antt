-- An accepted edit is reversed by the one that its kind, its stops and its answer give, its reversal. Assumes nothing.
use Prim.Native.Nat.{ℕ, ◌+◌, ◌*◌, ◌<◌, ◌≤◌}
use mathlib.Core.Path.{◌≡◌, refl, sym, ◌∙◌, ap}
use mathlib.Core.Bool.{Bool, true, or_comm}
use lib.Dec.{eqb, ltb}
use lib.Seq.{set-set, set-get_or}
use borrow.Author.Tests.{eqb-true, eq-eqb, ltb-true, lt-ltb, le-leb}
use Rattle.routes.specs.Route.{used}
use Rattle.book.specs.Hall.{Layout, Tables, largest_cost, most_ways, scale, up_to, entry, filled, valid_pair, right, touched, laid, costs_in}
use Rattle.book.specs.Call.{Call, edit, accepted, other_cost_tests, cost_tests, cost_set, with_edit, rule, refusal, after, answer, reverse_kind, reversal, Accepted}
use Rattle.book.specs.Book.{Reverses}
use Rattle.book.specs.declared.Edit.{Edit}
use Rattle.book.specs.declared.Kind.{Kind}
use Rattle.book.specs.declared.Kind.TheVariants.{Insert, Cheapen, Raise, Delete}
use Rattle.book.specs.declared.Refusal.TheVariants.{BadStop, BadCost, LinkPresent, LinkAbsent}
use Rattle.book.proofs.Tables.{valid-costs}
use Rattle.book.proofs.Filled.{sized-filled, right-filled, right-true}
use Rattle.book.proofs.Passed.{need-true, passed, audited, up-to, other-cost-tests, Permitted, permitted, brief}
use Rattle.book.proofs.Steps.{Held, held-right, entry-edited, held-edited, accepted-filled}
use Rattle.book.proofs.Calls.{edit-taken}

-- from 1 to the largest cost
cost-fits : (x : ℕ) → 0 < x → x ≤ largest_cost → up_to largest_cost x ≡ true
cost-fits x some most = rw (le-leb 1 x some, le-leb x largest_cost most)

-- a cost that was accepted in place of another one: the other one, which lies on the other side of it, is accepted in its place
other-cost-back : (wanted : Bool) (c present : ℕ) → present ≤ largest_cost → accepted (other_cost_tests wanted c present) ≡ true → other_cost_tests wanted present c ≡ Accepted
other-cost-back wanted c present most e =
    let (some, fits, there, on) = other-cost-tests wanted c present e in
    rw (cost-fits present there most, lt-ltb 0 c some, on)

-- the same for each kind: the reversal passes 5 to 8, and sets the cost before
cost-back : (k : Kind) (c present : ℕ) → present ≤ largest_cost → accepted (cost_tests k c present) ≡ true →
    (cost_tests (reverse_kind k) present (cost_set k c) ≡ Accepted) × (cost_set (reverse_kind k) present ≡ present)
cost-back Insert c present most e =
    let (bounds, e₁) = need-true (up_to largest_cost c) BadCost _ e in
    let (absent, e₂) = need-true (eqb present 0) LinkPresent Accepted e₁ in
    (rw (lt-ltb 0 c (up-to largest_cost c bounds).0), sym (eqb-true present 0 absent))
cost-back Cheapen c present most e = (other-cost-back (ltb c present) c present most e, refl)
cost-back Raise c present most e = (other-cost-back (ltb present c) c present most e, refl)
cost-back Delete c present most e =
    let (there, e₁) = need-true (ltb 0 present) LinkAbsent Accepted e in
    (rw (cost-fits present (ltb-true 0 present there) most), refl)

-- an edit that passes its tests, over the costs of a hall
module _ (n : ℕ) (e : Edit) (lay : Layout) (h : Held n lay) (ok : accepted (rule n (edit e) lay).tests ≡ true) where
  -- what the link costs before the edit
  abbrev present : ℕ
  present = entry n lay.cost e.u e.v

  abbrev left : Layout
  left = with_edit n e lay

  abbrev back : Edit
  back = reversal e.kind e.u e.v (rule n (edit e) lay).says

  abbrev call : Call
  call = record { n = n; ask = edit back }

  p : Permitted n e lay
  p = permitted n e lay ok

  set-now : entry n left.cost e.u e.v ≡ cost_set e.kind e.cost
  set-now = entry-edited n e lay h p e.u e.v p.to ∙ rw (eq-eqb e.u e.u refl, eq-eqb e.v e.v refl)

  pair : valid_pair n e.u e.v ≡ true
  unfolding rule
  pair = (need-true (valid_pair n e.u e.v) BadStop _ ok).0

  costs : (cost_tests (reverse_kind e.kind) present (cost_set e.kind e.cost) ≡ Accepted) × (cost_set (reverse_kind e.kind) present ≡ present)
  unfolding rule
  costs =
      let most = (valid-costs n lay.cost h.valid).most e.u e.v p.from p.to in
      cost-back e.kind e.cost present most (need-true (valid_pair n e.u e.v) BadStop _ ok).1

  -- the cost before at its place again
  back-costs : with_edit n back left ≡ lay
  unfolding rule
  back-costs = ap (λ x. laid x lay.passing) (set-set lay.cost (e.u * n + e.v) _ _ ∙ rw costs.1 (set-get_or lay.cost (e.u * n + e.v) 0))

  back-taken : refusal call (filled scale most_ways n left) ≡ Accepted
  unfolding rule filled
  back-taken =
      let h' = held-edited n e lay h p in
      edit-taken n back (filled scale most_ways n left) h.size (sized-filled scale most_ways n n left h'.square h'.long ∙ eq-eqb n n refl) h.passable
      (right-filled scale most_ways n left h'.valid) pair (rw set-now costs.0)

  -- touched is touched, whichever of the two halls comes first
  turned : touched n left lay e.u e.v ≡ touched n lay left e.u e.v
  unfolding touched
  turned = λ i s. or_comm (used (costs_in n left s) n s e.u e.v) (used (costs_in n lay s) n s e.u e.v) i

  pub rule-reversed : Reverses call (filled scale most_ways n lay) (filled scale most_ways n left) (rule n (edit e) lay).says
  unfolding answer rule filled
  rule-reversed = record {
    taken = back-taken;
    gives = accepted-filled call (filled scale most_ways n left) back-taken ∙ ap (filled scale most_ways n) back-costs;
    touches = rw (back-taken, back-costs, turned) (refl, refl);
  }

-- on right tables, which an accepted edit has met: made directly after it, its reversal reverses it
pub edit-reversed : (n : ℕ) (e : Edit) (t : Tables) →
    let c : Call = record { n = n; ask = edit e } in
    refusal c t ≡ Accepted → Reverses (record { n = n; ask = edit (reversal e.kind e.u e.v (answer c t)) }) t (after c t) (answer c t)
unfolding after answer rule
edit-reversed n e t ok =
    let c : Call = record { n = n; ask = edit e } in
    let (size, lengths, tests) = passed c t ok in
    let sound : right scale most_ways n t ≡ true = audited c t ok in
    let same = (right-true scale most_ways n t sound).1 in
    rw ok (rw same at (rule-reversed n e t.layout (held-right n t size lengths (brief c t ok) sound) tests))
