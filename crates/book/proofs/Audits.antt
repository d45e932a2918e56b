-- The audit accepts exactly the tables that work out fills. Assumes nothing.
use Rattle.std.specs.Prelude.{Err}
use Prim.Native.Nat.{ℕ}
use mathlib.Core.Path.{◌≡◌, refl, sym, ◌∙◌, ap, subst}
use mathlib.Core.Logic.{◌≢◌, ◌↔◌}
use mathlib.Core.Bool.{Bool, true, false, ◌||◌}
use lib.Dec.{eqb, leb}
use borrow.Author.Tests.{eq-eqb}
use Rattle.book.specs.Hall.{Layout, Tables, most_stops, most_ways, scale, up_to, filled, sized, valid_costs, right, valid_passing}
use Rattle.book.specs.Call.{Call, audit, work_out, number, accepted, need, rule, refusal, after, Accepted}
use Rattle.book.specs.declared.Refusal.TheVariants.{BadSize, BadLength, BadTables, BadPassing}
use Rattle.book.proofs.Filled.{sized-filled, right-filled, right-true}
use Rattle.book.proofs.Passed.{need-true, passed, fitted, brief, audited}
use Rattle.book.proofs.Steps.{worked-held, held-worked, held-right}

-- valid costs, and their tables
abbrev pub RightTables : ℕ → Tables → Type 0
RightTables n t = (valid_costs n t.layout.cost ≡ true) × (filled scale most_ways n t.layout ≡ t)

module _ (n : ℕ) (t : Tables) (size : up_to most_stops n ≡ true) (lengths : sized n t ≡ true) (passable : valid_passing n t.layout.passing ≡ true) where
  audit-right : refusal (record { n = n; ask = audit }) t ≡ need (right scale most_ways n t) BadTables Accepted
  unfolding refusal rule
  audit-right = rw (size, lengths, passable)

  -- of the tables with these lengths and such passing times it accepts exactly the right ones
  pub audit-accepts : (refusal (record { n = n; ask = audit }) t ≡ Accepted) ↔ RightTables n t
  audit-accepts = (
    λ e. right-true scale most_ways n t (need-true (right scale most_ways n t) BadTables Accepted (ap accepted (sym audit-right ∙ e))).0,
    λ r. let passes = subst (λ x. right scale most_ways n x ≡ true) r.1 (right-filled scale most_ways n t.layout r.0) in
        audit-right ∙ ap (λ b. need b BadTables Accepted) passes,
  )

  -- and any others are 3
  pub audit-refuses : (RightTables n t → ⊥) → refusal (record { n = n; ask = audit }) t ≡ Err BadTables
  audit-refuses h = audit-right ∙ go (right scale most_ways n t) refl
    where
      go : (b : Bool) → right scale most_ways n t ≡ b → need b BadTables Accepted ≡ Err BadTables
      go true e = absurd (h (right-true scale most_ways n t e))
      go false e = refl

-- it accepts exactly the tables whose costs and passing times work out accepts and which work out leaves as they are
module _ (n : ℕ) (t : Tables) where
  abbrev audit_call : Call
  audit_call = record { n = n; ask = audit }

  abbrev work_call : Call
  work_call = record { n = n; ask = work_out t.layout }

  pub audit-work-out : (refusal audit_call t ≡ Accepted) ↔ ((refusal work_call t ≡ Accepted) × (after work_call t ≡ t))
  unfolding after rule
  audit-work-out = (there, back)
    where
      there : refusal audit_call t ≡ Accepted → (refusal work_call t ≡ Accepted) × (after work_call t ≡ t)
      there e =
          let (size, lengths, tests) = passed audit_call t e in
          let passable = brief audit_call t e in
          let (valid, same) = (audit-accepts n t size lengths passable).0 e in
          let ok = held-worked n t.layout t (held-right n t size lengths passable (audited audit_call t e)) lengths in
          (ok, rw ok same)

      back : (refusal work_call t ≡ Accepted) × (after work_call t ≡ t) → refusal audit_call t ≡ Accepted
      back (ok, same) =
          let (size, lengths, tests) = passed work_call t ok in
          let h = worked-held n t.layout t.layout size (fitted work_call t ok) (brief work_call t ok) tests in
          (audit-accepts n t size lengths h.passable).1 (h.valid, rw ok at same)

  -- else it says 1, 2, 13 or 3
  pub audit-else : (leb (number (refusal audit_call t)) 3 || eqb (number (refusal audit_call t)) 13) ≡ true
  unfolding refusal rule
  audit-else = go (up_to most_stops n) (sized n t) (valid_passing n t.layout.passing) (right scale most_ways n t)
    where
      go : (size lengths passable sound : Bool) → let x : ℕ = number (need size BadSize (need lengths BadLength (need passable BadPassing (need sound BadTables Accepted)))) in
          (leb x 3 || eqb x 13) ≡ true
      go false lengths passable sound = refl
      go true false passable sound = refl
      go true true false sound = refl
      go true true true false = refl
      go true true true true = refl

-- what an accepted work out leaves passes
pub audit-worked : (n : ℕ) (lay : Layout) (t : Tables) → refusal (record { n = n; ask = work_out lay }) t ≡ Accepted →
    refusal (record { n = n; ask = audit }) (after (record { n = n; ask = work_out lay }) t) ≡ Accepted
unfolding after rule filled
audit-worked n lay t e =
    let (size, lengths, tests) = passed (record { n = n; ask = work_out lay }) t e in
    let h = worked-held n lay t.layout size (fitted (record { n = n; ask = work_out lay }) t e) (brief (record { n = n; ask = work_out lay }) t e) tests in
    rw e ((audit-accepts n (filled scale most_ways n lay) size (sized-filled scale most_ways n n lay h.square h.long ∙ eq-eqb n n refl) h.passable).1 (h.valid, refl))

-- and beside its layout no other times, ways, shares or scores of their lengths do
pub audit-other : (n : ℕ) (lay : Layout) (t t' : Tables) → refusal (record { n = n; ask = work_out lay }) t ≡ Accepted →
    t'.layout ≡ lay → sized n t' ≡ true → t' ≢ after (record { n = n; ask = work_out lay }) t → refusal (record { n = n; ask = audit }) t' ≡ Err BadTables
unfolding after rule
audit-other n lay t t' e costs lengths other =
    audit-refuses n t' (passed (record { n = n; ask = work_out lay }) t e).0 lengths (rw costs (brief (record { n = n; ask = work_out lay }) t e))
    (λ r. other (sym r.1 ∙ ap (filled scale most_ways n) costs ∙ rw e))
