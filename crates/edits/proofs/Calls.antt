-- From the tests of an edit to what it promises. Assumes nothing.
use Prim.Native.Nat.{ℕ}
use mathlib.Core.Path.{◌≡◌, refl, sym, ◌∙◌, ap, subst}
use mathlib.Core.Bool.{true, false}
use Rattle.book.specs.Hall.{Tables, most_ways, scale, entry, valid_pair}
use Rattle.book.specs.Call.{Call, audit, edit, accepted, edit_refusal, cost_set, rule, Answer, refusal, Done, Outcome}
use Rattle.book.specs.Contract.{of_refusal, Audited}
use Rattle.book.specs.declared.Edit.{Edit}
use Rattle.book.specs.declared.Refusal.TheVariants.{BadStop}
use Rattle.book.proofs.Filled.{right-true}
use Rattle.book.proofs.Passed.{need-true, accepted-only, cost-tests}
use Rattle.book.proofs.Sizes.{stops, lengths}
use Rattle.book.proofs.Refused.{refused-done}
use Rattle.book.proofs.Doors.{behind-audit, accepted-done}
use Rattle.permit.proofs.Tests.{pair-true}
use Rattle.changes.specs.Promise.{Change, Applied}

-- what an audit says of tables, it says of the tables that it was made on
pub audit-seen : {n : ℕ} {seen t : Tables} {r : Outcome} → seen ≡ t → let c : Call = record { n = n; ask = audit } in
    Done c seen seen (of_refusal r) → Done c t t (of_refusal r)
audit-seen {n} {seen} {t} {r} e = subst (λ x. Done (record { n = n; ask = audit }) x x (of_refusal r)) e

-- and so do the tests of an edit
pub tests-seen : (n : ℕ) (e : Edit) {seen t : Tables} {r : Outcome} → seen ≡ t → r ≡ edit_refusal n e seen.layout.cost → r ≡ edit_refusal n e t.layout.cost
tests-seen n e same told = told ∙ ap (λ x. edit_refusal n e x.layout.cost) same

module _ (n : ℕ) (e : Edit) (t : Tables) (a : Audited n t) where
  abbrev call : Call
  call = record { n = n; ask = edit e }

  abbrev tests : Outcome
  tests = edit_refusal n e t.layout.cost

  abbrev new : ℕ
  new = cost_set e.kind e.cost

  -- what an edit with good arguments asks of the inner edit
  pub change-of : accepted tests ≡ true → Change most_ways scale n e.u e.v new t.layout t.time t.ways t.share
  change-of ok =
      let (pair, ok₁) = need-true (valid_pair n e.u e.v) BadStop _ ok in
      let (fits, differs) = cost-tests e.kind e.cost (entry n t.layout.cost e.u e.v) ok₁ in
      let (from, to, apart) = pair-true n e.u e.v pair in
      let (valid, filling) = right-true scale most_ways n t a.sound in
      record {
        most = (stops n a.inside.size).1;
        square = (lengths n t a.inside.lengths).costs;
        long = (lengths n t a.inside.lengths).passings;
        valid = valid;
        passable = a.inside.passable;
        worked = record { times = ap (λ x. x.time) (sym filling); counts = ap (λ x. x.ways) (sym filling); shares = ap (λ x. x.share) (sym filling) };
        from = from;
        to = to;
        apart = apart;
        fits = fits;
        differs = differs;
      }

  refusal-edit : refusal call t ≡ tests
  unfolding rule
  refusal-edit = behind-audit call t (λ s. refl) refl refl a

  pub edit-refused : (r : Outcome) → r ≡ tests → accepted r ≡ false → Done call t t (of_refusal r)
  unfolding rule
  edit-refused r told shut = refused-done call t r (refusal-edit ∙ sym told) shut

  -- the inner edit does what the call says
  pub edit-done : accepted tests ≡ true → {t' : Tables} {x : Answer} → Applied most_ways scale n e.u e.v new t t' x → Done call t t' x
  unfolding rule
  edit-done ok {t'} {x} r = accepted-done call t t' x (refusal-edit ∙ accepted-only tests ok) r.left r.answered
