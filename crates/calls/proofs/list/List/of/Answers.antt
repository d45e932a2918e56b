-- The edits one after another, as long as there is room.
use Rattle.std.proofs.Common.{rules, ◌≡◌, ℕ, ◌+◌, ◌<◌, ◌≤◌, length, min, set, take, List, [], ◌∷◌, ◌++◌, sym, ◌∙◌, subst, ap, arith, ⊎_elim}
use Rattle.std.proofs.lemmas.Bool.{cases_lt}
use Rattle.std.proofs.lemmas.List.{length_push, take_all, take_more_set, take-append-le}
use Rattle.std.proofs.lemmas.Fn.{fold_over, slice_gives, fronts}
use lib.ListN.{length-set}
use Rattle.book.specs.declared.Edit.{Edit}
use Rattle.calls.specs.declared.list.List.{List as TheList}
use Rattle.calls.proofs.list.List.of.Goals as goal

-- the first of so many edits are those of the list
abbrev First : List Edit → ℕ → List Edit → Type 0
First given n edits = (length edits ≡ 34) × (n ≡ min (length given) 34) × (take n edits ≡ take 34 given)

room : (given : List Edit) (n m : ℕ) (edits next : List Edit) (x : Edit) → First given n edits → n < 34 → (m ≡ n + 1) × (next ≡ set edits n x) → First (given ++ x ∷ []) m next
room given n m edits next x (long, count, same) fits (more, written) =
    let longer = length_push given x in
    let own : length given ≡ n = omega (arith, count, fits) in
    let all = take_all 34 given (omega (arith, own, fits)) in
    let all-longer = take_all 34 (given ++ x ∷ []) (omega (arith, own, fits, longer)) in (
      ap length written ∙ length-set edits n x ∙ long,
      omega (arith, own, fits, longer, more),
      rw more (rw written (take_more_set edits n x (omega (arith, long, fits)) ∙ ap (λ l. l ++ x ∷ []) (same ∙ all) ∙ sym all-longer)),
    )

full : (given : List Edit) (n : ℕ) (edits : List Edit) (x : Edit) → First given n edits → 34 ≤ n → First (given ++ x ∷ []) n edits
full given n edits x (long, count, same) over =
    let longer = length_push given x in
    let behind : 34 ≤ length given = omega (arith, count, over) in (
      long,
      omega (arith, count, over, longer),
      same ∙ sym (take-append-le 34 given (x ∷ []) behind),
    )

-- one edit more
step : (given : List Edit) (list next : TheList) (x : Edit) → First given list.length list.edits →
    (list.length < 34 → (next.length ≡ list.length + 1) × (next.edits ≡ set list.edits list.length x)) → (34 ≤ list.length → next ≡ list) →
    First (given ++ x ∷ []) next.length next.edits
step given list next x before more stays = ⊎_elim
    (λ fits. room given list.length next.length list.edits next.edits x before fits (more fits))
    (λ over. subst (λ (l : TheList). First (given ++ x ∷ []) l.length l.edits) (sym (stays over)) (full given list.length list.edits x before over))
    (cases_lt list.length 34)

pub returns : goal.returns
returns c =
    let all : First c.args.edits.now c.fold.result.length c.fold.result.edits =
    subst (λ (l : List Edit). First l c.fold.result.length c.fold.result.edits) c.iter.ensures.rest
    (fold_over fronts (λ y. y.now) _ (λ given (list : TheList). First given list.length list.edits) _
    (λ given list x next f' before k. (step given list next x.now before (search rules) (search rules), search rules))
    _ _ _ _ (slice_gives c.iter.result) (search (rules, c.new.ensures)) c.fold.ensures.ran) in
    record { count = all.1; first = all.2 }
