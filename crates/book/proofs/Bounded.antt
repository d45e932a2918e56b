-- Bounds of scores, times and ways, in the tables of every hall that a call accepts. Assumes nothing.
use Prim.Native.Nat.{ℕ, ◌+◌, ◌<◌, ◌≤◌}
use native.Mathlib.Omega.{arith}
use mathlib.Core.Path.{◌≡◌, refl, sym, ◌∙◌, subst⁻¹}
use mathlib.Core.Logic.{◌≢◌}
use mathlib.Core.Bool.{Bool, true, false}
use mathlib.Core.List.{List}
use lib.Dec.{ltb}
use lib.ListN.{length, get_or, get_or-eq_default}
use borrow.Author.Tests.{ltb-true, ltb-false}
use Rattle.routes.specs.Route.{Costs, mark, list_to, least_time, capped_ways, score}
use Rattle.routes.proofs.Rows.{length-list_to, get_or-list_to}
use Rattle.routes.proofs.Bounds.{score-limit}
use Rattle.book.specs.Hall.{Layout, Tables, most_ways, scale, entry, filled, costs_in}
use Rattle.book.specs.Call.{Call, run, Answer, refusal, Done, Accepted}
use Rattle.book.specs.Book.{Step, kept, Sequence, Start, Started, lent}
use Rattle.book.proofs.Tables.{entry-table}
use Rattle.book.proofs.Answers.{done-refusal}
use Rattle.book.proofs.Steps.{Held, accepted-filled, lent-held}
use Rattle.book.proofs.Sequence.{of_books}
use Rattle.routes.proofs.Passing.{least-from-limit}
use Rattle.book.proofs.Small.{costs-within, passing-within, flow, workable}

-- no score passes 63 × 62 × L = 108,274,320, which fits 32 bits, no time but the mark 63 × 65,535 + 62 × 65,535 = 8,191,875, and no entry of ways passes 13, that of a crowded pair
pub record Bounded (n : ℕ) (t : Tables) : Type 0 where
  pub scores : (v : ℕ) → get_or t.score v 0 ≤ 108274320
  pub times : (s v : ℕ) → s < n → v < n → entry n t.time s v ≢ mark → entry n t.time s v ≤ 8191875
  pub counts : (s v : ℕ) → s < n → v < n → entry n t.ways s v ≤ most_ways + 1

module _ (n : ℕ) (lay : Layout) (h : Held n lay) where
  abbrev C : ℕ → Costs
  C = costs_in n lay

  score-bound : (v : ℕ) → get_or (filled scale most_ways n lay).score v 0 ≤ 108274320
  unfolding filled
  score-bound v = go (ltb v n) refl
    where
      go : (b : Bool) → ltb v n ≡ b → get_or (list_to n (score C n most_ways scale)) v 0 ≤ 108274320
      go true e =
          let l = ltb-true v n e in
          let few = score-limit C n most_ways scale v (workable h).most l (flow (workable h)) in
          omega (arith, get_or-list_to n (score C n most_ways scale) 0 v l, few)
      go false e =
          let beyond : length (list_to n (score C n most_ways scale)) ≤ v = omega (arith, length-list_to n (score C n most_ways scale), ltb-false v n e) in
          omega (arith, get_or-eq_default (list_to n (score C n most_ways scale)) 0 beyond)

  time-bound : (s v : ℕ) → s < n → v < n → least_time (C s) n s v ≢ mark → least_time (C s) n s v ≤ 8191875
  time-bound s v k l some = least-from-limit (entry n lay.cost) (λ v. get_or lay.passing v 0) n s (workable h).most (costs-within (workable h)) (passing-within (workable h)) v l some

  -- the tables of valid costs
  pub bounded : Bounded n (filled scale most_ways n lay)
  unfolding filled
  bounded = record {
    scores = score-bound;
    times = λ s v k l. rw (entry-table n (λ s. least_time (C s) n s) s v k l) (time-bound s v k l);
    counts = λ s v k l. rw (entry-table n (λ s. capped_ways (C s) n s most_ways) s v k l) (omega arith);
  }

-- the tables that an accepted call leaves, whatever it is lent of
pub accepted-bounded : (c : Call) (t t' : Tables) (a : Answer) → Done c (lent c t) t' a → a.refusal ≡ Accepted → Bounded c.n t'
accepted-bounded c t t' a d ok =
    let taken : refusal c (lent c t) ≡ Accepted = sym (done-refusal c (lent c t) d) ∙ ok in
    subst⁻¹ (Bounded c.n) (d.left ∙ accepted-filled c (lent c t) taken) (bounded c.n _ (lent-held c t taken))

-- the tables after every sequence of calls
pub sequence-bounded : (from : Start) (N : ℕ) (start : Tables) (steps : List Step) → Started from N start → Sequence start steps → Bounded N (run kept steps start)
sequence-bounded from N start steps begun made = of_books from N start begun (Bounded N) steps made (bounded N)
