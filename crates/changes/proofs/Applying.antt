-- What an edit of right tables asks to sum the scores, leaves and answers, once its rows are worked out. Assumes nothing.
use Rattle.std.specs.Prelude.{Ok}
use Prim.Native.Nat.{ℕ, ◌+◌, ◌*◌, ◌^◌, ◌≤◌}
use mathlib.Core.Path.{◌≡◌, ◌∙◌, ap}
use mathlib.Core.List.{List}
use lib.Count.{ones}
use lib.ListN.{length, set}
use Rattle.routes.specs.Route.{set_of}
use Rattle.routes.proofs.Bits.{ones-set_of}
use Rattle.book.specs.Hall.{laid, Tables, entry, filled, touched}
use Rattle.book.specs.Call.{with_cost}
use Rattle.book.specs.Contract.{tables, of_edit}
use Rattle.cells.specs.Promise.{Shares, summed}
use Rattle.tables.specs.Promise.{Worked}
use Rattle.cells.proofs.Sums.{summed-whole}
use Rattle.tables.proofs.Worked.{worked-shares, worked-scores}
use Rattle.changes.specs.Promise.{Change, Applied}
use Rattle.changes.proofs.Laws.{workable'}

module _ (m L n u v new : ℕ) (t : Tables) (h : Change m L n u v new t.layout t.time t.ways t.share) (cost' times' counts' shares' : List ℕ)
    (made : Worked m L n (with_cost n u v new t.layout) times' counts' shares') (costs : cost' ≡ set t.layout.cost (u * n + v) new) where
  pub shares-applied : L ≤ 2 ^ 32 → Shares n shares'
  shares-applied fine = worked-shares m L n (with_cost n u v new t.layout) shares' made.shares fine (workable' h)

  pub applied : (sources : ℕ) → sources ≡ set_of n (touched n t.layout (with_cost n u v new t.layout) u v) → (count : ℕ) → count ≡ ones sources →
      (before : ℕ) → before ≡ entry n t.layout.cost u v → length t.score ≡ n → (score' : List ℕ) → score' ≡ summed n n shares' t.score →
      Applied m L n u v new t (tables cost' t.layout.passing times' counts' shares' score') (of_edit (Ok (record { touched = sources; rows = count; before = before })))
  unfolding filled
  applied sources e count o before was long score' sums = record {
    left = λ i. record {
      layout = laid (costs i) t.layout.passing;
      time = made.times i;
      ways = made.counts i;
      share = made.shares i;
      score = (sums ∙ summed-whole n shares' t.score long ∙ worked-scores m L n (with_cost n u v new t.layout) shares' made.shares) i;
    };
    answered = λ i. of_edit (Ok (record { touched = e i; rows = (o ∙ ap ones e ∙ ones-set_of n _) i; before = was i }));
  }
