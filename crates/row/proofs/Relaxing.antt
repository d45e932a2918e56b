-- The loop that offers the links of a stop to the members of a word: what holds between two turns. Assumes nothing.
use Prim.Native.Nat.{ℕ, ◌+◌, ◌*◌, ◌^◌, ◌<◌, ◌≤◌, min}
use mathlib.Core.Path.{◌≡◌, ap, ap₂, ◌∙◌}
use mathlib.Core.List.{List}
use native.Mathlib.Omega.{arith}
use lib.ListN.{length, get_or, set, length-set}
use lib.Seq.{get_or-set_same, get_or-set_other}
use Rattle.routes.specs.Sets.{Popped}
use Rattle.routes.proofs.Bits.{Rewriting, rewriting-goes, rewriting-ends}
use Rattle.links.proofs.Flat.{flat-lt}
use Rattle.links.specs.Promise.{via_of}
use Rattle.row.specs.Steps.{Offered, Offers, joined_by}

module _ (n s b all : ℕ) (cost passing time pred : List ℕ) where
  pub record Relaxing (left : ℕ) (time' pred' : List ℕ) : Type 0 where
    pub timed : length time' ≡ length time
    pub room : length pred' ≡ length pred
    pub times : Rewriting all left (λ t. min (via_of n s b cost passing time t) (get_or time t 0)) (λ t. get_or time t 0) (λ t. get_or time' t 0)
    pub preds : Rewriting all left (λ t. joined_by (via_of n s b cost passing time t) (get_or time t 0) (2 ^ b) (get_or pred t 0)) (λ t. get_or pred t 0) (λ t. get_or pred' t 0)

  module _ (asked : Offers n s b all cost passing time pred) where
    -- the member taken stands in every table
    pub relaxing-inside : {left t rest : ℕ} {time' pred' : List ℕ} → Relaxing left time' pred' → Popped left t rest
        → (t < 64) × (t < length time') × (t < length pred') × (b * n + t < length cost) × (length cost ≤ 4096)
    relaxing-inside {left} {t} c q =
        let l = asked.below t (c.times.inside t q.member) in
        let (k, m) = flat-lt n b t asked.most asked.inside l in
        (omega (arith, asked.most), omega (arith, c.timed, asked.timed), omega (arith, c.room, asked.room, asked.most), omega (arith, asked.square), omega (arith, asked.square))

    pub relaxing-goes : {left t rest p d : ℕ} {time' pred' : List ℕ} → Relaxing left time' pred' → Popped left t rest
        → p ≡ joined_by (via_of n s b cost passing time t) (get_or time' t 0) (2 ^ b) (get_or pred' t 0) → d ≡ min (via_of n s b cost passing time t) (get_or time' t 0)
        → Relaxing rest (set time' t d) (set pred' t p)
    relaxing-goes {left} {t} {rest} {p} {d} {time'} {pred'} c q ep ed =
        let (_, lt, lp, _, _) = relaxing-inside c q in
        record {
          timed = length-set time' t d ∙ c.timed;
          room = length-set pred' t p ∙ c.room;
          times = rewriting-goes all _ _ c.times q (get_or-set_same time' t d 0 lt ∙ ed ∙ ap (λ x. min (via_of n s b cost passing time t) x) (c.times.todo t q.member)) (λ u e. get_or-set_other time' t u d 0 e);
          preds = rewriting-goes all _ _ c.preds q (get_or-set_same pred' t p 0 lp ∙ ep ∙ ap₂ (λ x y. joined_by (via_of n s b cost passing time t) x (2 ^ b) y) (c.times.todo t q.member) (c.preds.todo t q.member)) (λ u e. get_or-set_other pred' t u p 0 e);
        }

    pub relaxing-ends : {time' pred' : List ℕ} → Relaxing 0 time' pred' → Offered n s b all cost passing time pred time' pred'
    relaxing-ends c = record { times = rewriting-ends all _ _ c.times; preds = rewriting-ends all _ _ c.preds }
