-- The whole row: how the parts of the fill come together. Assumes nothing.
use Prim.Native.Nat.{ℕ, ◌<◌}
use mathlib.Core.Path.{◌≡◌, sym, ◌∙◌}
use mathlib.Core.List.{List}
use native.Mathlib.Omega.{arith}
use lib.Dec.{eqb, ltb}
use lib.ListN.{length, get_or, set, length-set, replicate, length-replicate, get_or-replicate, get_or-eq_default}
use lib.Seq.{get_or-set_same, get_or-set_other}
use borrow.Author.Tests.{eqb-true, eqb-false, ltb-true, ltb-false}
use Rattle.routes.specs.Route.{Costs, mark, least_time, capped_ways, open_share}
use Rattle.routes.specs.Equations.{Shares}
use Rattle.routes.proofs.Flows.{Flows, flows}
use Rattle.routes.proofs.Shared.{flow_back, flowing, shares}
use Rattle.routes.proofs.Bounds.{back-le, capped-back-le}
use Rattle.routes.proofs.Bits.{split}
use Rattle.routes.proofs.Rows.{list_to-of}
use Rattle.links.specs.Promise.{dearest, masked_from}
use Rattle.links.specs.Work.{Linked, Measured}
use Rattle.links.proofs.Masked.{masked_small, masked-within}
use Rattle.row.proofs.Turns.{near}
use Rattle.row.specs.Paid.{Owing, Paid, Waits}
use Rattle.row.specs.Promise.{RightRow}
use Rattle.row.specs.Settled.{Begun, Settled}

-- a list of zeros has no other entry
none : (n t : ℕ) → get_or {A = ℕ} (replicate n 0) t 0 ≡ 0
none n t = split (ltb t n)
    (λ e. get_or-replicate n t 0 0 (ltb-true t n e))
    (λ e. get_or-eq_default (replicate n 0) 0 {n = t} (omega (arith, ltb-false t n e, length-replicate {A = ℕ} n 0)))

-- the lists that the settle loop starts from
pub begun : (n s : ℕ) {time ways : List ℕ} → s < n → time ≡ replicate n mark → ways ≡ replicate n 0 → Begun n s (set time s 0) (set ways s 1) (replicate 64 0)
begun n s {time} {ways} ls et ew =
    record {
      timed = length-set time s 0 ∙ lt;
      counted = length-set ways s 1 ∙ lw;
      room = length-replicate {A = ℕ} 64 0;
      times = λ t l. split (eqb t s)
          (λ e. rw (e, eqb-true t s e) (get_or-set_same time s 0 0 (omega (arith, lt))))
          (λ e. rw e (get_or-set_other time s t 0 0 (eqb-false t s e) ∙ rw et (get_or-replicate n t mark 0 l)));
      counts = λ t l. split (eqb t s)
          (λ e. rw (e, eqb-true t s e) (get_or-set_same ways s 1 0 (omega (arith, lw))))
          (λ e. rw e (get_or-set_other ways s t 1 0 (eqb-false t s e) ∙ rw ew (get_or-replicate n t 0 0 l)));
      preds = none 64;
    }
  where
    lt : length time ≡ n
    lt = rw et (length-replicate {A = ℕ} n mark)

    lw : length ways ≡ n
    lw = rw ew (length-replicate {A = ℕ} n 0)

module _ (n s scale limit k : ℕ) (cost passing out time ways pred order : List ℕ) (source : s < n) (a : Linked n cost passing out) (m : Measured limit scale)
    (settled : Settled (masked_from n s cost passing out) n s limit time ways pred order k) where
  abbrev W : Costs
  W = masked_from n s cost passing out

  abbrev D : ℕ → ℕ
  D = least_time W n s

  abbrev σ : ℕ → ℕ
  σ = capped_ways W n s limit

  abbrev ψ : ℕ → ℕ
  ψ = flow_back W n s limit scale

  F : Flows W n s
  F = flows W n s dearest source (masked-within n s cost passing out a.cheap a.brief) (masked_small n a.most)

  -- what the loop over shares asks of a settled row
  pub owing : length ways ≡ n → length pred ≡ 64 → length order ≡ k → Owing W n s k scale limit ways pred order
  owing lw lp lo =
      record {
        most = a.most;
        fine = m.fine;
        counted = lw;
        room = lp;
        queue = lo;
        counts = settled.counts;
        behind = settled.behind;
        linked = settled.linked;
        ordered = settled.ordered;
        complete = settled.complete;
        found = settled.found;
        near = near n s limit cost passing out source a m.few;
        some = λ t l r. omega (arith, F.reached t l r);
        flowing = flowing W n s F limit scale;
        back = back-le W n s F limit scale;
        shared = capped-back-le W n s F limit scale;
      }

  pub waits : {share : List ℕ} → length ways ≡ n → length pred ≡ 64 → length order ≡ k → share ≡ replicate n 0 → Waits k scale limit ways pred order share
  waits lw lp lo e =
      record {
        costs = W;
        size = n;
        source = s;
        owing = owing lw lp lo;
        long = rw e (length-replicate {A = ℕ} n 0);
        zeros = λ v. rw e (none n v);
      }

  -- the row is whole
  pub filled : (share : List ℕ) → length time ≡ n → length ways ≡ n → length share ≡ n → (length pred ≡ 64) → (length order ≡ k)
      → Paid k scale limit ways pred order share → RightRow W n s limit scale time ways (set share s 0)
  filled share lt lw ls lp lo paid =
      record {
        times = list_to-of n D 0 time lt settled.times;
        counts = list_to-of n σ 0 ways lw settled.counts;
        shares = list_to-of n (open_share W n s limit scale) 0 (set share s 0) (length-set share s 0 ∙ ls) shared;
      }
    where
      E3 : Shares W n s limit scale D σ ψ (open_share W n s limit scale)
      E3 = shares W n s F limit scale m.whole

      shared : (v : ℕ) → v < n → get_or (set share s 0) v 0 ≡ open_share W n s limit scale v
      shared v l = split (eqb v s)
          (λ e. rw (eqb-true v s e) (get_or-set_same share s 0 0 (omega (arith, source)) ∙ sym E3.source))
          (λ e. let other = eqb-false v s e in
          get_or-set_other share s v 0 0 other ∙ paid W n s (owing lw lp lo) v l ∙ sym (E3.shared v l other))
