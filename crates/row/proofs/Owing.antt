-- Shares on lists and words: a turn of the loop that pushes them back. Assumes nothing.
use Prim.Native.Nat.{ℕ, suc, ◌+◌, ◌*◌, ◌^◌, ◌<◌, ◌≤◌}
use mathlib.Core.Path.{◌≡◌, refl, sym, ap, ◌∙◌}
use mathlib.Core.Logic.{◌≢◌}
use mathlib.Core.Bool.{Bool, true, false, cond}
use mathlib.Core.List.{List}
use native.Mathlib.Nat.{add-zero, mul-le-mul_left, mul-le-mul_right}
use native.Mathlib.Omega.{arith}
use lib.ListN.{length, get_or, set}
use lib.Seq.{get_or-set_same, get_or-set_other}
use Rattle.routes.specs.Route.{Costs, mark, has, least_time, capped_ways}
use Rattle.routes.specs.Equations.{tight, outflow, quotient}
use Rattle.routes.proofs.Shared.{flow_back}
use Rattle.row.proofs.Order.{seen_at}
use Rattle.row.proofs.Pushing.{Pushing, flow-fits, flow-whole, pushes-next, pushing-ends, pushing-starts}
use Rattle.row.specs.Paid.{Added, Adds, Owing}

-- what a turn for the stop v may rely on
pub record Step (limit scale v : ℕ) (ways pred share : List ℕ) : Type 0 where
  pub small : v < 64
  pub counted : v < length ways
  pub listed : v < length pred
  pub held : v < length share
  pub some : 0 < get_or ways v 0
  pub sum : quotient limit scale (get_or ways v 0) + get_or share v 0 < 2 ^ 64
  pub product : get_or ways v 0 * get_or share v 0 < 2 ^ 64
  pub adds : Adds (get_or pred v 0) (quotient limit scale (get_or ways v 0) + get_or share v 0) share

plus : (b : Bool) (x y : ℕ) → cond b (x + y) x ≡ x + cond b y 0
plus true x y = refl
plus false x y = sym (add-zero x)

-- between two turns: the first i stops of the order wait
abbrev pub Pushes : Costs → (n s k scale limit : ℕ) → List ℕ → ℕ → List ℕ → Type 0
Pushes W n s k scale limit order i share =
    Pushing W n (least_time W n s) (capped_ways W n s limit) (flow_back W n s limit scale) (λ j. get_or order j 0) k i (λ v. get_or share v 0)

module _ (W : Costs) (n s k scale limit : ℕ) (ways pred order : List ℕ) (w : Owing W n s k scale limit ways pred order) where
  abbrev D : ℕ → ℕ
  D = least_time W n s

  abbrev σ : ℕ → ℕ
  σ = capped_ways W n s limit

  abbrev ψ : ℕ → ℕ
  ψ = flow_back W n s limit scale

  total : n * scale ≤ 64 * 2 ^ 32
  total = omega (arith, mul-le-mul_right scale w.most, w.fine)

  pub owing-starts : (share : List ℕ) → ((v : ℕ) → get_or share v 0 ≡ 0) → Pushes W n s k scale limit order k share
  owing-starts share zeros = pushing-starts W n k D σ ψ (λ i. get_or order i 0) w.ordered w.near w.complete (λ v. get_or share v 0) (λ v _. zeros v)

  module _ (j : ℕ) (l : j < k) (share : List ℕ) (long : length share ≡ n) (state : Pushes W n s k scale limit order (suc j) share) where
    abbrev v : ℕ
    v = get_or order j 0

    inside : v < n
    inside = w.ordered.inside j l

    reached : D v ≢ mark
    reached = w.found v (seen_at (λ i. get_or order i 0) k j l)

    flow : get_or share v 0 ≡ outflow W n D ψ v
    flow = flow-whole W n k D σ ψ (λ i. get_or order i 0) w.ordered w.near w.complete j l (λ u. get_or share u 0) state

    psi : quotient limit scale (get_or ways v 0) + get_or share v 0 ≡ ψ v
    psi = rw (w.counts v inside, flow) (sym (w.flowing v inside))

    parent : (u : ℕ) → u < n → has (get_or pred v 0) u ≡ tight W D u v
    parent u lu = w.linked v u inside lu reached

    pub owing-step : Step limit scale v ways pred share
    owing-step =
        record {
          small = omega (arith, inside, w.most);
          counted = omega (arith, inside, w.counted);
          listed = omega (arith, inside, w.room, w.most);
          held = omega (arith, inside);
          some = omega (arith, w.counts v inside, w.some v inside reached);
          sum = omega (arith, psi, w.back v inside, total);
          product =
              let less : get_or share v 0 ≤ ψ v = omega (arith, psi) in
              omega (arith, mul-le-mul_left (get_or ways v 0) less, ap (λ x. x * ψ v) (w.counts v inside), w.shared v inside, total);
          adds = record {
            below = λ u h. omega (arith, w.behind v u inside h);
            fits = λ u h.
                let lu = w.behind v u inside h in
                omega (
                  arith,
                  psi,
                  flow-fits W n k D σ ψ (λ i. get_or order i 0) w.ordered w.near w.complete j l (λ u. get_or share u 0) state u lu (sym (parent u lu) ∙ h),
                  w.flowing u lu,
                  w.back u lu,
                  total,
                );
          };
        }

    pub owing-next : (share' : List ℕ) → length share' ≡ length share
        → Added (get_or pred v 0) (quotient limit scale (get_or ways v 0) + get_or share v 0) share share'
        → Pushes W n s k scale limit order j (set share' v (get_or ways v 0 * get_or share v 0))
    owing-next share' kept added =
        pushes-next W n k D σ ψ (λ i. get_or order i 0) w.ordered w.near w.complete j l (λ u. get_or share u 0) state
        (λ u. get_or (set share' v (get_or ways v 0 * get_or share v 0)) u 0)
        (get_or-set_same share' v _ 0 (omega (arith, inside)) ∙ ap (λ x. x * get_or share v 0) (w.counts v inside))
        (λ u lu e. get_or-set_other share' v u _ 0 e ∙ added u ∙ rw (parent u lu, psi) (plus (tight W D u v) (get_or share u 0) (ψ v)))

  pub owing-ends : (share : List ℕ) → Pushes W n s k scale limit order 0 share → (v : ℕ) → v < n → get_or share v 0 ≡ σ v * outflow W n D ψ v
  owing-ends share state = pushing-ends W n k D σ ψ (λ i. get_or order i 0) w.ordered w.near w.complete (λ v. get_or share v 0) state
