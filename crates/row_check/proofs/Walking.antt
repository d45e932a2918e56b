-- The loop over the links from one stop: what holds between two turns. Assumes nothing.
use Prim.Native.Nat.{ℕ, ◌+◌, ◌-◌, ◌*◌, ◌^◌, ◌<◌, ◌≤◌}
use mathlib.Core.Path.{◌≡◌, refl, ◌∙◌, ap₂}
use mathlib.Core.Bool.{Bool, true, false, cond, ◌||◌, true≢false}
use mathlib.Core.List.{List}
use native.Mathlib.Omega.{arith}
use lib.Dec.{eqb, ltb}
use lib.ListN.{length, get_or, set, take, drop, length-set}
use lib.Seq.{get_or-set_same, get_or-set_other, get_or-take, get_or-drop}
use borrow.Author.Tests.{ltb-false, le-ltb}
use Rattle.routes.specs.Route.{has, sum_to}
use Rattle.routes.proofs.Sums.{sum_to-bound}
use Rattle.routes.specs.Sets.{Popped}
use Rattle.routes.proofs.Bits.{popped-gone, split, has-none, sum-popped, sum-none, Rewriting, rewriting-goes, rewriting-ends}
use Rattle.links.proofs.Flat.{flat-lt}
use Rattle.links.specs.Picked.{Picked}
use Rattle.links.specs.Promise.{stay, via_of, sum_bound}
use Rattle.row_check.specs.Tests.{at}
use Rattle.row_check.specs.Tight.{Kept, Scan, Scans, if_tight}

-- where one or the other fails, both do
neither : (a b : Bool) → (a || b) ≡ false → (a ≡ false) × (b ≡ false)
neither true b e = absurd (true≢false e)
neither false b e = (refl, e)

-- a number or nothing is no more than the number
pub under : (b : Bool) {x m : ℕ} → x ≤ m → cond b x 0 ≤ m
under true h = h
under false h = omega arith

-- the entries of row u of a flat table
pub row-entry : (n u t : ℕ) (l : List ℕ) → t < n → get_or (take (u * n + n - u * n) (drop (u * n) l)) t 0 ≡ get_or l (u * n + t) 0
row-entry n u t l h = get_or-take (u * n + n - u * n) (drop (u * n) l) t 0 (omega arith) ∙ get_or-drop (u * n) l t 0

-- going over the links from u: what is left is still to come, and what was passed is done
module _ (n s u links : ℕ) (cost passing time ways psi old : List ℕ) where
  abbrev tight : ℕ → ℕ → ℕ
  tight = if_tight n s u cost passing time

  pub record Walking (left : ℕ) (sum : List ℕ) (flow : ℕ) (improves : Bool) : Type 0 where
    pub sums : length sum ≡ 64
    pub flows : flow + sum_to n (λ t. cond (has left t) (tight t (at psi t)) 0) ≡ sum_to n (λ t. cond (has links t) (tight t (at psi t)) 0)
    pub added : Rewriting links left (λ t. at old t + tight t (at ways u)) (at old) (at sum)
    pub kept : improves ≡ false → (t : ℕ) → has links t ≡ true → has left t ≡ false → at time t ≤ via_of n s u cost passing time t
    pub good : Kept n s u links cost passing time → improves ≡ false

  module _ (asked : Scan n s u links cost passing time ways psi old) where
    total : sum_to n (λ t. cond (has links t) (tight t (at psi t)) 0) ≤ n * 2 ^ 41
    total = sum_to-bound n (2 ^ 41) (λ t l. under (has links t) (under (eqb (via_of n s u cost passing time t) (at time t)) (asked.light t l)))

    -- the member taken stands in every table, and its sum can take the ways of u
    pub walking-inside : {left t rest flow : ℕ} {sum : List ℕ} {improves : Bool} → Walking left sum flow improves → Popped left t rest
        → (t < n) × (u * n + t < length cost) × (length cost ≤ 4096) × (at sum t + at ways u ≤ sum_bound)
    walking-inside {left} {t} {rest} {flow} {sum} w p =
        let l = asked.below t (w.added.inside t p.member) in
        let (k, m) = flat-lt n u t asked.most asked.inside l in (
          l,
          omega (arith, asked.square),
          omega (arith, asked.square),
          omega (arith, w.added.todo t p.member, asked.small t l),
        )

    -- whether the link is tight or not, the stop i that the flow is taken from stands in its table, and what is added fits
    module _ {left t rest flow : ℕ} {sum : List ℕ} {improves : Bool} (w : Walking left sum flow improves) (p : Popped left t rest) where
      pub walking-flow : {b : Bool} {i : ℕ} → Picked b t s i → (i < n) × (flow + at psi i ≤ 2 ^ 48)
      walking-flow {b} e = rw e.is (go b (walking-inside w p).0)
        where
          go : (b : Bool) → t < n → (cond b t s < n) × (flow + at psi (cond b t s) ≤ 2 ^ 48)
          go true l = (l, omega (arith, w.flows, total, asked.most, asked.light t l))
          go false l = (asked.source, omega (arith, w.flows, total, asked.most, asked.quiet))

      pub walking-adds : {b : Bool} {x : ℕ} → Picked b (at ways u) 0 x → at sum t + x ≤ sum_bound
      walking-adds {b} {x} e = let (_, _, _, k) = walking-inside w p in omega (arith, e.is, under b {x = at ways u} {m = at ways u} (omega arith))

    -- a turn reads the cost c and the time far, u being left at the time near, picks the stop i to take the flow from, and adds x to the sum, which makes y
    module _
        {left t rest near c far i : ℕ}
        (p : Popped left t rest)
        (eu : near ≡ at time u + stay s passing u)
        (ec : c ≡ at cost (u * n + t))
        (et : far ≡ at time t)
        (ei : Picked (eqb (near + c) far) t s i)
      where
        -- off the tight links the flow is the source's, which is none
        taken : at psi i ≡ tight t (at psi t)
        taken = rw (ei.is, eu, ec, et) (pick (eqb (via_of n s u cost passing time t) (at time t)))
          where
            pick : (b : Bool) → at psi (cond b t s) ≡ cond b (at psi t) 0
            pick true = refl
            pick false = asked.quiet

        pub walking-goes : {flow x y : ℕ} {sum : List ℕ} {improves : Bool} → Walking left sum flow improves
            → Picked (eqb (near + c) far) (at ways u) 0 x → y ≡ at sum t + x
            → Walking rest (set sum t y) (flow + at psi i) (improves || ltb (near + c) far)
        walking-goes {flow} {x} {y} {sum} {improves} w ex ey =
            let (l, _, _, _) = walking-inside w p in
            record {
              sums = length-set sum t y ∙ w.sums;
              flows = omega (arith, taken, w.flows, sum-popped n (λ t. tight t (at psi t)) p l);
              added = rewriting-goes links _ _ w.added p
                  (get_or-set_same sum t y 0 (omega (arith, w.sums, asked.most)) ∙ rw (ey, ex.is, eu, ec, et, w.added.todo t p.member))
                  (λ v g. get_or-set_other sum t v y 0 g);
              kept = λ e. let (b, r) = neither improves _ e in λ v g k. split (has left v)
                  (λ m. let v≡t = popped-gone p v m k in rw v≡t (omega (arith, ltb-false (near + c) far r)))
                  (λ m. w.kept b v g m);
              good = λ all. ap₂ ◌||◌ (w.good all) (le-ltb (near + c) far (omega (arith, all t (w.added.inside t p.member))));
            }

    pub walking-ends : {flow : ℕ} {sum : List ℕ} {improves : Bool} → Walking 0 sum flow improves → improves ≡ false → Scans n s u links cost passing time ways psi old sum flow
    walking-ends {flow} w e = record {
      sums = w.sums;
      flows = omega (arith, w.flows, sum-none n (λ t. tight t (at psi t)));
      kept = λ t g. w.kept e t g (has-none t);
      added = rewriting-ends links _ _ w.added;
    }
