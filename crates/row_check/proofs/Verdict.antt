-- The answer of the check: its tests pass exactly for the row of the definitions. Assumes nothing.
use Prim.Native.Nat.{ℕ, ◌+◌, ◌*◌, ◌^◌, ◌<◌, ◌≤◌, min, suc}
use mathlib.Core.Path.{◌≡◌, refl, sym, ◌∙◌, ap, ap₂}
use mathlib.Core.Logic.{◌≢◌}
use mathlib.Core.Bool.{Bool, true, false, cond, not, ◌&&◌, beq, and-eq-true_iff}
use mathlib.Core.List.{List}
use native.Mathlib.Nat.{mul-le-mul_right}
use native.Mathlib.Omega.{arith}
use lib.Dec.{eqb}
use lib.ListN.{length, take}
use lib.Seq.{length-take-le, get_or-take}
use borrow.Author.Tests.{eqb-true, eqb-false, eq-eqb, leb-true, le-leb, lt-ltb, ltb-true, not-true}
use Rattle.routes.specs.Route.{mark, Costs, sum_to, all_to, same, list_to, least_time, capped_ways, open_share}
use Rattle.routes.specs.Equations.{inflow, outflow, Within, Counts}
use Rattle.routes.proofs.Booleans.{both, bool_iff}
use Rattle.routes.proofs.Sums.{all_true, all_of, cond-true, is_false, member-le}
use Rattle.routes.proofs.Lists.{same_refl, same_true}
use Rattle.routes.proofs.Rows.{get_or-list_to, list_to-of}
use Rattle.routes.proofs.Bits.{split}
use Rattle.routes.proofs.Totals.{ways-in-all}
use Rattle.routes.proofs.Tight.{SameTight, same-tight, inflow-cong, outflow-cong}
use Rattle.links.specs.declared.network.Network.{Network}
use Rattle.links.specs.declared.measure.Measure.{Measure}
use Rattle.links.specs.Costs.{linked_from}
use Rattle.links.specs.Promise.{dearest, sum_bound}
use Rattle.links.proofs.Masked.{masked_small, masked-within}
use Rattle.row_check.specs.Handed.{Divides, Divided, handed_back, handed_by}
use Rattle.row_check.proofs.Checked.{Checked, checked-right, right-checked}
use Rattle.row_check.proofs.Handing.{handed-le}
use Rattle.row_check.specs.Promise.{is_row}
use Rattle.row_check.specs.Tests.{Pays, agreed, at, at_source, few_in_all, little, paid, reached}
use Rattle.row_check.specs.Tight.{Balance, AllRelaxed, Balanced}

-- parts of n entries each
pub record Parts (n : ℕ) (time ways share : List ℕ) : Type 0 where
  pub timed : length time ≡ n
  pub counted : length ways ≡ n
  pub shared : length share ≡ n

-- what the tests before the walk over the links have told
pub record Opened (n s : ℕ) (time ways share : List ℕ) : Type 0 where
  pub source : at_source s time ways share ≡ true
  pub reached : all_to (length time) (reached mark time ways) ≡ true
  pub in_all : few_in_all (length ways) ways ≡ true
  pub light : all_to (length share) (little share) ≡ true
  pub bounded : (t : ℕ) → t < n → at time t ≤ mark

-- rows that agree below n pass together
checked-cong : (W : Costs) (n s limit scale : ℕ) (d σ δ d' σ' δ' : ℕ → ℕ) → s < n → ((t : ℕ) → t < n → (d t ≡ d' t) × (σ t ≡ σ' t) × (δ t ≡ δ' t))
    → Checked W n s limit scale d σ δ → Checked W n s limit scale d' σ' δ'
checked-cong W n s limit scale d σ δ d' σ' δ' i e C = record {
  source = sym (e s i).0 ∙ C.source;
  one = sym (e s i).1 ∙ C.one;
  none = sym (e s i).2 ∙ C.none;
  bounded = λ t l. omega (arith, (e t l).0, C.bounded t l);
  little = λ t l. omega (arith, (e t l).2, C.little t l);
  reached = λ t l. rw (← (e t l).0, ← (e t l).1) (C.reached t l);
  relaxed = λ u t k l c m. omega (arith, (e u k).0, (e t l).0, C.relaxed u t k l c (λ h. m (sym (e u k).0 ∙ h)));
  summed = λ t l h. sym (e t l).1 ∙ C.summed t l h ∙ ap (min (suc limit)) (inflow-cong W d W d' n tights σ σ' t l (λ u k _. (e u k).1));
  shared = λ v l h. sym (e v l).2 ∙ C.shared v l h ∙ ap₂ ◌*◌ (e v l).1 (outflow-cong W d W d' n tights (handed_by s limit scale σ δ) (handed_by s limit scale σ' δ') v l (λ w k _. ap₂ (λ x y. cond (eqb w s) 0 (handed_back limit scale x y)) (e w k).1 (e w k).2));
}
  where
    tights : SameTight W d W d' n
    tights = same-tight W d d' n (λ t l. (e t l).0)

-- two tests that have the same result
beq-of : {a b : Bool} → a ≡ b → beq a b ≡ true
beq-of {a} {b} e = rw e (go b)
  where
    go : (b : Bool) → beq b b ≡ true
    go true = refl
    go false = refl

of-beq : (a b : Bool) → beq a b ≡ true → a ≡ b
of-beq true true e = refl
of-beq true false e = sym e
of-beq false true e = e
of-beq false false e = refl

pub parts-of : {n : ℕ} (time ways share : List ℕ) → (length time ≡ n) × (length ways ≡ n) × (length share ≡ n) → Parts n time ways share
parts-of time ways share p = record { timed = p.0; counted = p.1; shared = p.2 }

module _ (N : Network) (M : Measure) {s : ℕ} {time ways share : List ℕ} (inside : s < N.n) (P : Parts N.n time ways share) where
  abbrev W : Costs
  W = linked_from N s

  abbrev Passed : Type 0
  Passed = Checked W N.n s M.limit M.scale (at time) (at ways) (at share)

  abbrev verdict : Bool
  verdict = is_row W N.n s M.limit M.scale time ways share

  within : Within W N.n dearest
  within = masked-within N.n s N.cost.now N.passing.now N.out.now N.linked.cheap N.linked.brief

  small : N.n * dearest < mark
  small = masked_small N.n N.linked.most

  passed-row : Passed → verdict ≡ true
  unfolding is_row
  passed-row C =
      let right = checked-right W N.n s dearest M.limit M.scale inside within small M.measured.whole (at time) (at ways) (at share) C in
      (and-eq-true_iff (same time _) _).1 (
        is time P.timed (λ t l. (right t l).0),
        (and-eq-true_iff (same ways _) _).1 (is ways P.counted (λ t l. (right t l).1), is share P.shared (λ t l. (right t l).2)),
      )
    where
      is : (l : List ℕ) {f : ℕ → ℕ} → length l ≡ N.n → ((t : ℕ) → t < N.n → at l t ≡ f t) → same l (list_to N.n f) ≡ true
      is l {f} e h = let is : l ≡ list_to N.n f = list_to-of N.n f 0 l e h in rw is (same_refl (list_to N.n f))

  row-passed : verdict ≡ true → Passed
  unfolding is_row
  row-passed h =
      let (a, rest) = (and-eq-true_iff (same time _) _).0 h in
      let (b, c) = (and-eq-true_iff (same ways _) _).0 rest in
      checked-cong W N.n s M.limit M.scale (least_time W N.n s) (capped_ways W N.n s M.limit) (open_share W N.n s M.limit M.scale) (at time) (at ways) (at share) inside
      (λ t l. (entry time (least_time W N.n s) a t l, entry ways (capped_ways W N.n s M.limit) b t l, entry share (open_share W N.n s M.limit M.scale) c t l))
      (right-checked W N.n s dearest M.limit M.scale inside within small M.measured.whole (omega (arith, M.measured.fine, mul-le-mul_right M.scale N.linked.most)))
    where
      entry : (l : List ℕ) (f : ℕ → ℕ) → same l (list_to N.n f) ≡ true → (t : ℕ) → t < N.n → f t ≡ at l t
      entry l f e t k = sym (get_or-list_to N.n f 0 t k) ∙ sym (ap (λ l. at l t) (same_true l (list_to N.n f) e))

  -- a test that the row would pass has failed
  pub failed : {test answer : Bool} → (Passed → test ≡ true) → answer ≡ test → not answer ≡ true → false ≡ verdict
  failed {answer = answer} h e f = sym (is_false verdict (λ v. both (h (row-passed v)) (sym e ∙ not-true answer f)))

  -- the source has its entries
  pub passed-source : Passed → at_source s time ways share ≡ true
  passed-source C =
      (and-eq-true_iff (eqb (at time s) 0 && eqb (at ways s) 1) _).1 (
        (and-eq-true_iff (eqb (at time s) 0) _).1 (eq-eqb (at time s) 0 C.source, eq-eqb (at ways s) 1 C.one),
        eq-eqb (at share s) 0 C.none,
      )

  source-at : at_source s time ways share ≡ true → (at time s ≡ 0) × (at ways s ≡ 1) × (at share s ≡ 0)
  source-at p =
      let (both, δ) = (and-eq-true_iff (eqb (at time s) 0 && eqb (at ways s) 1) _).0 p in
      let (d, σ) = (and-eq-true_iff (eqb (at time s) 0) _).0 both in
      (eqb-true _ 0 d, eqb-true _ 1 σ, eqb-true _ 0 δ)

  -- ways stand where times do
  pub passed-reached : Passed → all_to (length time) (reached mark time ways) ≡ true
  passed-reached C = rw P.timed (all_of N.n (reached mark time ways) (λ t l. beq-of (C.reached t l)))

  reached-at : all_to (length time) (reached mark time ways) ≡ true → (t : ℕ) → t < N.n → eqb (at time t) mark ≡ eqb (at ways t) 0
  reached-at p t l = of-beq _ _ (all_true (length time) (reached mark time ways) p t (omega (arith, P.timed)))

  -- there are few ways in all, and at each stop
  few : Passed → few_in_all N.n ways ≡ true
  few C =
      let counts : Counts W N.n s M.limit (at time) (at ways) = record { source = C.one; summed = C.summed } in
      le-leb (sum_to N.n (at ways)) sum_bound (omega (arith, ways-in-all W N.n s M.limit (at time) (at ways) inside M.measured.few counts N.linked.most C.bounded))

  pub passed-in-all : Passed → few_in_all (length ways) ways ≡ true
  passed-in-all C = rw P.counted (few C)

  in-all : few_in_all (length ways) ways ≡ true → sum_to N.n (at ways) ≤ sum_bound
  in-all p = leb-true (sum_to N.n (at ways)) sum_bound (rw P.counted at p)

  few-at : few_in_all (length ways) ways ≡ true → (t : ℕ) → t < N.n → at ways t ≤ sum_bound
  few-at p t l = omega (arith, in-all p, member-le N.n (at ways) t l)

  pub passed-little : Passed → all_to (length share) (little share) ≡ true
  passed-little C = rw P.shared (all_of N.n (little share) (λ t l. lt-ltb (at share t) (2 ^ 40) (C.little t l)))

  little-at : all_to (length share) (little share) ≡ true → (t : ℕ) → t < N.n → at share t < 2 ^ 40
  little-at p t l = ltb-true (at share t) (2 ^ 40) (all_true (length share) (little share) p t (omega (arith, P.shared)))

  -- within bounds, the divisions can be made
  pub little-divides : {psi : List ℕ} → all_to (length share) (little share) ≡ true → length psi ≡ N.n → (s < length share) × Divides (length share) M.scale ways share psi
  little-divides p e = (
    omega (arith, inside, P.shared),
    record {
      counted = P.counted ∙ sym P.shared;
      undivided = record {
        shared = refl;
        room = e ∙ sym P.shared;
        fits = λ t l. omega (arith, little-at p t (omega (arith, P.shared)), M.measured.fine);
      };
    },
  )

  abbrev Handed : List ℕ → Type 0
  Handed psi = Divided (length share) s M.limit M.scale ways share psi

  handed : {psi : List ℕ} → Handed psi → (t : ℕ) → t < N.n → at psi t ≡ handed_by s M.limit M.scale (at ways) (at share) t
  handed q t l = q.back t (omega (arith, P.shared))

  -- and what the sums ask holds
  pub opened-balance : {psi : List ℕ} → Opened N.n s time ways share → Handed psi → Balance N.n s N.cost.now N.passing.now N.out.now time ways psi
  opened-balance {psi} O q = record {
    most = N.linked.most;
    source = inside;
    square = N.linked.square;
    passable = N.linked.passable;
    masks = N.linked.masks;
    linked = N.linked.linked;
    timed = P.timed;
    counted = P.counted;
    bounded = O.bounded;
    room = q.room ∙ P.shared;
    in_all = in-all O.in_all;
    light = λ t l. omega (arith, handed q t l, under (eqb t s) (handed-le M.limit M.scale (at ways t) (at share t)), little-at O.light t l, M.measured.fine);
    quiet = handed q s inside ∙ cond-true 0 _ (eq-eqb s s refl);
  }
    where
      under : {x y : ℕ} (b : Bool) → x ≤ y → cond b 0 x ≤ y
      under true g = omega arith
      under false g = g

  same_back : {psi : List ℕ} → Handed psi → (u : ℕ) → u < N.n
      → outflow W N.n (at time) (at psi) u ≡ outflow W N.n (at time) (handed_by s M.limit M.scale (at ways) (at share)) u
  same_back {psi} q u l = outflow-cong W (at time) W (at time) N.n (λ _ _ _ _. refl) (at psi) (handed_by s M.limit M.scale (at ways) (at share)) u l (λ w k _. handed q w k)

  -- a link that improves a time refutes the row
  pub improved : ¬ (AllRelaxed W N.n time) → false ≡ verdict
  improved f = sym (is_false verdict (λ v. f (λ u l t k. (row-passed v).relaxed u t l k)))

  -- with what flows back, the shares can be compared
  module _ {psi sum flow : List ℕ} (O : Opened N.n s time ways share) (q : Handed psi) (r : Balanced W N.n s time ways psi sum flow) where
    abbrev back : List ℕ
    back = take N.n flow

    abbrev sums : List ℕ
    sums = take N.n sum

    pub balanced-pays : Pays (length share) ways share back
    balanced-pays = record {
      counted = P.counted ∙ sym P.shared;
      shared = refl;
      flows = length-take-le N.n flow (omega (arith, r.room, N.linked.most)) ∙ sym P.shared;
      few = λ t l. few-at O.in_all t (omega (arith, P.shared));
      light = λ t l. let k : t < N.n = omega (arith, P.shared) in omega (arith, get_or-take N.n flow t 0 k, r.light t k);
    }

    back-is : (u : ℕ) → u < N.n → u ≢ s → at back u ≡ outflow W N.n (at time) (handed_by s M.limit M.scale (at ways) (at share)) u
    back-is u l g = get_or-take N.n flow u 0 l ∙ r.flows u l g ∙ same_back q u l

    none : at back s ≡ 0
    none = get_or-take N.n flow s 0 inside ∙ r.none

    one : at sums s ≡ 1
    one = get_or-take N.n sum s 0 inside ∙ r.one

    summed : (t : ℕ) → t < N.n → t ≢ s → at sums t ≡ inflow W N.n (at time) (at ways) t
    summed t l g = get_or-take N.n sum t 0 l ∙ r.summed t l g

    passed-paid : Passed → all_to (length share) (paid ways share back) ≡ true
    passed-paid C = rw P.shared (all_of N.n (paid ways share back) (λ u l. eq-eqb (at share u) (at ways u * at back u) (split (eqb u s)
        (λ e. rw (eqb-true u s e, C.none, none) (omega arith))
        (λ e. let g = eqb-false u s e in C.shared u l g ∙ ap (λ x. at ways u * x) (sym (back-is u l g))))))

    passed-agreed : Passed → all_to (length ways) (agreed (M.limit + 1) ways sums) ≡ true
    passed-agreed C = rw P.counted (all_of N.n (agreed (M.limit + 1) ways sums) (λ t l. eq-eqb (at ways t) (min (M.limit + 1) (at sums t)) (split (eqb t s)
        (λ e. rw (eqb-true t s e) (omega (arith, C.one, one, M.measured.some)))
        (λ e. omega (arith, C.summed t l (eqb-false t s e), summed t l (eqb-false t s e))))))

    -- where no link improves a time, shares and ways decide
    pub decided : {paying agreeing : Bool} → paying ≡ all_to (length share) (paid ways share back) → agreeing ≡ all_to (length ways) (agreed (M.limit + 1) ways sums)
        → (paying && agreeing) ≡ verdict
    decided {paying} {agreeing} ep ea = bool_iff (paying && agreeing) verdict
        (λ both. let (p, a) = (and-eq-true_iff paying agreeing).0 both in row (all_true (length share) (paid ways share back) (sym ep ∙ p)) (all_true (length ways) (agreed (M.limit + 1) ways sums) (sym ea ∙ a)))
        (λ e. let C = row-passed e in (and-eq-true_iff paying agreeing).1 (ep ∙ passed-paid C, ea ∙ passed-agreed C))
      where
        row : ((u : ℕ) → u < length share → paid ways share back u ≡ true) → ((t : ℕ) → t < length ways → agreed (M.limit + 1) ways sums t ≡ true) → verdict ≡ true
        row p a = passed-row (record {
          source = (source-at O.source).0;
          one = (source-at O.source).1;
          none = (source-at O.source).2;
          bounded = O.bounded;
          little = little-at O.light;
          reached = reached-at O.reached;
          relaxed = λ u t k l. r.relaxed u k t l;
          summed = λ t l g. omega (arith, eqb-true (at ways t) _ (a t (omega (arith, P.counted))), summed t l g);
          shared = λ u l g. eqb-true (at share u) _ (p u (omega (arith, P.shared))) ∙ ap (λ x. at ways u * x) (back-is u l g);
        })
