-- Laws of the records at the front of an image: what a valid one holds, and the cost table of the first of them, as a reader
-- fills it record by record. Assumes nothing.
use Prim.Native.Nat.{ℕ, zero, suc, ◌+◌, ◌*◌, ◌-◌, ◌<◌, ◌≤◌}
use mathlib.Core.Path.{◌≡◌, refl, sym, ◌∙◌, ap}
use mathlib.Core.Logic.{◌≢◌, ⊎_elim}
use mathlib.Core.Bool.{Bool, true, false, cond, not, ◌&&◌, ◌||◌, and-eq-true_iff}
use mathlib.Core.List.{List, ◌++◌}
use native.Mathlib.Nat.{not-suc-le-zero, lt_irrefl, eq-zero-or-pos}
use native.Mathlib.Decide.{dec_lt}
use native.Mathlib.Omega.{arith}
use lib.Dec.{eqb, ltb, leb, leb-zero, eqb-suc-zero}
use lib.ListN.{length, set, replicate}
use borrow.Author.Tests.{ltb-true, leb-true, eqb-true, eqb-false, lt-ltb, le-leb, eq-eqb, ne_eqb, not-true}
use Rattle.routes.specs.Route.{sum_to, all_to}
use Rattle.routes.proofs.Sums.{below_suc, cond-true, sum_to-cong, sum_to-zero, sum_to-pick, sum_to-positive, all_true, all_of}
use Rattle.book.specs.Hall.{largest_cost, table, up_to, valid_pair, field, valid_record}
use Rattle.book.proofs.Tables.{Valid, table-cong, table-set, table-zero}
use Rattle.book.proofs.Bytes.{field-append}

-- two tests pass where each does
pub both-pass : {a b : Bool} → a ≡ true → b ≡ true → (a && b) ≡ true
both-pass p q = (and-eq-true_iff _ _).1 (p, q)

-- the three fields of record i, and its place in the order
abbrev pub from : List ℕ → ℕ → ℕ
from l i = field l (4 * i) 1

abbrev pub to : List ℕ → ℕ → ℕ
to l i = field l (4 * i + 1) 1

abbrev pub cost_at : List ℕ → ℕ → ℕ
cost_at l i = field l (4 * i + 2) 2

abbrev pub key : List ℕ → ℕ → ℕ
key l i = 256 * from l i + to l i

-- the least that the key of record i may be: 0 for the first, above the one before for the others
abbrev pub least_key : List ℕ → ℕ → ℕ
least_key l zero = 0
least_key l (suc j) = suc (key l j)

-- the tests of record i, as a reader makes them that carries the least key
pub valid-tests : (n : ℕ) (l : List ℕ) (i : ℕ) → valid_record n l i ≡ (valid_pair n (from l i) (to l i) && (up_to largest_cost (cost_at l i) && leb (least_key l i) (key l i)))
unfolding valid_record
valid-tests n l i = ap (λ b. valid_pair n (from l i) (to l i) && (up_to largest_cost (cost_at l i) && b)) (order i)
  where
    order : (i : ℕ) → (eqb i 0 || ltb (key l (i - 1)) (key l i)) ≡ leb (least_key l i) (key l i)
    order zero = sym (leb-zero (key l 0))
    order (suc j) = let e : suc j - 1 ≡ j = omega arith in rw (eqb-suc-zero, e)

-- what a valid record holds
pub record Link (n : ℕ) (l : List ℕ) (i : ℕ) : Type 0 where
  pub starts : from l i < n
  pub ends : to l i < n
  pub apart : from l i ≢ to l i
  pub positive : 0 < cost_at l i
  pub most : cost_at l i ≤ largest_cost
  pub rises : least_key l i ≤ key l i

-- a record is valid exactly where it holds that
pub valid-link : (n : ℕ) (l : List ℕ) (i : ℕ) → valid_record n l i ≡ true → Link n l i
valid-link n l i e =
    let (pair, rest) = (and-eq-true_iff (valid_pair n (from l i) (to l i)) _).0 (sym (valid-tests n l i) ∙ e) in
    let (starts, others) = (and-eq-true_iff (ltb (from l i) n) _).0 pair in
    let (ends, apart) = (and-eq-true_iff (ltb (to l i) n) _).0 others in
    let (cost, rises) = (and-eq-true_iff (up_to largest_cost (cost_at l i)) _).0 rest in
    let (positive, most) = (and-eq-true_iff (leb 1 (cost_at l i)) _).0 cost in
    record {
      starts = ltb-true _ _ starts;
      ends = ltb-true _ _ ends;
      apart = eqb-false _ _ (not-true _ apart);
      positive = leb-true _ _ positive;
      most = leb-true _ _ most;
      rises = leb-true _ _ rises;
    }

pub link-valid : (n : ℕ) (l : List ℕ) (i : ℕ) → Link n l i → valid_record n l i ≡ true
link-valid n l i h =
    valid-tests n l i ∙
    both-pass (both-pass (lt-ltb _ _ h.starts) (both-pass (lt-ltb _ _ h.ends) (ap not (ne_eqb _ _ h.apart))))
    (both-pass (both-pass (le-leb _ _ h.positive) (le-leb _ _ h.most)) (le-leb _ _ h.rises))

-- records at the front stay when bytes are added behind
pub fields-append : (l m : List ℕ) (i : ℕ) → 4 * i + 4 ≤ length l →
    (from (l ++ m) i ≡ from l i) × (to (l ++ m) i ≡ to l i) × (cost_at (l ++ m) i ≡ cost_at l i)
fields-append l m i h =
    (field-append 1 l m (4 * i) (omega arith), field-append 1 l m (4 * i + 1) (omega arith), field-append 2 l m (4 * i + 2) (omega arith))

pub link-append : (n : ℕ) (l m : List ℕ) (i : ℕ) → 4 * i + 4 ≤ length l → Link n l i → Link n (l ++ m) i
link-append n l m i h k =
    let (a, b, c) = fields-append l m i h in
    record {
      starts = omega (arith, k.starts);
      ends = omega (arith, k.ends);
      apart = λ e. k.apart (omega arith);
      positive = omega (arith, k.positive);
      most = omega (arith, k.most);
      rises = omega (arith, k.rises, least i h);
    }
  where
    least : (i : ℕ) → 4 * i + 4 ≤ length l → least_key (l ++ m) i ≡ least_key l i
    least zero h = refl
    least (suc j) h = let (a, b, c) = fields-append l m j (omega arith) in omega arith

-- what record i adds to the cost of the link s to t
abbrev pub pick : List ℕ → ℕ → ℕ → ℕ → ℕ
pick l s t i = cond (eqb (from l i) s && eqb (to l i) t) (cost_at l i) 0

-- it stays when bytes are added behind, is the cost at its own link and 0 at every other
pub pick-append : (l m : List ℕ) (s t i : ℕ) → 4 * i + 4 ≤ length l → pick (l ++ m) s t i ≡ pick l s t i
pick-append l m s t i h = let (a, b, c) = fields-append l m i h in rw (a, b, c)

pub pick_at : (l : List ℕ) (s t i : ℕ) → from l i ≡ s → to l i ≡ t → pick l s t i ≡ cost_at l i
pick_at l s t i e f = cond-true (cost_at l i) 0 (both-pass (eq-eqb _ _ e) (eq-eqb _ _ f))

pub pick_other : (l : List ℕ) (s t i : ℕ) → key l i ≢ 256 * s + t → pick l s t i ≡ 0
pick_other l s t i h = go (eqb (from l i) s && eqb (to l i) t) refl
  where
    go : (b : Bool) → (eqb (from l i) s && eqb (to l i) t) ≡ b → cond b (cost_at l i) 0 ≡ 0
    go true e =
        let (a, b) = (and-eq-true_iff (eqb (from l i) s) (eqb (to l i) t)).0 e in
        absurd (h (omega (arith, eqb-true (from l i) s a, eqb-true (to l i) t b)))
    go false e = refl

-- a sum of zeros but for one member is that member
sum_to-one : (n k : ℕ) (f : ℕ → ℕ) → k < n → ((i : ℕ) → i < n → i ≢ k → f i ≡ 0) → sum_to n f ≡ f k
sum_to-one n k f b h = sum_to-cong n (λ i d. part i d (eqb i k) refl) ∙ sum_to-pick n k f b
  where
    part : (i : ℕ) → i < n → (b : Bool) → eqb i k ≡ b → f i ≡ cond b (f i) 0
    part i d true e = refl
    part i d false e = h i d (eqb-false i k e)

module _ (n : ℕ) (l : List ℕ) where
  -- the first c records are links in order
  abbrev pub Links : ℕ → Type 0
  Links c = (i : ℕ) → i < c → Link n l i

  -- the test of all of them says exactly that
  pub valid-links : (c : ℕ) → all_to c (valid_record n l) ≡ true → Links c
  valid-links c h i b = valid-link n l i (all_true c (valid_record n l) h i b)

  pub links-valid : (c : ℕ) → Links c → all_to c (valid_record n l) ≡ true
  links-valid c h = all_of c (valid_record n l) (λ i b. link-valid n l i (h i b))

  -- they rise
  pub rising : (c : ℕ) → Links c → (j i : ℕ) → i < j → j < c → key l i < key l j
  rising c h zero i a b = absurd (not-suc-le-zero a)
  rising c h (suc j) i a b =
      let last : key l j < key l (suc j) = (h (suc j) b).rises in
      below_suc {P = λ i. key l i < key l (suc j)} j (λ i a. omega (arith, rising c h j i a (omega arith))) last i a

  -- the cost of a link is that of its one record
  pub sum-at : (c : ℕ) → Links c → (s t i : ℕ) → i < c → from l i ≡ s → to l i ≡ t → sum_to c (pick l s t) ≡ cost_at l i
  sum-at c h s t i b e f =
      sum_to-one c i (pick l s t) b (λ j d k. pick_other l s t j (λ g. k (one j d g))) ∙ pick_at l s t i e f
    where
      one : (j : ℕ) → j < c → key l j ≡ 256 * s + t → j ≡ i
      one j d g = elim (dec_lt j i) [
        | yes a ↦ absurd (omega (arith, rising c h i j a b))
        | no a ↦ elim (dec_lt i j) [ yes a ↦ absurd (omega (arith, rising c h j i a d)) | no z ↦ omega arith ]
      ]

  -- and 0 where no record has it
  pub sum-none : (c s t : ℕ) → ((i : ℕ) → i < c → key l i ≢ 256 * s + t) → sum_to c (pick l s t) ≡ 0
  sum-none c s t h = sum_to-zero c (λ i b. pick_other l s t i (h i b))

  -- a positive cost has a record
  pub sum-found : (c s t : ℕ) → 0 < sum_to c (pick l s t) → (i : ℕ) × (i < c) × (from l i ≡ s) × (to l i ≡ t)
  sum-found c s t h =
      let (i, b, p) = sum_to-positive c (pick l s t) h in
      let (f, g) = found i p (eqb (from l i) s && eqb (to l i) t) refl in
      (i, b, f, g)
    where
      found : (i : ℕ) → 0 < pick l s t i → (b : Bool) → (eqb (from l i) s && eqb (to l i) t) ≡ b → (from l i ≡ s) × (to l i ≡ t)
      found i p true e = let (a, b) = (and-eq-true_iff (eqb (from l i) s) _).0 e in (eqb-true _ _ a, eqb-true _ _ b)
      found i p false e = absurd (lt_irrefl 0 (rw e at p))

  -- the costs of links are valid
  pub sums-valid : (c : ℕ) → Links c → Valid n (λ s t. sum_to c (pick l s t))
  sums-valid c h = record {
    most = λ s t a b. ⊎_elim (λ e. omega arith) (λ p. most s t (sum-found c s t p)) (eq-zero-or-pos _);
    own = λ s a. ⊎_elim (λ e. e) (λ p. absurd (own s (sum-found c s s p))) (eq-zero-or-pos _);
  }
    where
      most : (s t : ℕ) → (i : ℕ) × (i < c) × (from l i ≡ s) × (to l i ≡ t) → sum_to c (pick l s t) ≤ largest_cost
      most s t f = omega (arith, sum-at c h s t f.0 f.1 f.2 f.3, (h f.0 f.1).most)

      own : (s : ℕ) → (i : ℕ) × (i < c) × (from l i ≡ s) × (to l i ≡ s) → ⊥
      own s f = (h f.0 f.1).apart (f.2 ∙ sym f.3)

  -- the cost table of the first c records: zeros at the start
  abbrev pub costs_to : ℕ → List ℕ
  costs_to c = table n (λ s t. sum_to c (pick l s t))

  pub costs-none : costs_to 0 ≡ replicate (n * n) 0
  unfolding sum_to
  costs-none = table-zero n

  -- one more record sets one entry
  pub costs-more : (c : ℕ) → Links (suc c) → costs_to (suc c) ≡ set (costs_to c) (from l c * n + to l c) (cost_at l c)
  unfolding sum_to
  costs-more c h =
      let last : Link n l c = h c (omega arith) in
      table-cong n (λ s t. sum_to (suc c) (pick l s t)) _ (λ s t a b. step s t (eqb (from l c) s && eqb (to l c) t) refl) ∙
      sym (table-set n (λ s t. sum_to c (pick l s t)) (from l c) (to l c) (cost_at l c) last.starts last.ends)
    where
      step : (s t : ℕ) (b : Bool) → (eqb (from l c) s && eqb (to l c) t) ≡ b →
          sum_to c (pick l s t) + cond b (cost_at l c) 0 ≡ cond b (cost_at l c) (sum_to c (pick l s t))
      step s t true e =
          let (a, b) = (and-eq-true_iff (eqb (from l c) s) (eqb (to l c) t)).0 e in
          omega (
            arith,
            sum-none c s t λ i d f. omega (arith, rising (suc c) h c i d (omega arith), eqb-true (from l c) s a, eqb-true (to l c) t b),
          )
      step s t false e = omega arith
