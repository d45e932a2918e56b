-- Laws of the sum over the stops below n, and of a test that all of them pass. Assumes nothing.
use Prim.Native.Nat.{ℕ, zero, suc, ◌+◌, ◌*◌, ◌<◌, ◌≤◌}
use mathlib.Core.Path.{◌≡◌, refl, sym, ◌∙◌, ap, ap₂, subst⁻¹}
use mathlib.Core.Logic.{⊎_elim}
use mathlib.Core.Bool.{Bool, true, false, cond, ◌&&◌, and-eq-true_iff}
use native.Mathlib.Nat.{mul-add, mul-zero, suc-mul, suc_inj, lt_irrefl, not-suc-le-zero, le_refl, eq-zero-or-pos, eq-or-lt_of_le}
use native.Mathlib.Omega.{arith}
use lib.Dec.{eqb}
use borrow.Author.Tests.{eq-eqb, ne_eqb, eqb-true}
use Rattle.routes.specs.Route.{sum_to}
unfoldable pub use Rattle.routes.specs.Route.{all_to}

-- a choice whose test is known
pub cond-true : {A : Type 0} {b : Bool} (x y : A) → b ≡ true → cond b x y ≡ x
cond-true x y e = rw e

pub cond-false : {A : Type 0} {b : Bool} (x y : A) → b ≡ false → cond b x y ≡ y
cond-false x y e = rw e

-- what holds below n and at n holds below n + 1
pub below_suc : {P : ℕ → Type 0} (n : ℕ) → ((i : ℕ) → i < n → P i) → P n → (i : ℕ) → i < suc n → P i
below_suc {P} n h p i l = ⊎_elim (λ e. subst⁻¹ P (suc_inj e) p) (λ l. h i (omega arith)) (eq-or-lt_of_le l)

-- sums of functions that agree below n are equal
pub sum_to-cong : (n : ℕ) {f g : ℕ → ℕ} → ((i : ℕ) → i < n → f i ≡ g i) → sum_to n f ≡ sum_to n g
unfolding sum_to
sum_to-cong zero h = refl
sum_to-cong (suc n) h = ap₂ ◌+◌ (sum_to-cong n (λ i l. h i (omega arith))) (h n (omega arith))

-- a sum of zeros is zero
pub sum_to-zero : (n : ℕ) {f : ℕ → ℕ} → ((i : ℕ) → i < n → f i ≡ 0) → sum_to n f ≡ 0
unfolding sum_to
sum_to-zero zero h = refl
sum_to-zero (suc n) {f} h =
    let a : sum_to n f ≡ 0 = sum_to-zero n (λ i l. h i (omega arith)) in
    let b : f n ≡ 0 = h n (omega arith) in
    omega arith

-- a sum of sums
pub sum_to-add : (n : ℕ) (f g : ℕ → ℕ) → sum_to n (λ i. f i + g i) ≡ sum_to n f + sum_to n g
unfolding sum_to
sum_to-add zero f g = refl
sum_to-add (suc n) f g = omega (arith, sum_to-add n f g)

-- a factor moves out of a sum
pub sum_to-mul-left : (n c : ℕ) (f : ℕ → ℕ) → sum_to n (λ i. c * f i) ≡ c * sum_to n f
unfolding sum_to
sum_to-mul-left zero c f = sym (mul-zero c)
sum_to-mul-left (suc n) c f = omega (arith, sum_to-mul-left n c f, mul-add c (sum_to n f) (f n))

-- two sums change places
pub sum_to-swap : (n m : ℕ) (f : ℕ → ℕ → ℕ) → sum_to n (λ i. sum_to m (λ j. f i j)) ≡ sum_to m (λ j. sum_to n (λ i. f i j))
unfolding sum_to
sum_to-swap zero m f = sym (sum_to-zero m (λ j l. refl))
sum_to-swap (suc n) m f =
    omega (arith, sum_to-swap n m f, sum_to-add m (λ j. sum_to n (λ i. f i j)) (λ j. f n j))

-- sums are in the order of their members
pub sum_to-le : (n : ℕ) {f g : ℕ → ℕ} → ((i : ℕ) → i < n → f i ≤ g i) → sum_to n f ≤ sum_to n g
unfolding sum_to
sum_to-le zero h = omega arith
sum_to-le (suc n) {f} {g} h =
    let a : sum_to n f ≤ sum_to n g = sum_to-le n (λ i l. h i (omega arith)) in
    let b : f n ≤ g n = h n (omega arith) in
    omega arith

-- a sum of members up to c is at most n times c
pub sum_to-bound : (n c : ℕ) {f : ℕ → ℕ} → ((i : ℕ) → i < n → f i ≤ c) → sum_to n f ≤ n * c
unfolding sum_to
sum_to-bound zero c h = omega arith
sum_to-bound (suc n) c {f} h =
    let a : sum_to n f ≤ n * c = sum_to-bound n c (λ i l. h i (omega arith)) in
    let b : f n ≤ c = h n (omega arith) in
    omega (arith, suc-mul n c)

-- a member and those before it are at most the sum
pub sum-le : (n : ℕ) (f : ℕ → ℕ) (i : ℕ) → i < n → sum_to i f + f i ≤ sum_to n f
unfolding sum_to
sum-le zero f i h = omega arith
sum-le (suc n) f i h =
    below_suc
    {P = λ i. sum_to i f + f i ≤ sum_to n f + f n}
    n
    (λ i l. omega (arith, sum-le n f i l))
    (omega arith)
    i
    h

-- a member is at most the sum
pub member-le : (n : ℕ) (f : ℕ → ℕ) (i : ℕ) → i < n → f i ≤ sum_to n f
member-le n f i l = omega (arith, sum-le n f i l)

-- a sum that keeps one index of those below n is the member there
pub sum_to-pick : (n k : ℕ) (f : ℕ → ℕ) → k < n → sum_to n (λ i. cond (eqb i k) (f i) 0) ≡ f k
unfolding sum_to
sum_to-pick zero k f h = omega arith
sum_to-pick (suc n) k f h =
    below_suc
    {P = λ k. sum_to n (λ i. cond (eqb i k) (f i) 0) + cond (eqb n k) (f n) 0 ≡ f k}
    n
    (λ k l. omega (arith, sum_to-pick n k f l, cond-false (f n) 0 (ne_eqb n k (omega arith))))
    (omega
    (arith, sum_to-zero n (λ i l. cond-false (f i) 0 (ne_eqb i n (omega arith))), cond-true (f n) 0 (eq-eqb n n refl)))
    k
    h

-- a sum is the sum where a condition holds and the sum where it does not
pub sum_to-split : (n : ℕ) (p : ℕ → Bool) (f : ℕ → ℕ) →
    sum_to n f ≡ sum_to n (λ i. cond (p i) (f i) 0) + sum_to n (λ i. cond (p i) 0 (f i))
sum_to-split n p f =
    sum_to-cong n (λ i l. part (p i) (f i))
    ∙ sum_to-add n (λ i. cond (p i) (f i) 0) (λ i. cond (p i) 0 (f i))
  where
    part : (b : Bool) (x : ℕ) → x ≡ cond b x 0 + cond b 0 x
    part true x = omega arith
    part false x = omega arith

-- a positive sum has a positive member
pub sum_to-positive : (n : ℕ) (f : ℕ → ℕ) → 0 < sum_to n f → (i : ℕ) × (i < n) × (0 < f i)
unfolding sum_to
sum_to-positive zero f h = absurd (lt_irrefl 0 h)
sum_to-positive (suc n) f h =
    ⊎_elim
    (λ e. let (i, l, p) = sum_to-positive n f (omega arith) in (i, omega arith, p))
    (λ l. (n, omega arith, l))
    (eq-zero-or-pos (f n))

-- a sum with a positive member is positive
pub positive-sum_to : (n : ℕ) (f : ℕ → ℕ) (i : ℕ) → i < n → 0 < f i → 0 < sum_to n f
positive-sum_to n f i l h = omega (arith, member-le n f i l)

-- where all pass, each one does
pub all_true : (n : ℕ) (p : ℕ → Bool) → all_to n p ≡ true → (i : ℕ) → i < n → p i ≡ true
unfolding all_to
all_true zero p h i l = absurd (not-suc-le-zero l)
all_true (suc n) p h i l =
    let (before, last) = (and-eq-true_iff (all_to n p) (p n)).0 h in
    below_suc n (all_true n p before) last i l

-- where each one passes, all do
pub all_of : (n : ℕ) (p : ℕ → Bool) → ((i : ℕ) → i < n → p i ≡ true) → all_to n p ≡ true
unfolding all_to
all_of zero p h = refl
all_of (suc n) p h =
    (and-eq-true_iff (all_to n p) (p n)).1 (all_of n p (λ i l. h i (omega arith)), h n (omega arith))

-- tests that agree below n agree on all
pub all-cong : (n : ℕ) {p q : ℕ → Bool} → ((i : ℕ) → i < n → p i ≡ q i) → all_to n p ≡ all_to n q
unfolding all_to
all-cong zero h = refl
all-cong (suc n) h = ap₂ ◌&&◌ (all-cong n (λ i l. h i (omega arith))) (h n (omega arith))

-- a choice between a number and 0: it asks the number only where its test passes, and agrees with sums and factors
pub cond-cong : {x y : ℕ} (b : Bool) → (b ≡ true → x ≡ y) → cond b x 0 ≡ cond b y 0
cond-cong true h = h refl
cond-cong false h = refl

cond-sum : (b : Bool) (m : ℕ) (f : ℕ → ℕ) → cond b (sum_to m f) 0 ≡ sum_to m (λ j. cond b (f j) 0)
cond-sum true m f = refl
cond-sum false m f = sym (sum_to-zero m (λ j l. refl))

cond-add : (b : Bool) (x y : ℕ) → cond b (x + y) 0 ≡ cond b x 0 + cond b y 0
cond-add true x y = refl
cond-add false x y = refl

cond-mul : (b : Bool) (c x : ℕ) → c * cond b x 0 ≡ cond b (c * x) 0
cond-mul true c x = refl
cond-mul false c x = mul-zero c

cond-swap : (a b : Bool) (x : ℕ) → cond a (cond b x 0) 0 ≡ cond b (cond a x 0) 0
cond-swap true b x = refl
cond-swap false true x = refl
cond-swap false false x = refl

cond-le : {x y : ℕ} (b : Bool) → (b ≡ true → x ≤ y) → cond b x 0 ≤ cond b y 0
cond-le true h = h refl
cond-le false h = le_refl 0

-- a flow: the sum of f over what the test p passes
abbrev pub flow : ℕ → (ℕ → Bool) → (ℕ → ℕ) → ℕ
flow n p f = sum_to n (λ i. cond (p i) (f i) 0)

-- a flow of zeros is zero
pub flow-zero : (n : ℕ) (p : ℕ → Bool) (f : ℕ → ℕ) → ((i : ℕ) → i < n → p i ≡ true → f i ≡ 0) → flow n p f ≡ 0
flow-zero n p f h = sum_to-zero n (λ i l. zero_or (p i) (h i l))
  where
    zero_or : {x : ℕ} (b : Bool) → (b ≡ true → x ≡ 0) → cond b x 0 ≡ 0
    zero_or true h = h refl
    zero_or false h = refl

-- flows are in the order of their members
pub flow-le : (n : ℕ) (p : ℕ → Bool) (f g : ℕ → ℕ) → ((i : ℕ) → i < n → p i ≡ true → f i ≤ g i) → flow n p f ≤ flow n p g
flow-le n p f g h = sum_to-le n (λ i l. cond-le (p i) (h i l))

-- a flow of sums
pub flow-add : (n : ℕ) (p : ℕ → Bool) (f g : ℕ → ℕ) → flow n p (λ i. f i + g i) ≡ flow n p f + flow n p g
flow-add n p f g =
    sum_to-cong n (λ i l. cond-add (p i) (f i) (g i)) ∙ sum_to-add n (λ i. cond (p i) (f i) 0) (λ i. cond (p i) (g i) 0)

-- a factor moves out of a flow
pub flow-mul : (n c : ℕ) (p : ℕ → Bool) (f : ℕ → ℕ) → flow n p (λ i. c * f i) ≡ c * flow n p f
flow-mul n c p f =
    sum_to-cong n (λ i l. sym (cond-mul (p i) c (f i))) ∙ sum_to-mul-left n c (λ i. cond (p i) (f i) 0)

-- a sum of flows is a flow of sums
pub flow-sum : (n m : ℕ) (p : ℕ → Bool) (f : ℕ → ℕ → ℕ) →
    sum_to m (λ j. flow n p (λ i. f i j)) ≡ flow n p (λ i. sum_to m (f i))
flow-sum n m p f =
    sum_to-swap m n (λ j i. cond (p i) (f i j) 0) ∙ sum_to-cong n (λ i l. sym (cond-sum (p i) m (f i)))

-- two flows change places
pub flow-swap : (n m : ℕ) (p q : ℕ → Bool) (f : ℕ → ℕ → ℕ) →
    flow n p (λ i. flow m q (λ j. f i j)) ≡ flow m q (λ j. flow n p (λ i. f i j))
flow-swap n m p q f =
    sum_to-cong
    n
    (λ i l. cond-sum (p i) m (λ j. cond (q j) (f i j) 0) ∙ sum_to-cong m (λ j k. cond-swap (p i) (q j) (f i j)))
    ∙ sum_to-swap n m (λ i j. cond (q j) (cond (p i) (f i j) 0) 0)
    ∙ sum_to-cong m (λ j k. sym (cond-sum (q j) n (λ i. cond (p i) (f i j) 0)))

-- a flow of one index, which may pass or not
pub flow-pick : (n k : ℕ) (p : ℕ → Bool) → k < n → flow n p (λ i. cond (eqb i k) 1 0) ≡ cond (p k) 1 0
flow-pick n k p l =
    sum_to-cong n (λ i h. cond-swap (p i) (eqb i k) 1) ∙ sum_to-pick n k (λ i. cond (p i) 1 0) l

-- a test that cannot pass fails
pub is_false : (b : Bool) → (b ≡ true → ⊥) → b ≡ false
is_false true h = absurd (h refl)
is_false false h = refl

-- a sum of members up to c, of which one is zero, leaves room for one more
pub sum_to-bound-but : (n c k : ℕ) (f : ℕ → ℕ) → k < n → f k ≡ 0 → ((i : ℕ) → i < n → f i ≤ c) → sum_to n f + c ≤ n * c
sum_to-bound-but n c k f l z h =
    omega (
      arith,
      sum_to-bound n c {f = λ i. f i + cond (eqb i k) c 0} (λ i m. room i m (eqb i k) refl),
      sum_to-add n f (λ i. cond (eqb i k) c 0),
      sum_to-pick n k (λ i. c) l,
    )
  where
    room : (i : ℕ) → i < n → (b : Bool) → eqb i k ≡ b → f i + cond b c 0 ≤ c
    room i m true e = omega (arith, ap f (eqb-true i k e))
    room i m false e = omega (arith, h i m)
