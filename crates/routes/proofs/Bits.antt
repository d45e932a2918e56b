-- Sets of stops as numbers: the stop t is in the set a where bit t of a is 1. Words are sets of stops below 64.
-- The laws serve any loop over the members of a word, lowest first. Assumes nothing.
use Prim.Native.Nat.{ℕ, zero, suc, ◌+◌, ◌-◌, ◌*◌, ◌/◌, ◌%◌, ◌^◌, ◌<◌, zero-le, suc-le-suc, min, max}
use mathlib.Core.Path.{◌≡◌, refl, sym, ap, ◌∙◌}
use mathlib.Core.Logic.{◌≢◌}
use mathlib.Core.Bool.{Bool, true, false, cond, not, ◌&&◌, ◌||◌, and-true, and-false, and_self, and-eq-true_iff, true≢false, false≢true}
use native.Mathlib.Nat.{mod-lt, mod-eq_of_lt, one-mul, zero-lt-suc, not-suc-le-zero, le_of_suc-le-suc, lt_irrefl, lt_of_le_of_lt, add-zero}
use native.Mathlib.Omega.{arith}
use lib.Dec.{eqb, ltb, lit<, eqb-suc-zero, eqb-zero-suc, eqb-suc-suc}
use lib.Bits.{bit_and, bit_or, and_step, or_step, or_shifted, and_le_r}
use lib.Count.{ones, ones_in, count_trailing_zeros, ones_cat}
use lib.Pow.{pow-lt}
use borrow.Author.Tests.{eqb-true, eqb-false, lt-ltb, le-ltb, ltb-true, not-true, not-false}
use Rattle.routes.specs.Route.{sum_to}
use Rattle.routes.specs.Sets.{Popped}
use Rattle.routes.proofs.Booleans.{bool_iff, both}
use Rattle.routes.proofs.Sums.{cond-true, cond-false, sum_to-cong, sum_to-zero, sum_to-split, sum_to-pick}
unfoldable pub use Rattle.routes.specs.Route.{has}
unfoldable pub use Rattle.routes.specs.Route.{set_of}

-- cases of a test, each with what it found
pub split : {A : Type 0} (b : Bool) → (b ≡ true → A) → (b ≡ false → A) → A
split true f g = f refl
split false f g = g refl

-- a binary digit is 0 or 1
digit : (P : ℕ → Type 0) → P 0 → P 1 → (x : ℕ) → x < 2 → P x
digit P z o zero h = z
digit P z o (suc zero) h = o
digit P z o (suc (suc x)) h = absurd no·more
  where
    no·more : ⊥
    no·more = omega arith

-- an operation that works digit by digit works stop by stop
module _ (op f : ℕ → ℕ → ℕ) (g : Bool → Bool → Bool) (step : (a b : ℕ) → op a b ≡ op (a / 2) (b / 2) * 2 + f (a % 2) (b % 2))
    (digits : (x y : ℕ) → x < 2 → y < 2 → (f x y < 2) × (eqb (f x y) 1 ≡ g (eqb x 1) (eqb y 1))) where
  has-op : (a b t : ℕ) → has (op a b) t ≡ g (has a t) (has b t)
  unfolding has
  has-op a b zero =
      let d = digits (a % 2) (b % 2) (mod-lt a (lit< tt)) (mod-lt b (lit< tt)) in
      let low : op a b % 2 ≡ f (a % 2) (b % 2) = omega (arith, step a b, d.0) in
      rw low d.1
  has-op a b (suc t) =
      let d = digits (a % 2) (b % 2) (mod-lt a (lit< tt)) (mod-lt b (lit< tt)) in
      let high : op a b / 2 ≡ op (a / 2) (b / 2) = omega (arith, step a b, d.0) in
      rw high (has-op (a / 2) (b / 2) t)

-- the stops in both sets
pub has-and : (a b t : ℕ) → has (bit_and a b) t ≡ (has a t && has b t)
has-and = has-op bit_and min ◌&&◌ and_step λ x y hx hy.
    digit (λ x. (min x y < 2) × (eqb (min x y) 1 ≡ (eqb x 1 && eqb y 1)))
    (digit (λ y. (min 0 y < 2) × (eqb (min 0 y) 1 ≡ (eqb 0 1 && eqb y 1))) (lit< tt, refl) (lit< tt, refl) y hy)
    (digit (λ y. (min 1 y < 2) × (eqb (min 1 y) 1 ≡ (eqb 1 1 && eqb y 1))) (lit< tt, refl) (lit< tt, refl) y hy) x hx

-- the stops in either set
pub has-or : (a b t : ℕ) → has (bit_or a b) t ≡ (has a t || has b t)
has-or = has-op bit_or max ◌||◌ or_step λ x y hx hy.
    digit (λ x. (max x y < 2) × (eqb (max x y) 1 ≡ (eqb x 1 || eqb y 1)))
    (digit (λ y. (max 0 y < 2) × (eqb (max 0 y) 1 ≡ (eqb 0 1 || eqb y 1))) (lit< tt, refl) (lit< tt, refl) y hy)
    (digit (λ y. (max 1 y < 2) × (eqb (max 1 y) 1 ≡ (eqb 1 1 || eqb y 1))) (lit< tt, refl) (lit< tt, refl) y hy) x hx

-- the empty set has no member
pub has-none : (t : ℕ) → has 0 t ≡ false
unfolding has
has-none zero = refl
has-none (suc t) = has-none t

-- a word of k digits has members below k only
pub member-lt : (k a t : ℕ) → a < 2 ^ k → has a t ≡ true → t < k
unfolding has
member-lt zero a t h m =
    let none : a ≡ 0 = omega arith in
    absurd (false≢true (sym (has-none t) ∙ rw none at m))
member-lt (suc k) a zero h m = zero-lt-suc k
member-lt (suc k) a (suc t) h m = suc-le-suc (member-lt k (a / 2) t (omega arith) m)

-- the complement within k digits
pub has-not : (k a t : ℕ) → a < 2 ^ k → t < k → has ((2 ^ k - 1) - a) t ≡ not (has a t)
unfolding has
has-not zero a t h l = absurd (not-suc-le-zero l)
has-not (suc k) a zero h l =
    let low : (2 ^ suc k - 1 - a) % 2 ≡ 1 - a % 2 = omega arith in
    rw low (digit (λ x. eqb (1 - x) 1 ≡ not (eqb x 1)) refl refl (a % 2) (mod-lt a (lit< tt)))
has-not (suc k) a (suc t) h l =
    let high : (2 ^ suc k - 1 - a) / 2 ≡ 2 ^ k - 1 - a / 2 = omega arith in
    rw high (has-not k (a / 2) t (omega arith) (le_of_suc-le-suc l))

-- the set of one stop
pub has-pow : (t u : ℕ) → has (2 ^ t) u ≡ eqb u t
unfolding has
has-pow zero zero = refl
has-pow zero (suc u) = has-none u ∙ sym (eqb-suc-zero u)
has-pow (suc t) zero =
    let low : 2 ^ suc t % 2 ≡ 0 = omega arith in
    rw low (sym (eqb-zero-suc t))
has-pow (suc t) (suc u) =
    let high : 2 ^ suc t / 2 ≡ 2 ^ t = omega arith in
    rw (high, eqb-suc-suc) (has-pow t u)

-- as the shift `1 << t` gives it
pub one_shifted : (t : ℕ) → t < 64 → 1 * 2 ^ t % 2 ^ 64 ≡ 2 ^ t
one_shifted t h = mod-eq_of_lt (rw one-mul (pow-lt h)) ∙ one-mul (2 ^ t)

pub has_one : (t u : ℕ) → t < 64 → has (1 * 2 ^ t % 2 ^ 64) u ≡ eqb u t
has_one t u h = rw (one_shifted t h) (has-pow t u)

-- t is the lowest member: taking 1 away clears it and sets what lies below it
abbrev Lowest : ℕ → ℕ → Type 0
Lowest a t = (has a t ≡ true) × ((u : ℕ) → (has a u && has (a - 1) u) ≡ (has a u && not (eqb u t)))

lowest-odd : (a : ℕ) → a % 2 ≡ 1 → Lowest a 0
unfolding has
lowest-odd a odd = (rw odd, at)
  where
    at : (u : ℕ) → (has a u && has (a - 1) u) ≡ (has a u && not (eqb u 0))
    at zero =
        let low : (a - 1) % 2 ≡ 0 = omega arith in
        rw low
    at (suc u) =
        let high : (a - 1) / 2 ≡ a / 2 = omega arith in
        rw (high, eqb-suc-zero) (and_self (has (a / 2) u) ∙ sym (and-true (has (a / 2) u)))

lowest-even : (a t : ℕ) → 0 < a → a % 2 ≡ 0 → Lowest (a / 2) t → Lowest a (suc t)
unfolding has
lowest-even a t z even l = (l.0, at)
  where
    at : (u : ℕ) → (has a u && has (a - 1) u) ≡ (has a u && not (eqb u (suc t)))
    at zero = rw even
    at (suc u) =
        let high : (a - 1) / 2 ≡ a / 2 - 1 = omega arith in
        rw (high, eqb-suc-suc) (l.1 u)

lowest : (k a : ℕ) → 0 < a → a < 2 ^ k → Lowest a (count_trailing_zeros k a)
unfolding count_trailing_zeros
lowest zero a z h = absurd (lt_irrefl 0 (omega arith))
lowest (suc k) a z h =
    split (eqb (a % 2) 1)
    (λ e. let odd = eqb-true (a % 2) 1 e in rw odd (lowest-odd a odd))
    λ e. let odd = eqb-false (a % 2) 1 e in
    let even : a % 2 ≡ 0 = omega arith in
    rw even (lowest-even a (count_trailing_zeros k (a / 2)) z even (lowest k (a / 2) (omega arith) (omega arith)))

-- as `trailing_zeros(a)` and `a & (a - 1)` give them
pub popped : (a : ℕ) → 0 < a → a < 2 ^ 64 → Popped a (count_trailing_zeros 64 a) (bit_and a (a - 1))
popped a z h =
    let p = lowest 64 a z h in
    record { member = p.0; rest = λ u. has-and a (a - 1) u ∙ p.1 u; less = lt_of_le_of_lt (and_le_r a (a - 1)) (omega arith) }

-- what is left is in the set and is not the member taken; what has gone is that member
pub popped-kept : {a t b : ℕ} → Popped a t b → (u : ℕ) → has b u ≡ true → (has a u ≡ true) × (u ≢ t)
popped-kept {a} {t} p u h =
    let (m, e) = (and-eq-true_iff (has a u) (not (eqb u t))).0 (sym (p.rest u) ∙ h) in
    (m, eqb-false u t (not-true (eqb u t) e))

pub popped-gone : {a t b : ℕ} → Popped a t b → (u : ℕ) → has a u ≡ true → has b u ≡ false → u ≡ t
popped-gone {a} {t} p u h f = eqb-true u t (not-false (eqb u t) (sym (rw h at (p.rest u)) ∙ f))

-- a loop that adds over the members of a word: what it adds next, and what is then left, is what was left
pub sum-popped : (n : ℕ) (f : ℕ → ℕ) {a t b : ℕ} → Popped a t b → t < n
    → sum_to n (λ u. cond (has a u) (f u) 0) ≡ f t + sum_to n (λ u. cond (has b u) (f u) 0)
sum-popped n f {a} {t} {b} p l =
    let g : ℕ → ℕ = λ u. cond (has a u) (f u) 0 in
    omega (arith, sum_to-split n (λ u. eqb u t) g, sum_to-pick n t g l, cond-true (f t) 0 p.member, sum_to-cong n (λ u _. rest u (has a u) (eqb u t) (p.rest u)))
  where
    rest : (u : ℕ) (m e : Bool) → has b u ≡ (m && not e) → cond e 0 (cond m (f u) 0) ≡ cond (has b u) (f u) 0
    rest u true true r = rw r
    rest u true false r = rw r
    rest u false true r = rw r
    rest u false false r = rw r

-- nothing is left to add
pub sum-none : (n : ℕ) (f : ℕ → ℕ) → sum_to n (λ u. cond (has 0 u) (f u) 0) ≡ 0
sum-none n f = sum_to-zero n (λ u _. cond-false (f u) 0 (has-none u))

-- a loop that stores over the members of a word: what it makes stands at the members passed, elsewhere what was there
pub record Rewriting {A : Type 0} (all left : ℕ) (made old now : ℕ → A) : Type 0 where
  pub inside : (t : ℕ) → has left t ≡ true → has all t ≡ true
  pub todo : (t : ℕ) → has left t ≡ true → now t ≡ old t
  pub away : (t : ℕ) → has all t ≡ false → now t ≡ old t
  pub done : (t : ℕ) → has all t ≡ true → has left t ≡ false → now t ≡ made t

module _ {A : Type 0} (all : ℕ) (made old : ℕ → A) where
  pub rewriting-starts : Rewriting all all made old old
  rewriting-starts = record { inside = λ t h. h; todo = λ t h. refl; away = λ t h. refl; done = λ t h l. absurd (true≢false (sym h ∙ l)) }

  pub rewriting-goes : {left t rest : ℕ} {now then : ℕ → A} → Rewriting all left made old now → Popped left t rest
      → then t ≡ made t → ((u : ℕ) → u ≢ t → then u ≡ now u) → Rewriting all rest made old then
  rewriting-goes {left} {t} {rest} {now} {then} r p here other =
      record {
        inside = λ u h. r.inside u (popped-kept p u h).0;
        todo = λ u h. other u (popped-kept p u h).1 ∙ r.todo u (popped-kept p u h).0;
        away = λ u h. other u (λ e. both (r.inside t p.member) (rw e at h)) ∙ r.away u h;
        done = λ u h l. split (has left u)
            (λ m. rw (popped-gone p u m l) here)
            (λ m. other u (λ e. both p.member (rw e at m)) ∙ r.done u h m);
      }

  pub rewriting-ends : {now : ℕ → A} → Rewriting all 0 made old now → (t : ℕ) → now t ≡ cond (has all t) (made t) (old t)
  rewriting-ends r t = split (has all t) (λ h. r.done t h (has-none t) ∙ sym (cond-true (made t) (old t) h)) (λ h. r.away t h ∙ sym (cond-false (made t) (old t) h))

pub set_of-lt : (n : ℕ) (p : ℕ → Bool) → set_of n p < 2 ^ n
unfolding set_of sum_to
set_of-lt zero p = lit< tt
set_of-lt (suc n) p =
    let before = set_of-lt n p in
    split (p n) (λ e. rw e (omega arith)) (λ e. rw e (omega arith))

-- one more stop in a set of stops below it
has_more : (n a i : ℕ) → a < 2 ^ n → has (a + 2 ^ n) i ≡ (eqb i n || has a i)
has_more n a i h =
    let joined : a + 2 ^ n ≡ bit_or (1 * 2 ^ n) a = omega (arith, or_shifted 1 n a h) in
    rw (joined, has-or, one-mul, has-pow)

ltb-more : (i n : ℕ) → ltb i (suc n) ≡ (eqb i n || ltb i n)
ltb-more i n =
    split (eqb i n)
    (λ e. let same = eqb-true i n e in rw e (lt-ltb i (suc n) (omega arith)))
    λ e. let other = eqb-false i n e in
    rw e (bool_iff (ltb i (suc n)) (ltb i n)
    (λ l. let less = ltb-true i (suc n) l in lt-ltb i n (omega arith))
    λ l. let less = ltb-true i n l in lt-ltb i (suc n) (omega arith))

pub has-set_of : (n : ℕ) (p : ℕ → Bool) (i : ℕ) → has (set_of n p) i ≡ (ltb i n && p i)
unfolding set_of sum_to
has-set_of zero p i = has-none i ∙ sym (rw (le-ltb i 0 zero-le))
has-set_of (suc n) p i =
    split (p n)
    (λ e. rw (e, has_more n _ i (set_of-lt n p), has-set_of n p i, ltb-more) (split (eqb i n) (λ q. rw (q, eqb-true i n q, e)) (λ q. rw q)))
    (λ e. rw (e, add-zero, has-set_of n p i, ltb-more) (split (eqb i n) (λ q. rw (q, eqb-true i n q, e) (and-false (ltb n n))) (λ q. rw q)))

-- its size, as `count_ones` gives it
pub ones-set_of : (n : ℕ) (p : ℕ → Bool) → ones (set_of n p) ≡ sum_to n (λ i. cond (p i) 1 0)
unfolding set_of sum_to
ones-set_of zero p = unfold ones ones_in in refl
ones-set_of (suc n) p =
    let one : ones 1 ≡ 1 = unfold ones ones_in in refl in
    split (p n) (λ e. rw e (ap ones (omega arith) ∙ ones_cat n 1 (set_of n p) (set_of-lt n p) ∙ omega (arith, ones-set_of n p))) (λ e. rw e (simp add-zero (ones-set_of n p)))
