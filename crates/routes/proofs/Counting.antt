-- Laws of count over joined and extended listings, and of sums of tests.
-- Membership: a list r is in a listing l where 0 < count (same r) l. Assumes nothing.
use Prim.Native.Nat.{ℕ, zero, suc, ◌+◌, ◌<◌, ◌≤◌, min}
use native.Mathlib.Nat.{zero-add, add_comm, lt_irrefl}
use native.Mathlib.Omega.{arith}
use mathlib.Core.Path.{◌≡◌, refl, sym, ◌∙◌, ap₂, subst⁻¹}
use mathlib.Core.Bool.{Bool, true, false, cond, not, ◌&&◌, true≢false}
use mathlib.Core.List.{List, [], ◌∷◌, ◌++◌}
use lib.Dec.{eqb, ltb}
use borrow.Author.Tests.{eq-eqb, ltb-true, ltb-false}
use Rattle.routes.specs.Route.{sum_to, join_to, count, same, visits, extend}
use Rattle.routes.proofs.Sums.{cond-true, sum_to-cong, sum_to-zero, sum_to-pick}
use Rattle.routes.proofs.Lists.{same_refl, same_true}

module _ {A : Type 0} where
  -- two lists one after the other count the sum
  pub count-append : (p : A → Bool) (l m : List A) → count p (l ++ m) ≡ count p l + count p m
  unfolding count
  count-append p [] m = sym (zero-add (count p m))
  count-append p (a ∷ l) m = omega (arith, count-append p l m)

  -- what a joined list counts is the sum over its parts
  pub count-join : (p : A → Bool) (n : ℕ) (g : ℕ → List A) → count p (join_to n g) ≡ sum_to n (λ u. count p (g u))
  unfolding count join_to sum_to
  count-join p zero g = refl
  count-join p (suc n) g = omega (arith, count-append p (join_to n g) (g n), count-join p n g)

  -- a list that is there only on a condition
  pub count-cond : (p : A → Bool) (b : Bool) (l : List A) → count p (cond b l []) ≡ cond b (count p l) 0
  unfolding count
  count-cond p true l = refl
  count-cond p false l = refl

-- the property of an extended route, asked of the route before
pub count-extend : (p : List ℕ → Bool) (t : ℕ) (l : List (List ℕ))
    → count p (extend t l) ≡ count (λ r. not (visits t r) && p (t ∷ r)) l
unfolding count extend
count-extend p t [] = refl
count-extend p t (r ∷ l) = go (visits t r) (count-extend p t l)
  where
    go : {m : ℕ} (b : Bool) → count p (extend t l) ≡ m
        → count p (cond b (extend t l) ((t ∷ r) ∷ extend t l)) ≡ cond (not b && p (t ∷ r)) 1 0 + m
    go true e = omega arith
    go false e = omega arith

-- membership in a listing: the head is in it, and so is what is in the tail
pub here : (r : List ℕ) (l : List (List ℕ)) → 0 < count (same r) (r ∷ l)
unfolding count
here r l = omega (arith, cond-true {A = ℕ} 1 0 (same_refl r))

pub there : (r a : List ℕ) (l : List (List ℕ)) → 0 < count (same r) l → 0 < count (same r) (a ∷ l)
unfolding count
there r a l h = omega arith

-- what holds for the head and for each member of the tail holds for each member
pub each : {P : List ℕ → Type 0} (a : List ℕ) (l : List (List ℕ))
    → P a → ((r : List ℕ) → 0 < count (same r) l → P r) → (r : List ℕ) → 0 < count (same r) (a ∷ l) → P r
unfolding count
each {P} a l p h r m = go (same r a) refl m
  where
    go : (b : Bool) → same r a ≡ b → 0 < cond b 1 0 + count (same r) l → P r
    go true e m = subst⁻¹ P (same_true r a e) p
    go false e m = h r (omega arith)

-- properties that agree on the members count alike
pub count-cong : (l : List (List ℕ)) {p q : List ℕ → Bool}
    → ((r : List ℕ) → 0 < count (same r) l → p r ≡ q r) → count p l ≡ count q l
unfolding count
count-cong [] h = refl
count-cong (a ∷ l) h =
    ap₂ (λ b k. cond b 1 0 + k) (h a (here a l)) (count-cong l (λ r m. h r (there r a l m)))

-- a property that each member with p has counts no fewer, and where it counts as many, the members with it are those with p
pub count-le : (l : List (List ℕ)) {p q : List ℕ → Bool} → ((r : List ℕ) → 0 < count (same r) l → p r ≡ true → q r ≡ true) → count p l ≤ count q l
unfolding count
count-le [] h = omega arith
count-le (a ∷ l) {p} {q} h = go (p a) refl (count-le l (λ r m. h r (there r a l m)))
  where
    go : (b : Bool) → p a ≡ b → count p l ≤ count q l → cond b 1 0 + count p l ≤ cond (q a) 1 0 + count q l
    go true e k = omega (arith, cond-true {A = ℕ} 1 0 (h a (here a l) e))
    go false e k = omega arith

pub count-agree : (l : List (List ℕ)) {p q : List ℕ → Bool} → ((r : List ℕ) → 0 < count (same r) l → p r ≡ true → q r ≡ true) → count p l ≡ count q l
    → (r : List ℕ) → 0 < count (same r) l → p r ≡ q r
unfolding count
count-agree [] h e r m = absurd (lt_irrefl 0 m)
count-agree (a ∷ l) {p} {q} h e r m = go (p a) refl (q a) refl e (count-le l (λ r m. h r (there r a l m))) (λ e. count-agree l (λ r m. h r (there r a l m)) e)
  where
    go : (b : Bool) → p a ≡ b → (c : Bool) → q a ≡ c → cond b 1 0 + count p l ≡ cond c 1 0 + count q l → count p l ≤ count q l
        → (count p l ≡ count q l → (r : List ℕ) → 0 < count (same r) l → p r ≡ q r) → p r ≡ q r
    go true f true g e k on = each {P = λ r. p r ≡ q r} a l (f ∙ sym g) (on (omega arith)) r m
    go true f false g e k on = absurd (true≢false (sym (h a (here a l) f) ∙ g))
    go false f true g e k on = absurd (omega arith)
    go false f false g e k on = each {P = λ r. p r ≡ q r} a l (f ∙ sym g) (on (omega arith)) r m

-- a member with the property makes the count positive
pub count-positive : (p : List ℕ → Bool) (l : List (List ℕ)) (r : List ℕ)
    → 0 < count (same r) l → p r ≡ true → 0 < count p l
unfolding count
count-positive p [] r m e = m
count-positive p (a ∷ l) r m e =
    each {P = λ r. p r ≡ true → 0 < count p (a ∷ l)} a l
    (λ e. omega (arith, cond-true {A = ℕ} 1 0 e))
    (λ r m e. omega (arith, count-positive p l r m e))
    r m e

-- a positive count has a member with the property
pub positive-count : (p : List ℕ → Bool) (l : List (List ℕ))
    → 0 < count p l → (r : List ℕ) × (0 < count (same r) l) × (p r ≡ true)
unfolding count
positive-count p [] h = absurd (lt_irrefl 0 h)
positive-count p (a ∷ l) h = go (p a) refl (λ m. positive-count p l m) h
  where
    go : (b : Bool) → p a ≡ b → (0 < count p l → (r : List ℕ) × (0 < count (same r) l) × (p r ≡ true))
        → 0 < cond b 1 0 + count p l → (r : List ℕ) × (0 < count (same r) (a ∷ l)) × (p r ≡ true)
    go true e f h = (a, here a l, e)
    go false e f h = let (r, m, e) = f (omega arith) in (r, there r a l m, e)

-- a condition that does not depend on the member
pub count-when : {A : Type 0} (b : Bool) (p : A → Bool) (l : List A) → count (λ r. b && p r) l ≡ cond b (count p l) 0
unfolding count
count-when true p l = refl
count-when false p [] = refl
count-when false p (a ∷ l) = omega (arith, count-when false p l)

-- a property that no member has counts none
pub count_none : (p : List ℕ → Bool) (l : List (List ℕ)) → ((r : List ℕ) → 0 < count (same r) l → p r ≡ false) → count p l ≡ 0
count_none p l h = count-cong l h ∙ count-when false (λ r. true) l

-- a choice within a choice, and one that makes no difference
pub cond-and : (a b : Bool) (x y : ℕ) → cond a (cond b x y) y ≡ cond (a && b) x y
cond-and true b x y = refl
cond-and false b x y = refl

pub cond_same : (b : Bool) (x : ℕ) → cond b x x ≡ x
cond_same true x = refl
cond_same false x = refl

-- a test counts at most one, and that one only where it passes
pub test-true : (b : Bool) → 0 < cond b 1 0 → b ≡ true
test-true true h = refl
test-true false h = absurd (lt_irrefl 0 h)

pub test-le : (b : Bool) → cond b 1 0 ≤ 1
test-le true = omega arith
test-le false = omega arith

-- the number of indices that pass a test which only k can pass
pub sum_to-test : (n k : ℕ) (p : ℕ → Bool) → ((i : ℕ) → p i ≡ true → i ≡ k) → sum_to n (λ i. cond (p i) 1 0) ≡ cond (ltb k n && p k) 1 0
sum_to-test n k p h = go (ltb k n) refl
  where
    at : (i : ℕ) (b : Bool) → p i ≡ b → cond {A = ℕ} b 1 0 ≡ cond (eqb i k) (cond b 1 0) 0
    at i true e = sym (cond-true {A = ℕ} 1 0 (eq-eqb i k (h i e)))
    at i false e = sym (cond_same (eqb i k) 0)

    out : (i : ℕ) → i < n → n ≤ k → (b : Bool) → p i ≡ b → cond {A = ℕ} b 1 0 ≡ 0
    out i l m true e = absurd (omega (arith, h i e))
    out i l m false e = refl

    go : (b : Bool) → ltb k n ≡ b → sum_to n (λ i. cond (p i) 1 0) ≡ cond (b && p k) 1 0
    go true e =
        sum_to-cong n {f = λ i. cond (p i) 1 0} (λ i l. at i (p i) refl)
        ∙ sum_to-pick n k (λ i. cond (p i) 1 0) (ltb-true k n e)
    go false e = sum_to-zero n (λ i l. out i l (ltb-false k n e) (p i) refl)

-- a sum by its first member instead of its last
pub sum_to-shift : (n : ℕ) (f : ℕ → ℕ) → sum_to n f + f n ≡ f 0 + sum_to n (λ i. f (suc i))
unfolding sum_to
sum_to-shift zero f = add_comm 0 (f 0)
sum_to-shift (suc n) f = omega (arith, sum_to-shift n f)

-- clamping before a sum or a choice changes nothing where the result is clamped
pub sum_to-clamp : (m n : ℕ) (f : ℕ → ℕ) → min m (sum_to n f) ≡ min m (sum_to n (λ i. min m (f i)))
unfolding sum_to
sum_to-clamp m zero f = refl
sum_to-clamp m (suc n) f = omega (arith, sum_to-clamp m n f)

pub cond-clamp : (m : ℕ) (b : Bool) (x : ℕ) → min m (cond b x 0) ≡ cond b (min m x) 0
cond-clamp m true x = refl
cond-clamp m false x = omega arith
