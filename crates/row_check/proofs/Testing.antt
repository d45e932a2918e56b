-- Loops that test the stops one after another: what holds between two turns. Assumes nothing.
use Prim.Native.Nat.{ℕ, ◌+◌, ◌*◌, ◌^◌, ◌<◌, ◌≤◌}
use mathlib.Core.Path.{◌≡◌, refl, ◌∙◌, ap}
use mathlib.Core.Bool.{Bool, true, ◌&&◌, and-eq-true_iff}
use mathlib.Core.List.{List, [], ◌∷◌, ◌++◌}
use native.Mathlib.Nat.{mul-le-mul}
use native.Mathlib.Numerals.{add-one}
use native.Mathlib.Omega.{arith}
use lib.Bits.{bit_or, and_le_l, and_le_r, or_add_and}
use lib.Dec.{ltb}
use lib.ListN.{length, get_or}
use borrow.Author.Tests.{ltb-true, lt-ltb}
use Rattle.std.specs.List.{sum, zip}
use Rattle.std.proofs.lemmas.List.{length_push, get_or_default}
use Rattle.std.proofs.lemmas.List.Sums.{sum_by-cons}
use Rattle.std.proofs.lemmas.Nat.{or_lt}
use Rattle.std.proofs.lemmas.Slice.Zip.{length-zip, get_or-zip}
use Rattle.routes.specs.Route.{sum_to, all_to}
use Rattle.routes.proofs.Booleans.{bool_iff}
use Rattle.routes.proofs.Counting.{sum_to-shift}
use Rattle.row_check.specs.Tests.{Pays, at, little}

-- two words joined are below 2^40 where both are
small-joined : (a b : ℕ) → ltb (bit_or a b) (2 ^ 40) ≡ (ltb a (2 ^ 40) && ltb b (2 ^ 40))
small-joined a b =
    bool_iff (ltb (bit_or a b) (2 ^ 40)) (ltb a (2 ^ 40) && ltb b (2 ^ 40))
    (λ h. let m = ltb-true (bit_or a b) (2 ^ 40) h in (and-eq-true_iff (ltb a (2 ^ 40)) _).1 (lt-ltb a (2 ^ 40) (omega (arith, or_add_and a b, and_le_r a b)), lt-ltb b (2 ^ 40) (omega (arith, or_add_and a b, and_le_l a b))))
    (λ h. let (x, y) = (and-eq-true_iff (ltb a (2 ^ 40)) _).0 h in lt-ltb (bit_or a b) (2 ^ 40) (or_lt 40 a b (ltb-true a (2 ^ 40) x) (ltb-true b (2 ^ 40) y)))

-- a loop that tests the stops one after another: ok says whether those below i of n pass
pub record Testing (n i : ℕ) (p : ℕ → Bool) (ok : Bool) : Type 0 where
  pub within : i ≤ n
  pub passes : ok ≡ all_to i p

pub testing-starts : (n : ℕ) (p : ℕ → Bool) → Testing n 0 p true
unfolding all_to
testing-starts n p = record { within = omega arith; passes = refl }

pub testing-goes : {n i : ℕ} {p : ℕ → Bool} {ok : Bool} → Testing n i p ok → i < n → Testing n (i + 1) p (ok && p i)
unfolding all_to
testing-goes {n} {i} {p} {ok} t l = record { within = omega arith; passes = rw add-one (ap (λ b. b && p i) t.passes) }

-- the same at a turn of an iterator that gave xs before it
pub testing-turns : {A : Type 0} {n : ℕ} {p : ℕ → Bool} {ok passes : Bool} (xs : List A) (x : A) → Testing n (length xs) p ok → length xs < n → passes ≡ p (length xs)
    → Testing n (length (xs ++ (x ∷ []))) p (ok && passes)
testing-turns xs x t l e = rw (length_push xs x, e) (testing-goes t l)

pub light-goes : (share : List ℕ) (joined : ℕ) {n i : ℕ} → Testing n i (little share) (ltb joined (2 ^ 40)) → i < n → Testing n (i + 1) (little share) (ltb (bit_or joined (at share i)) (2 ^ 40))
light-goes share joined {i = i} t l = rw (small-joined joined (at share i)) (testing-goes t l)

-- a list's sum
pub sum-listed : (l : List ℕ) → sum l ≡ sum_to (length l) (at l)
unfolding sum_to
sum-listed [] = refl
sum-listed (x ∷ l) = omega (arith, sum_by-cons (λ (y : ℕ). y) x l, sum-listed l, sum_to-shift (length l) (at (x ∷ l)))

-- the entries that three lists of one length give in one turn
pub three-at : (a b c : List ℕ) (i : ℕ) {x : (ℕ × ℕ) × ℕ} → length a ≡ length b → length c ≡ length b → (i < length (zip (zip a b) c)) × (x ≡ get_or (zip (zip a b) c) i x)
    → (i < length b) × (x.0.0 ≡ at a i) × (x.0.1 ≡ at b i) × (x.1 ≡ at c i)
three-at a b c i {x} e f (l, is) =
    let k : i < length b = omega (arith, length-zip (zip a b) c, length-zip a b) in
    let inner : i < length (zip a b) = omega (arith, length-zip a b) in
    let outer : x ≡ (get_or (zip a b) i x.0, get_or c i x.1) = is ∙ get_or-zip (zip a b) c i x inner (omega arith) in
    let first : x.0 ≡ (get_or a i x.0.0, get_or b i x.0.1) = ap (λ p. p.0) outer ∙ get_or-zip a b i x.0 (omega arith) k in
    (k, ap (λ p. p.0) first ∙ get_or_default a i x.0.0 0 (omega arith), ap (λ p. p.1) first ∙ get_or_default b i x.0.1 0 k, ap (λ p. p.1) outer ∙ get_or_default c i x.1 0 (omega arith))

-- ways times what flows back fits a word
pub paid-fits : {n i : ℕ} {ways share flow : List ℕ} → Pays n ways share flow → i < n → at ways i * at flow i < 2 ^ 64
paid-fits {i = i} p l = omega (arith, mul-le-mul (p.few i l) (p.light i l))
