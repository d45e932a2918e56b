-- Laws of the order from the front: lists that are brought in order rise, and a rising listing is known by its members.
-- Assumes nothing.
use Prim.Native.Nat.{ℕ, zero, suc, ◌+◌, ◌<◌, ◌≤◌}
use native.Mathlib.Nat.{lt_irrefl}
use native.Mathlib.Omega.{arith}
use mathlib.Core.Path.{◌≡◌, refl, sym, ◌∙◌, ap, ap₂}
use mathlib.Core.Logic.{◌⊎◌, inl, inr}
use mathlib.Core.Bool.{Bool, true, false, cond, ◌&&◌, ◌||◌, and-eq-true_iff, or-true, false≢true}
use mathlib.Core.List.{List, [], ◌∷◌, ◌++◌}
use lib.Dec.{eqb, ltb}
use borrow.Author.Tests.{eqb-true, eqb-false, eq-eqb, ne_eqb, ltb-true, ltb-false, lt-ltb, le-ltb}
use Rattle.routes.specs.Route.{sum_to, join_to, count, same, ahead, among, in_order}
use Rattle.routes.proofs.Booleans.{both}
use Rattle.routes.proofs.Sums.{cond-true, sum_to-positive}
use Rattle.routes.proofs.Lists.{same_refl, same_true}
use Rattle.routes.proofs.Counting.{count-append, count-join, here, there, each}

-- r comes before each list of a listing
unfoldable pub before_all : List ℕ → List (List ℕ) → Bool
before_all r [] = true
before_all r (q ∷ rs) = ahead r q && before_all r rs

-- each list of a listing comes before all behind it: the listing rises, and has nothing twice
unfoldable pub rising : List (List ℕ) → Bool
rising [] = true
rising (r ∷ rs) = before_all r rs && rising rs

-- what one list before another says of their fronts, and what makes it so
ahead-by : (x y : ℕ) (r q : List ℕ) → ahead (x ∷ r) (y ∷ q) ≡ true → (x < y) ⊎ ((x ≡ y) × (ahead r q ≡ true))
unfolding ahead
ahead-by x y r q e = go (ltb x y) refl e
  where
    go : (b : Bool) → ltb x y ≡ b → (b || (eqb x y && ahead r q)) ≡ true → (x < y) ⊎ ((x ≡ y) × (ahead r q ≡ true))
    go true l e = inl (ltb-true x y l)
    go false l e = let (a, b) = (and-eq-true_iff (eqb x y) _).0 e in inr (eqb-true x y a, b)

pub less-ahead : (x y : ℕ) (r q : List ℕ) → x < y → ahead (x ∷ r) (y ∷ q) ≡ true
unfolding ahead
less-ahead x y r q l = rw (lt-ltb x y l)

pub same_ahead : (x y : ℕ) (r q : List ℕ) → x ≡ y → ahead r q ≡ true → ahead (x ∷ r) (y ∷ q) ≡ true
unfolding ahead
same_ahead x y r q e h = rw (h, eq-eqb x y e) (or-true (ltb x y))

-- a list comes before those that it begins
pub front-ahead : (r q : List ℕ) (y : ℕ) → ahead r (r ++ (y ∷ q)) ≡ true
unfolding ahead
front-ahead [] q y = refl
front-ahead (x ∷ r) q y = same_ahead x x r (r ++ (y ∷ q)) refl (front-ahead r q y)

-- it is a strict order, by which of two different lists one comes first
pub ahead-itself : (r : List ℕ) → ahead r r ≡ true → ⊥
unfolding ahead
ahead-itself [] e = false≢true e
ahead-itself (x ∷ r) e = elim (ahead-by x x r r e) [ inl l ↦ lt_irrefl x l | inr h ↦ ahead-itself r h.1 ]

pub ahead-on : (p q r : List ℕ) → ahead p q ≡ true → ahead q r ≡ true → ahead p r ≡ true
unfolding ahead
ahead-on [] [] r e f = f
ahead-on [] (y ∷ q) [] e f = absurd (false≢true f)
ahead-on [] (y ∷ q) (z ∷ r) e f = refl
ahead-on (x ∷ p) [] r e f = absurd (false≢true e)
ahead-on (x ∷ p) (y ∷ q) [] e f = absurd (false≢true f)
ahead-on (x ∷ p) (y ∷ q) (z ∷ r) e f = elim (ahead-by x y p q e) [
  | inl l ↦ less-ahead x z p r (elim (ahead-by y z q r f) [ inl m ↦ omega arith | inr h ↦ omega (arith, h.0) ])
  | inr g ↦ elim (ahead-by y z q r f) [
    | inl m ↦ less-ahead x z p r (omega (arith, g.0))
    | inr h ↦ same_ahead x z p r (g.0 ∙ h.0) (ahead-on p q r g.1 h.1)
  ]
]

pub ahead-or : (r q : List ℕ) → ahead q r ≡ false → same r q ≡ false → ahead r q ≡ true
unfolding ahead same
ahead-or [] [] e f = absurd (false≢true (sym f))
ahead-or [] (y ∷ q) e f = refl
ahead-or (x ∷ r) [] e f = absurd (false≢true (sym e))
ahead-or (x ∷ r) (y ∷ q) e f = go (ltb y x) refl (eqb x y) refl e f (λ e f. ahead-or r q e f)
  where
    go : (a : Bool) → ltb y x ≡ a → (b : Bool) → eqb x y ≡ b → (a || (eqb y x && ahead q r)) ≡ false → (b && same r q) ≡ false
        → (ahead q r ≡ false → same r q ≡ false → ahead r q ≡ true) → ahead (x ∷ r) (y ∷ q) ≡ true
    go true l b h e f on = absurd (false≢true (sym e))
    go false l true h e f on =
        let z : x ≡ y = eqb-true x y h in
        same_ahead x y r q z (on (rw (eq-eqb y x (sym z)) at e) f)
    go false l false h e f on = less-ahead x y r q (omega (arith, ltb-false y x l, eqb-false x y h))

-- behind the same stops, the next one decides
pub ahead-behind : (p r q : List ℕ) (x y : ℕ) → x < y → ahead (p ++ (x ∷ r)) (p ++ (y ∷ q)) ≡ true
ahead-behind [] r q x y l = less-ahead x y r q l
ahead-behind (z ∷ p) r q x y l = same_ahead z z (p ++ (x ∷ r)) (p ++ (y ∷ q)) refl (ahead-behind p r q x y l)

-- a list before all comes before each member, and what comes before each member comes before all
before-member : (r : List ℕ) (rs : List (List ℕ)) → before_all r rs ≡ true → (q : List ℕ) → 0 < count (same q) rs → ahead r q ≡ true
unfolding count before_all
before-member r [] e q m = absurd (lt_irrefl 0 m)
before-member r (a ∷ rs) e q m =
    let (x, y) = (and-eq-true_iff (ahead r a) _).0 e in
    each {P = λ q. ahead r q ≡ true} a rs x (λ q m. before-member r rs y q m) q m

before-all : (r : List ℕ) (rs : List (List ℕ)) → ((q : List ℕ) → 0 < count (same q) rs → ahead r q ≡ true) → before_all r rs ≡ true
unfolding before_all
before-all r [] h = refl
before-all r (a ∷ rs) h =
    (and-eq-true_iff (ahead r a) _).1 (h a (here a rs), before-all r rs (λ q m. h q (there q a rs m)))

-- a rising listing: its head comes before each member behind it
rising-head : (r : List ℕ) (rs : List (List ℕ)) → rising (r ∷ rs) ≡ true → ((q : List ℕ) → 0 < count (same q) rs → ahead r q ≡ true) × (rising rs ≡ true)
unfolding rising
rising-head r rs e = let (x, y) = (and-eq-true_iff (before_all r rs) _).0 e in (before-member r rs x, y)

rising-cons : (r : List ℕ) (rs : List (List ℕ)) → ((q : List ℕ) → 0 < count (same q) rs → ahead r q ≡ true) → rising rs ≡ true → rising (r ∷ rs) ≡ true
unfolding rising
rising-cons r rs h e = (and-eq-true_iff (before_all r rs) _).1 (before-all r rs h, e)

-- two rising listings one after the other, and many
pub rising-append : (l m : List (List ℕ)) → rising l ≡ true → rising m ≡ true →
    ((r q : List ℕ) → 0 < count (same r) l → 0 < count (same q) m → ahead r q ≡ true) → rising (l ++ m) ≡ true
rising-append [] m e f h = f
rising-append (a ∷ l) m e f h =
    let (first, rest) = rising-head a l e in
    rising-cons a (l ++ m) (λ q k. go first q (count (same q) l) refl (rw count-append at k)) (rising-append l m rest f (λ r q i j. h r q (there r a l i) j))
  where
    go : ((q : List ℕ) → 0 < count (same q) l → ahead a q ≡ true) → (q : List ℕ) (c : ℕ) → count (same q) l ≡ c → 0 < c + count (same q) m → ahead a q ≡ true
    go first q zero e k = h a q (here a l) (omega arith)
    go first q (suc c) e k = first q (omega arith)

pub rising-join : (n : ℕ) (g : ℕ → List (List ℕ)) → ((i : ℕ) → i < n → rising (g i) ≡ true) →
    ((i j : ℕ) → i < j → j < n → (r q : List ℕ) → 0 < count (same r) (g i) → 0 < count (same q) (g j) → ahead r q ≡ true) → rising (join_to n g) ≡ true
unfolding join_to rising
rising-join zero g e h = refl
rising-join (suc n) g e h =
    rising-append (join_to n g) (g n) (rising-join n g (λ i l. e i (omega arith)) (λ i j k l. h i j k (omega arith))) (e n (omega arith)) (λ r q i j.
    let (u, l, k) = sum_to-positive n (λ u. count (same r) (g u)) (rw count-join at i) in
    h u n l (omega arith) r q k j)

-- a listing in order counts what it did
count-among : (p : List ℕ → Bool) (r : List ℕ) (rs : List (List ℕ)) → count p (among r rs) ≡ count p (r ∷ rs)
unfolding count among
count-among p r [] = refl
count-among p r (q ∷ rs) = go (ahead q r) (count-among p r rs)
  where
    go : (b : Bool) → count p (among r rs) ≡ cond (p r) 1 0 + count p rs →
        count p (cond b (q ∷ among r rs) (r ∷ (q ∷ rs))) ≡ cond (p r) 1 0 + (cond (p q) 1 0 + count p rs)
    go true e = omega arith
    go false e = refl

pub count-order : (p : List ℕ → Bool) (rs : List (List ℕ)) → count p (in_order rs) ≡ count p rs
unfolding count in_order
count-order p [] = refl
count-order p (r ∷ rs) = count-among p r (in_order rs) ∙ ap (λ c. cond (p r) 1 0 + c) (count-order p rs)

-- a listing that has nothing twice, brought in order, rises
rising-among : (r : List ℕ) (rs : List (List ℕ)) → rising rs ≡ true → count (same r) rs ≡ 0 → rising (among r rs) ≡ true
unfolding among count
rising-among r [] e h = rising-cons r [] (λ q m. absurd (lt_irrefl 0 m)) e
rising-among r (q ∷ rs) e h = go (ahead q r) refl (same r q) refl h (λ e h. rising-among r rs e h)
  where
    go : (a : Bool) → ahead q r ≡ a → (b : Bool) → same r q ≡ b → cond b 1 0 + count (same r) rs ≡ 0 →
        (rising rs ≡ true → count (same r) rs ≡ 0 → rising (among r rs) ≡ true) → rising (cond a (q ∷ among r rs) (r ∷ (q ∷ rs))) ≡ true
    go a x true y h on = absurd (omega arith)
    go true x false y h on =
        let (first, rest) = rising-head q rs e in
        rising-cons q (among r rs) (λ p m. each {P = λ p. ahead q p ≡ true} r rs x first p (rw count-among at m)) (on rest (omega arith))
    go false x false y h on =
        let z : ahead r q ≡ true = ahead-or r q x y in
        let (first, rest) = rising-head q rs e in
        rising-cons r (q ∷ rs) (each {P = λ p. ahead r p ≡ true} q rs z (λ p m. ahead-on r q p z (first p m))) e

pub order-rises : (rs : List (List ℕ)) → ((r : List ℕ) → count (same r) rs ≤ 1) → rising (in_order rs) ≡ true
unfolding in_order rising count
order-rises [] h = refl
order-rises (r ∷ rs) h =
    rising-among r (in_order rs) (order-rises rs (λ q. omega (arith, h q))) (omega (arith, h r, cond-true {A = ℕ} 1 0 (same_refl r), count-order (same r) rs))

-- a member of a listing that is not its head is behind it
member-behind : (p a : List ℕ) (l : List (List ℕ)) → (p ≡ a → ⊥) → 0 < count (same p) (a ∷ l) → 0 < count (same p) l
unfolding count
member-behind p a l h m = go (same p a) refl m
  where
    go : (b : Bool) → same p a ≡ b → 0 < cond b 1 0 + count (same p) l → 0 < count (same p) l
    go true e m = absurd (h (same_true p a e))
    go false e m = omega arith

-- two rising listings, each of which has the head of the other, have the same head
heads : (r q : List ℕ) (l m : List (List ℕ)) → rising (r ∷ l) ≡ true → rising (q ∷ m) ≡ true → 0 < count (same r) (q ∷ m) → 0 < count (same q) (r ∷ l) → r ≡ q
heads r q l m e f i j = go (same r q) refl
  where
    go : (b : Bool) → same r q ≡ b → r ≡ q
    go true z = same_true r q z
    go false z =
        let apart : r ≡ q → ⊥ = λ h. both (rw (← h) (same_refl r)) z in
        let down : ahead r q ≡ true = (rising-head r l e).0 q (member-behind q r l (λ h. apart (sym h)) j) in
        let up : ahead q r ≡ true = (rising-head q m f).0 r (member-behind r q m apart i) in
        absurd (ahead-itself r (ahead-on r q r down up))

-- a rising listing is known by its members
pub rising-known : (l m : List (List ℕ)) → rising l ≡ true → rising m ≡ true → ((r : List ℕ) → 0 < count (same r) l → 0 < count (same r) m) →
    ((r : List ℕ) → 0 < count (same r) m → 0 < count (same r) l) → l ≡ m
unfolding count
rising-known [] [] e f to from = refl
rising-known [] (q ∷ m) e f to from = absurd (lt_irrefl 0 (from q (here q m)))
rising-known (r ∷ l) [] e f to from = absurd (lt_irrefl 0 (to r (here r l)))
rising-known (r ∷ l) (q ∷ m) e f to from =
    let h : r ≡ q = heads r q l m e f (to r (here r l)) (from q (here q m)) in
    let (first, rest) = rising-head r l e in
    let (first', rest') = rising-head q m f in
    ap₂ {C = List (List ℕ)} ◌∷◌ h (rising-known l m rest rest'
    (λ p k. member-behind p q m (λ z. ahead-itself r (first r (rw (z ∙ sym h) at k))) (to p (there p r l k)))
    (λ p k. member-behind p r l (λ z. ahead-itself q (first' q (rw (z ∙ h) at k))) (from p (there p q m k))))
