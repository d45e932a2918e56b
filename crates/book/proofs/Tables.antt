-- Laws of the square tables of a hall: their length, their entries, one entry set, and valid costs and passing times. Assumes nothing.
use Prim.Native.Nat.{ℕ, zero, suc, ◌+◌, ◌*◌, ◌/◌, ◌%◌, ◌<◌, ◌≤◌}
use mathlib.Core.Path.{◌≡◌, refl, sym, ◌∙◌, ap, ap₂}
use mathlib.Core.Logic.{◌≢◌}
use mathlib.Core.Bool.{Bool, true, false, cond, ◌&&◌}
use mathlib.Core.List.{List, ◌++◌}
use native.Mathlib.Nat.{zero-mul, suc-mul, not-suc-le-zero, mod-lt, div-add-mod', div-lt_iff_lt-mul}
use native.Mathlib.Omega.{arith}
use lib.Arith.{digits_lt, digits_div, digits_mod}
use lib.Dec.{eqb, leb}
use lib.ListN.{length, get_or, set, replicate, length-append, length-set, length-replicate, get_or-replicate, get_or-append}
use lib.Seq.{ext_get_or, get_or-append-add, get_or-set_same, get_or-set_other}
use borrow.Author.Tests.{leb-true, le-leb, eqb-true, eqb-false, eq-eqb}
use Rattle.routes.specs.Route.{Costs, join_to, list_to}
use Rattle.routes.proofs.Sums.{below_suc, cond-true, all_true, all_of}
use Rattle.routes.proofs.Rows.{length-list_to, get_or-list_to}
use Rattle.book.specs.Hall.{largest_cost, largest_passing, table, entry, valid_costs, valid_passing}

module _ {A : Type 0} (n : ℕ) (g : ℕ → List A) (wide : (s : ℕ) → length (g s) ≡ n) where
  -- m rows of n entries have m times n
  pub length-rows : (m : ℕ) → length (join_to m g) ≡ m * n
  unfolding join_to
  length-rows zero = sym (zero-mul n)
  length-rows (suc m) = length-append (join_to m g) (g m) ∙ omega (arith, length-rows m, wide m, suc-mul m n)

  -- what stands in row s, column t
  pub get_d_rows : (m : ℕ) (d : A) (s t : ℕ) → s < m → t < n → get_or (join_to m g) (s * n + t) d ≡ get_or (g s) t d
  unfolding join_to
  get_d_rows zero d s t k l = absurd (not-suc-le-zero k)
  get_d_rows (suc m) d s t k l =
      below_suc {P = λ s. get_or (join_to m g ++ g m) (s * n + t) d ≡ get_or (g s) t d} m
      (λ s k. get_or-append (join_to m g) (g m) d (s * n + t) (rw length-rows (digits_lt k l)) ∙ get_d_rows m d s t k l)
      (ap (λ i. get_or (join_to m g ++ g m) (i + t) d) (sym (length-rows m)) ∙ get_or-append-add (join_to m g) (g m) t d) s k

-- a table has n times n entries
pub length-table : (n : ℕ) (f : ℕ → ℕ → ℕ) → length (table n f) ≡ n * n
length-table n f = length-rows n (λ s. list_to n (f s)) (λ s. length-list_to n (f s)) n

-- the entry in row s, column t of the table of f is f s t
pub entry-table : (n : ℕ) (f : ℕ → ℕ → ℕ) (s t : ℕ) → s < n → t < n → entry n (table n f) s t ≡ f s t
entry-table n f s t k l =
    get_d_rows n (λ s. list_to n (f s)) (λ s. length-list_to n (f s)) n 0 s t k l ∙ get_or-list_to n (f s) 0 t l

-- two lists of n times n numbers with the same entries are equal
pub entry-ext : (n : ℕ) (l m : List ℕ) → length l ≡ n * n → length m ≡ n * n →
    ((s t : ℕ) → s < n → t < n → entry n l s t ≡ entry n m s t) → l ≡ m
entry-ext zero l m p q h = ext_get_or 0 l m (p ∙ sym q) (λ i b. absurd (omega arith))
entry-ext (suc k) l m p q h = ext_get_or 0 l m (p ∙ sym q) at
  where
    at : (i : ℕ) → i < length l → get_or l i 0 ≡ get_or m i 0
    at i b =
        let row : i / suc k < suc k = (div-lt_iff_lt-mul {k = suc k} {x = i} {y = suc k} (omega arith)).1 (omega arith) in
        let split : i / suc k * suc k + i % suc k ≡ i = div-add-mod' i (suc k) in
        rw split at (h (i / suc k) (i % suc k) row (mod-lt i (omega arith)))

-- a list of n times n numbers that f gives is the table of f
pub table_of : (n : ℕ) (f : ℕ → ℕ → ℕ) (l : List ℕ) → length l ≡ n * n →
    ((s t : ℕ) → s < n → t < n → entry n l s t ≡ f s t) → l ≡ table n f
table_of n f l e h = entry-ext n l (table n f) e (length-table n f) (λ s t k j. h s t k j ∙ sym (entry-table n f s t k j))

-- tables of functions that agree on the stops are equal
pub table-cong : (n : ℕ) (f g : ℕ → ℕ → ℕ) → ((s t : ℕ) → s < n → t < n → f s t ≡ g s t) → table n f ≡ table n g
table-cong n f g h = table_of n g (table n f) (length-table n f) (λ s t k l. entry-table n f s t k l ∙ h s t k l)

-- two entries that stand at one place are one
pub same_place : (n : ℕ) {s t u v : ℕ} → t < n → v < n → s * n + t ≡ u * n + v → (s ≡ u) × (t ≡ v)
same_place n {s} {t} {u} {v} k l e =
    (sym (digits_div s k) ∙ ap (λ i. i / n) e ∙ digits_div u l, sym (digits_mod s k) ∙ ap (λ i. i % n) e ∙ digits_mod u l)

-- the entries after one is set
pub entry_set : (n : ℕ) (l : List ℕ) (u v x s t : ℕ) → length l ≡ n * n → u < n → v < n → t < n →
    entry n (set l (u * n + v) x) s t ≡ cond (eqb u s && eqb v t) x (entry n l s t)
entry_set n l u v x s t e a b c = go (eqb u s) refl (eqb v t) refl
  where
    other : (s * n + t ≡ u * n + v → ⊥) → entry n (set l (u * n + v) x) s t ≡ entry n l s t
    other h = get_or-set_other l (u * n + v) (s * n + t) x 0 h

    go : (p : Bool) → eqb u s ≡ p → (q : Bool) → eqb v t ≡ q → entry n (set l (u * n + v) x) s t ≡ cond (p && q) x (entry n l s t)
    go true f true g =
        ap₂ (entry n (set l (u * n + v) x)) (sym (eqb-true u s f)) (sym (eqb-true v t g)) ∙
        get_or-set_same l (u * n + v) x 0 (rw e (digits_lt a b))
    go true f false g = other (λ h. eqb-false v t g (sym (same_place n c b h).1))
    go false f q g = other (λ h. eqb-false u s f (sym (same_place n c b h).0))

-- no other entry differs
pub only_set : (n : ℕ) (l : List ℕ) (u v x s t : ℕ) → length l ≡ n * n → u < n → v < n → t < n →
    entry n l s t ≢ entry n (set l (u * n + v) x) s t → (s ≡ u) × (t ≡ v)
only_set n l u v x s t e a b c ne = go (eqb u s) refl (eqb v t) refl (entry_set n l u v x s t e a b c)
  where
    go : (p : Bool) → eqb u s ≡ p → (q : Bool) → eqb v t ≡ q → entry n (set l (u * n + v) x) s t ≡ cond (p && q) x (entry n l s t) → (s ≡ u) × (t ≡ v)
    go true f true g h = (sym (eqb-true u s f), sym (eqb-true v t g))
    go true f false g h = absurd (ne (sym h))
    go false f q g h = absurd (ne (sym h))

-- a table after one entry is set
pub table-set : (n : ℕ) (f : ℕ → ℕ → ℕ) (u v x : ℕ) → u < n → v < n →
    set (table n f) (u * n + v) x ≡ table n (λ s t. cond (eqb u s && eqb v t) x (f s t))
table-set n f u v x a b =
    table_of n _ (set (table n f) (u * n + v) x) (length-set (table n f) (u * n + v) x ∙ length-table n f) λ s t k l.
    entry_set n (table n f) u v x s t (length-table n f) a b l ∙ ap (cond (eqb u s && eqb v t) x) (entry-table n f s t k l)

-- a table of zeros
pub table-zero : (n : ℕ) → table n (λ s t. 0) ≡ replicate (n * n) 0
table-zero n =
    sym (table_of n (λ s t. 0) (replicate (n * n) 0) (length-replicate (n * n) 0) (λ s t k l. get_or-replicate (n * n) (s * n + t) 0 0 (digits_lt k l)))

-- costs as a hall has them
pub record Valid (n : ℕ) (W : Costs) : Type 0 where
  pub most : (u v : ℕ) → u < n → v < n → W u v ≤ largest_cost
  pub own : (u : ℕ) → u < n → W u u ≡ 0

-- valid_costs tests exactly that
pub valid-costs : (n : ℕ) (cost : List ℕ) → valid_costs n cost ≡ true → Valid n (entry n cost)
unfolding valid_costs
valid-costs n cost h = record {
  most = λ u v a b. part (eqb u v) (at u v a b);
  own = λ u a. let e = at u u a a in let f = cond-true 0 largest_cost (eq-eqb u u refl) in omega arith;
}
  where
    at : (u v : ℕ) → u < n → v < n → entry n cost u v ≤ cond (eqb u v) 0 largest_cost
    at u v a b = leb-true _ _ (all_true n _ (all_true n _ h u a) v b)

    part : {x : ℕ} (b : Bool) → x ≤ cond b 0 largest_cost → x ≤ largest_cost
    part true h = omega arith
    part false h = h

pub costs-valid : (n : ℕ) (cost : List ℕ) → Valid n (entry n cost) → valid_costs n cost ≡ true
unfolding valid_costs
costs-valid n cost h = all_of n _ (λ u a. all_of n _ (λ v b. le-leb _ _ (go u v a b (eqb u v) refl)))
  where
    go : (u v : ℕ) → u < n → v < n → (b : Bool) → eqb u v ≡ b → entry n cost u v ≤ cond b 0 largest_cost
    go u v a b true e = omega (arith, h.own u a, ap (entry n cost u) (eqb-true u v e))
    go u v a b false e = h.most u v a b

-- costs stay valid where the link between two stops gets a cost, or none
pub valid-set : (n : ℕ) (cost : List ℕ) (u v x : ℕ) → length cost ≡ n * n → u < n → v < n → u ≢ v → x ≤ largest_cost → valid_costs n cost ≡ true →
    valid_costs n (set cost (u * n + v) x) ≡ true
valid-set n cost u v x e a b apart fits h =
    costs-valid n (set cost (u * n + v) x) (record {
      most = λ s t k l. rw (entry_set n cost u v x s t e a b l) (most (eqb u s && eqb v t) s t k l);
      own = λ s k. rw (entry_set n cost u v x s s e a b k) (own s (eqb u s) refl (eqb v s) refl k);
    })
  where
    old : Valid n (entry n cost)
    old = valid-costs n cost h

    most : (p : Bool) (s t : ℕ) → s < n → t < n → cond p x (entry n cost s t) ≤ largest_cost
    most true s t k l = fits
    most false s t k l = old.most s t k l

    own : (s : ℕ) (p : Bool) → eqb u s ≡ p → (q : Bool) → eqb v s ≡ q → s < n → cond (p && q) x (entry n cost s s) ≡ 0
    own s true f true g k = absurd (apart (eqb-true u s f ∙ sym (eqb-true v s g)))
    own s true f false g k = old.own s k
    own s false f q g k = old.own s k

-- valid_passing tests exactly that no passing time is too long
pub valid-passing : (n : ℕ) (passing : List ℕ) → valid_passing n passing ≡ true → (v : ℕ) → v < n → get_or passing v 0 ≤ largest_passing
unfolding valid_passing
valid-passing n passing h v l = leb-true (get_or passing v 0) largest_passing (all_true n (λ v. leb (get_or passing v 0) largest_passing) h v l)

pub passing-valid : (n : ℕ) (passing : List ℕ) → ((v : ℕ) → v < n → get_or passing v 0 ≤ largest_passing) → valid_passing n passing ≡ true
unfolding valid_passing
passing-valid n passing h = all_of n (λ v. leb (get_or passing v 0) largest_passing) (λ v l. le-leb (get_or passing v 0) largest_passing (h v l))
