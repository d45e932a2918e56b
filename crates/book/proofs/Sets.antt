-- The set that an accepted call names, where the rows of the sources outside it stay: its members are counted, and each score moves by
-- what its shares in their rows move. Assumes nothing.
use Prim.Native.Nat.{ℕ, zero, suc, ◌+◌, ◌<◌, ◌≤◌}
use mathlib.Core.Path.{◌≡◌, refl, sym, ◌∙◌, ap}
use mathlib.Core.Logic.{⊎_elim}
use mathlib.Core.Bool.{Bool, true, false, cond, not, ◌&&◌, and-eq-true_iff}
use native.Mathlib.Nat.{eq-or-lt_of_le}
use native.Mathlib.Omega.{arith}
use lib.Dec.{eqb}
use borrow.Author.Tests.{eqb-true, eq-eqb, le-ltb, lt-ltb, not-false}
use Rattle.routes.specs.Route.{sum_to, set_of, has, open_share, score}
use Rattle.routes.proofs.Sums.{sum_to-cong, sum_to-split, all_true, all_of}
use Rattle.routes.proofs.Bits.{has-set_of}
use Rattle.routes.proofs.Rows.{get_or-list_to}
use Rattle.book.specs.Hall.{Layout, Tables, most_stops, most_ways, scale, table, entry, costs_in, filled}
use Rattle.book.specs.Call.{names}
use Rattle.book.specs.Book.{SetFacts, changed}
use Rattle.book.proofs.Tables.{entry-table}

-- a sum whose members are 0 from n on
sum_to-beyond : (m n : ℕ) {f : ℕ → ℕ} → n ≤ m → ((i : ℕ) → n ≤ i → f i ≡ 0) → sum_to m f ≡ sum_to n f
unfolding sum_to
sum_to-beyond zero n h z =
    let none : n ≡ 0 = omega arith in
    rw none
sum_to-beyond (suc m) n {f} h z =
    ⊎_elim (λ e. rw e) (λ l. let k : n ≤ m = omega arith in omega (arith, sum_to-beyond m n {f = f} k z, z m k)) (eq-or-lt_of_le h)

-- a sum moves by what the members with the property p move, where the others stay
sum_to-move : (n : ℕ) (p : ℕ → Bool) (f g : ℕ → ℕ) → ((i : ℕ) → i < n → p i ≡ false → f i ≡ g i) →
    sum_to n g + sum_to n (λ i. cond (p i) (f i) 0) ≡ sum_to n f + sum_to n (λ i. cond (p i) (g i) 0)
sum_to-move n p f g stay =
    omega (arith, sum_to-split n p f, sum_to-split n p g, sum_to-cong n (λ i l. other i (p i) (stay i l)))
  where
    other : (i : ℕ) (b : Bool) → (b ≡ false → f i ≡ g i) → cond b 0 (f i) ≡ cond b 0 (g i)
    other i true h = refl
    other i false h = h refl

-- row s of two halls has the same entries
pub record SameRow (n : ℕ) (t t' : Tables) (s : ℕ) : Type 0 where
  pub time : (x : ℕ) → x < n → entry n t.time s x ≡ entry n t'.time s x
  pub ways : (x : ℕ) → x < n → entry n t.ways s x ≡ entry n t'.ways s x
  pub share : (x : ℕ) → x < n → entry n t.share s x ≡ entry n t'.share s x

-- which is that it has not changed
module _ (n : ℕ) (t t' : Tables) (s : ℕ) where
  abbrev times : ℕ → Bool
  times x = eqb (entry n t.time s x) (entry n t'.time s x)

  abbrev counts : ℕ → Bool
  counts x = eqb (entry n t.ways s x) (entry n t'.ways s x)

  abbrev shares : ℕ → Bool
  shares x = eqb (entry n t.share s x) (entry n t'.share s x)

  pub row_same : changed n t t' s ≡ false → SameRow n t t' s
  unfolding changed
  row_same e =
      let all : (x : ℕ) → x < n → (times x && (counts x && shares x)) ≡ true = all_true n _ (not-false _ e) in
      let first : (x : ℕ) → x < n → (times x ≡ true) × ((counts x && shares x) ≡ true) = λ x l. (and-eq-true_iff (times x) _).0 (all x l) in
      let then : (x : ℕ) → x < n → (counts x ≡ true) × (shares x ≡ true) = λ x l. (and-eq-true_iff (counts x) _).0 (first x l).1 in
      record { time = λ x l. eqb-true _ _ (first x l).0; ways = λ x l. eqb-true _ _ (then x l).0; share = λ x l. eqb-true _ _ (then x l).1 }

  pub same_row : SameRow n t t' s → changed n t t' s ≡ false
  unfolding changed
  same_row h = ap not (all_of n _ (λ x l. rw (eq-eqb _ _ (h.time x l), eq-eqb _ _ (h.ways x l), eq-eqb _ _ (h.share x l))))

-- a row that stays in each of two steps stays in both together
pub row_stays : (n : ℕ) (t t' t'' : Tables) (s : ℕ) → changed n t t' s ≡ false → changed n t' t'' s ≡ false → changed n t t'' s ≡ false
row_stays n t t' t'' s e e' =
    let h = row_same n t t' s e in
    let h' = row_same n t' t'' s e' in
    same_row n t t'' s (record { time = λ x l. h.time x l ∙ h'.time x l; ways = λ x l. h.ways x l ∙ h'.ways x l; share = λ x l. h.share x l ∙ h'.share x l })

module _ (n : ℕ) (sources : ℕ → Bool) where
  pub member : (s : ℕ) → s < n → has (set_of n sources) s ≡ sources s
  member s hs = has-set_of n sources s ∙ rw (lt-ltb s n hs)

  outside : (s : ℕ) → n ≤ s → has (set_of n sources) s ≡ false
  outside s hs = has-set_of n sources s ∙ rw (le-ltb s n hs)

  over-members : (f : ℕ → ℕ → ℕ) (x : ℕ) → x < n →
      sum_to n (λ s. cond (has (set_of n sources) s) (entry n (table n f) s x) 0) ≡ sum_to n (λ s. cond (sources s) (f s x) 0)
  over-members f x hx = sum_to-cong n (λ s hs. rw (member s hs, entry-table n f s x hs hx))

  -- from the layout of one hall to that of another
  module _ (lay lay' : Layout) (before : ℕ) (few : n ≤ most_stops)
      (rows_stay : (s : ℕ) → s < n → sources s ≡ false → changed n (filled scale most_ways n lay) (filled scale most_ways n lay') s ≡ false) where
    abbrev of : Layout → ℕ → ℕ → ℕ
    of lay s = open_share (costs_in n lay s) n s most_ways scale

    share-stays : (s x : ℕ) → s < n → x < n → sources s ≡ false → of lay s x ≡ of lay' s x
    unfolding filled
    share-stays s x hs hx away =
        sym (entry-table n (of lay) s x hs hx) ∙
        (row_same n (filled scale most_ways n lay) (filled scale most_ways n lay') s (rows_stay s hs away)).share x hx ∙ entry-table n (of lay') s x hs hx

    pub set-facts : SetFacts n sources (filled scale most_ways n lay) (filled scale most_ways n lay') (names n sources before)
    unfolding filled score
    set-facts = record {
      names = λ s. has-set_of n sources s;
      counts = sum_to-cong n (λ s hs. rw (member s hs)) ∙ sym (sum_to-beyond 64 n few (λ s hs. rw (outside s hs)));
      stays = λ s hs away. rows_stay s hs (sym (member s hs) ∙ away);
      moves = λ x hx.
          rw (get_or-list_to n (score (costs_in n lay) n most_ways scale) 0 x hx, get_or-list_to n (score (costs_in n lay') n most_ways scale) 0 x hx, over-members (of lay) x hx, over-members (of lay') x hx)
          (sum_to-move n sources (λ s. of lay s x) (λ s. of lay' s x) (λ s hs away. share-stays s x hs hx away));
    }
