-- Sums of shares, source by source. Assumes nothing.
use Prim.Native.Nat.{ℕ, ◌+◌, ◌-◌, ◌*◌, ◌^◌, ◌<◌, ◌≤◌}
use mathlib.Core.Path.{◌≡◌, sym, ◌∙◌, ap, ap₂}
use mathlib.Core.List.{List, ◌++◌}
use native.Mathlib.Nat.{mul-le-mul_right}
use native.Mathlib.Numerals.{add-one}
use native.Mathlib.Omega.{arith}
use lib.ListN.{length, get_or, take, drop, replicate, length-drop, length-replicate, get_or-replicate}
use lib.Seq.{length-take-le, get_or-take, get_or-drop, drop_at}
use Rattle.std.specs.List.{slice_range}
use Rattle.routes.specs.Route.{sum_to, list_to}
use Rattle.routes.proofs.Sums.{sum_to-bound}
use Rattle.routes.proofs.Rows.{list_to-of, list_to-cong}
use Rattle.book.specs.Hall.{entry}
use Rattle.cells.specs.Promise.{Starts, Shares, summed}
use Rattle.routes.proofs.Stored.{front_at, front_rest, front-whole}

-- the row that begins at r has an entry for each stop
row-long : (n s r : ℕ) (table : List ℕ) → Starts n s r → length table ≡ n * n → length (slice_range table r (r + n)) ≡ n
row-long n s r table st w = length-take-le (r + n - r) (drop r table) (omega (arith, st.ends, w, length-drop r table)) ∙ omega arith

row_at : (n s r : ℕ) (table : List ℕ) → Starts n s r → (v : ℕ) → v < n → get_or (slice_range table r (r + n)) v 0 ≡ entry n table s v
row_at n s r table st v h = get_or-take (r + n - r) (drop r table) v 0 (omega arith) ∙ get_or-drop r table v 0 ∙ ap (λ k. get_or table (k + v) 0) st.place

module _ (n : ℕ) (share : List ℕ) where
  abbrev sums : ℕ → ℕ → ℕ
  sums k v = sum_to k (λ s. entry n share s v)

  -- no source yet: the first sums were set to 0
  pub summed-none : (old : List ℕ) {front : List ℕ} → n ≤ length old → front ≡ replicate (length (take n old)) 0 → front ++ drop n old ≡ summed n 0 share (front ++ drop n old)
  unfolding sum_to
  summed-none old {front} h e =
      let wide : length front ≡ n = ap length e ∙ length-replicate (length (take n old)) 0 ∙ length-take-le n old h in
      let zero : (v : ℕ) → v < n → get_or front v 0 ≡ 0 = λ v l. ap (λ l. get_or l v 0) e ∙ get_or-replicate (length (take n old)) v 0 0 (omega (arith, length-take-le n old h)) in
      ap₂ ◌++◌ (list_to-of n (sums 0) 0 front wide zero) (sym (drop_at front (drop n old) n wide))

  -- the sum of a stop
  pub summed_at : (k : ℕ) (old : List ℕ) {sum : List ℕ} → sum ≡ summed n k share old → (v : ℕ) → v < n → get_or sum v 0 ≡ sum_to k (λ s. entry n share s v)
  summed_at k old e v h = ap (λ l. get_or l v 0) e ∙ front_at (sums k) n v (drop n old) h

  -- one more source, whose row begins at r
  pub summed-more : (k r : ℕ) (old : List ℕ) {sum sum' : List ℕ} → Starts n k r → length share ≡ n * n → sum ≡ summed n k share old
      → (let row = slice_range share r (r + n) in sum' ≡ list_to (length row) (λ v. get_or sum v 0 + get_or row v 0) ++ drop (length row) sum) → sum' ≡ summed n (k + 1) share old
  unfolding sum_to
  summed-more k r old {sum} {sum'} st w e d =
      let row = slice_range share r (r + n) in
      let f : sum' ≡ list_to n (λ v. get_or sum v 0 + get_or row v 0) ++ drop n sum = d ∙ ap (λ m. list_to m (λ v. get_or sum v 0 + get_or row v 0) ++ drop m sum) (row-long n k r share st w) in
      f ∙ ap₂ ◌++◌
      (list_to-cong n (λ v h. ap₂ ◌+◌ (summed_at k old e v h) (row_at n k r share st v h) ∙ sym (ap (λ j. sums j v) (add-one k))))
      (front_rest (sums k) n old e)

  -- the sums alone where the list has no more entries
  pub summed-whole : (old : List ℕ) → length old ≡ n → summed n n share old ≡ list_to n (λ v. sum_to n (λ s. entry n share s v))
  summed-whole old e = front-whole n (list_to n (sums n)) old e

  -- a sum and one more share fit 64 bits
  pub summed-fits : (k r : ℕ) (old : List ℕ) {sum : List ℕ} → k < n → Starts n k r → Shares n share → sum ≡ summed n k share old
      → (v : ℕ) → v < length (slice_range share r (r + n)) → get_or sum v 0 + get_or (slice_range share r (r + n)) v 0 < 2 ^ 64
  summed-fits k r old l st sh e v h =
      let b : v < n = omega (arith, row-long n k r share st sh.square) in
      omega (arith, row_at n k r share st v b, summed_at k old e v b, sh.most, sh.small k v l b, sum_to-bound k (2 ^ 38) {f = λ y. entry n share y v} (λ y m. omega (arith, sh.small y v (omega arith) b)), mul-le-mul_right {m = k} {n = 64} (2 ^ 38) (omega (arith, sh.most)))
