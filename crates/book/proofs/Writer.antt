-- The writer of an image: the records and the number of links of the pairs that it has passed, what one more pair stores, and
-- the length and the bytes of the whole. Assumes nothing.
use Prim.Native.Nat.{ℕ, zero, suc, ◌+◌, ◌*◌, ◌/◌, ◌<◌, ◌≤◌}
use mathlib.Core.Path.{◌≡◌, refl}
use mathlib.Core.Bool.{Bool, true, false, cond}
use mathlib.Core.List.{List, [], ◌∷◌, ◌++◌, append-nil, append_assoc}
use native.Mathlib.Nat.{mul-one, le_refl, le_of_eq, mul-le-mul}
use native.Mathlib.Omega.{arith}
use lib.ListN.{length, drop, length-append}
use lib.Seq.{sets}
use borrow.Author.Tests.{le-ltb}
use Rattle.routes.specs.Route.{Costs, sum_to, join_to, link}
use Rattle.routes.proofs.Sums.{below_suc, sum_to-bound}
use Rattle.book.specs.Hall.{entry, low_first, image_of}
use Rattle.book.specs.Written.{link_record, records_to, links_to, trailer}
use Rattle.book.proofs.Bytes.{stored}

-- a longer sum is no smaller
sum_to-grows : (f : ℕ → ℕ) (n m : ℕ) → m ≤ n → sum_to m f ≤ sum_to n f
unfolding sum_to
sum_to-grows f zero m h = let e : m ≡ 0 = omega arith in rw e (le_refl 0)
sum_to-grows f (suc n) m h =
    below_suc {P = λ m. sum_to m f ≤ sum_to n f + f n} (suc n) (λ i b. omega (arith, sum_to-grows f n i (omega arith))) (le_refl _) m (omega arith)

-- the walk over all pairs in order: what holds at the start, after one more pair and at the next row holds everywhere
pub walk : (n : ℕ) {P : ℕ → ℕ → Type 0} → P 0 0 → ((u v : ℕ) → P u v → P u (suc v)) → ((u : ℕ) → P u n → P (suc u) 0) → (u v : ℕ) → P u v
walk n {P} start more row zero v = along v
  where
    along : (v : ℕ) → P 0 v
    along zero = start
    along (suc v) = more 0 v (along v)
walk n {P} start more row (suc u) v = along (walk n start more row u n) v
  where
    along : P u n → (v : ℕ) → P (suc u) v
    along h zero = row u h
    along h (suc v) = more (suc u) v (along h v)

-- u and v are a place of the walk over the pairs of n stops, its end (n, 0) included
abbrev pub Place : ℕ → ℕ → ℕ → Type 0
Place n u v = (256 * u + v ≤ 256 * n) × (v ≤ n)

module _ (n : ℕ) (W : Costs) where
  -- the walk over all pairs in order: none, one more, the next row
  pub records-none : records_to n W 0 0 ≡ []
  unfolding records_to join_to
  records-none = refl

  pub records-more : (u v : ℕ) → records_to n W u (suc v) ≡ records_to n W u v ++ link_record W u v
  unfolding records_to join_to
  records-more u v = simp append_assoc

  pub records-row : (u : ℕ) → records_to n W (suc u) 0 ≡ records_to n W u n
  unfolding records_to join_to
  records-row u = append-nil _

  pub links-none : links_to n W 0 0 ≡ 0
  unfolding links_to sum_to
  links-none = refl

  pub links-more : (u v : ℕ) → links_to n W u (suc v) ≡ links_to n W u v + cond (link W u v) 1 0
  unfolding links_to sum_to
  links-more u v = omega arith

  pub links-row : (u : ℕ) → links_to n W (suc u) 0 ≡ links_to n W u n
  unfolding links_to sum_to
  links-row u = omega arith

  -- no more links before a pair than in all
  pub links-grow : (u v : ℕ) → u < n → v ≤ n → links_to n W u v ≤ links_to n W n 0
  unfolding links_to sum_to
  links-grow u v a b =
      omega (arith, sum_to-grows (λ v. cond (link W u v) 1 0) n v b, sum_to-grows (λ u. sum_to n (λ v. cond (link W u v) 1 0)) n (suc u) a)

  -- at most 64 times 64 links
  pub links-most : n ≤ 64 → links_to n W n 0 ≤ 4096
  unfolding links_to sum_to
  links-most small =
      let rows : sum_to n (λ u. sum_to n (λ v. cond (link W u v) 1 0)) ≤ n * (n * 1) = sum_to-bound n (n * 1) (λ u a. sum_to-bound n 1 (λ v b. bit (link W u v))) in
      omega (arith, mul-le-mul small (le_of_eq (mul-one n)), mul-le-mul small small)
    where
      bit : (b : Bool) → cond b 1 0 ≤ 1
      bit true = omega arith
      bit false = omega arith

  -- a record has four bytes
  pub length-record : (u v : ℕ) → length (link_record W u v) ≡ 4 * cond (link W u v) 1 0
  unfolding low_first
  length-record u v = go (link W u v)
    where
      go : (b : Bool) → length (cond b (u ∷ v ∷ low_first 2 (W u v)) []) ≡ 4 * cond b 1 0
      go true = refl
      go false = refl

  -- so four times as many bytes as links are written
  pub length-records : (u v : ℕ) → length (records_to n W u v) ≡ 4 * links_to n W u v
  length-records = walk n
      (rw (records-none, links-none))
      (λ u v h. rw (records-more u v, links-more u v) (simp length-append (omega (arith, h, length-record u v))))
      (λ u h. rw (records-row u, links-row u) h)

  -- a writer's turn at a pair without a link
  pub pair-skipped : (u v : ℕ) → W u v ≡ 0 → (records_to n W u (suc v) ≡ records_to n W u v) × (links_to n W u (suc v) ≡ links_to n W u v)
  pair-skipped u v e =
      let none : link W u v ≡ false = le-ltb 0 (W u v) (omega arith) in
      (rw (records-more u v, none) (append-nil _), rw (links-more u v, none) (omega arith))

-- the image: all records and the trailer
pub image-parts : (n : ℕ) (cost : List ℕ) → image_of n cost ≡ records_to n (entry n cost) n 0 ++ trailer n (links_to n (entry n cost) n 0)
unfolding image_of records_to join_to
image-parts n cost =
    let records : List ℕ = join_to n (λ u. join_to n (link_record (entry n cost) u)) in
    let size : length records ≡ 4 * links_to n (entry n cost) n 0 = rw append-nil at (length-records n (entry n cost) n 0) in
    let four : length records / 4 ≡ links_to n (entry n cost) n 0 = omega arith in
    rw (four, size, append-nil)

-- the length of an image
pub length-image : (n : ℕ) (cost : List ℕ) → length (image_of n cost) ≡ 4 * links_to n (entry n cost) n 0 + 8
unfolding low_first
length-image n cost = rw image-parts (simp length-append (omega (arith, length-records n (entry n cost) n 0)))

-- the trailer, stored behind all records
pub trailer-stored : (n : ℕ) (cost b : List ℕ) (c at : ℕ) → c ≡ links_to n (entry n cost) n 0 → at ≡ 4 * c → at + 8 ≤ length b →
    sets (records_to n (entry n cost) n 0 ++ drop at b) at (trailer n c) ≡ image_of n cost ++ drop (at + 8) b
unfolding low_first
trailer-stored n cost b c at e f h =
    let W : Costs = entry n cost in
    let size : length (records_to n W n 0) ≡ at = omega (arith, length-records n W n 0) in
    rw (image-parts, ← e) (stored (trailer n c) (records_to n W n 0) b at size h)
