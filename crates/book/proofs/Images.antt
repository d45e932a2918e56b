-- Images: what is written is an image and is read back, what is read is written again, and two halls do not share an image.
-- Assumes nothing.
use Prim.Native.Nat.{ℕ, zero, suc, ◌+◌, ◌*◌, ◌-◌, ◌/◌, ◌<◌, ◌≤◌}
use mathlib.Core.Path.{◌≡◌, refl, sym, ◌∙◌, ap, ap₂, subst₂}
use mathlib.Core.Logic.{◌≢◌}
use mathlib.Core.Bool.{Bool, true, false, cond, and-eq-true_iff}
use mathlib.Core.List.{List, [], ◌∷◌, ◌++◌, append-nil, append_assoc}
use native.Mathlib.Nat.{add-zero, le_refl, not-suc-le-zero}
use native.Mathlib.Numerals.{add-one}
use native.Mathlib.Decide.{ℕ_discrete, dec_lt}
use native.Mathlib.Omega.{arith}
use lib.Dec.{eqb, leb}
use lib.ListN.{length, drop, length-append, drop_of_length-le}
use borrow.Author.Tests.{ltb-true, ltb-false, leb-true, eqb-true, lt-ltb, le-leb, eq-eqb}
use Rattle.routes.specs.Route.{Costs, sum_to, link}
use Rattle.routes.proofs.Sums.{below_suc, cond-true, sum_to-cong}
use Rattle.book.specs.Hall.{largest_cost, entry, valid_costs, low_first, field, image_of, is_image, costs_of}
use Rattle.book.proofs.Tables.{Valid, valid-costs, costs-valid, length-table, entry-table, table_of}
use Rattle.book.proofs.Bytes.{Bytes, length-low_first, field-behind, written-field, two_fields}
use Rattle.book.specs.Written.{link_record, records_to, links_to, trailer}
use Rattle.book.proofs.Writer.{walk, Place, records-none, records-more, records-row, links-none, links-more, links-row, links-most, length-records, pair-skipped, image-parts}
use Rattle.book.proofs.Records.{both-pass, from, to, cost_at, key, least_key, pick, Links, valid-links, links-valid, fields-append, link-append, pick-append, pick_at, pick_other, rising, sum-at, sum-none, sums-valid, costs_to}

-- the records at the front of l are the links before place k, in order
pub record Listed (n : ℕ) (W : Costs) (l : List ℕ) (c k : ℕ) : Type 0 where
  pub size : length l ≡ 4 * c
  pub links : Links n l c
  pub below : (i : ℕ) → i < c → key l i < k
  pub sums : (s t : ℕ) → s < n → t < n → 256 * s + t < k → sum_to c (pick l s t) ≡ W s t

-- a record put behind c others is read back
record-fields : (l : List ℕ) (c u v x : ℕ) → length l ≡ 4 * c → x ≤ largest_cost →
    (from (l ++ u ∷ v ∷ low_first 2 x) c ≡ u) × (to (l ++ u ∷ v ∷ low_first 2 x) c ≡ v) × (cost_at (l ++ u ∷ v ∷ low_first 2 x) c ≡ x)
unfolding field low_first
record-fields l c u v x e h =
    let new : List ℕ = u ∷ v ∷ low_first 2 x in (
      field-behind 1 l new (4 * c) 0 (omega arith) ∙ omega arith,
      field-behind 1 l new (4 * c + 1) 1 (omega arith) ∙ omega arith,
      field-behind 2 l new (4 * c + 2) 2 (omega arith) ∙ omega arith,
    )

-- what holds of the pairs before (u, v), and of this one, holds of those before the next
next-pair : (Q : ℕ → ℕ → Type 0) (u v s t : ℕ) → v < 256 → t < 256 → 256 * s + t < 256 * u + suc v → (256 * s + t < 256 * u + v → Q s t) → Q u v → Q s t
next-pair Q u v s t a b h before here = elim (dec_lt (256 * s + t) (256 * u + v)) [
  | yes d ↦ before d
  | no d ↦ let row : u ≡ s = omega arith in let column : v ≡ t = omega arith in subst₂ Q row column here
]

module _ (n : ℕ) (W : Costs) (small : n ≤ 64) (valid : Valid n W) where
  -- one more pair
  module _ (l : List ℕ) (c u v : ℕ) (a : u < n) (b : v < n) (h : Listed n W l c (256 * u + v)) where
    no_record : sum_to c (pick l u v) ≡ 0
    no_record = sum-none n l c u v (λ i d e. let f = h.below i d in omega arith)

    listed-link : 0 < W u v → Listed n W (l ++ u ∷ v ∷ low_first 2 (W u v)) (suc c) (256 * u + suc v)
    unfolding sum_to
    listed-link e = record {
      size = length-append l new ∙ omega (arith, h.size, length-low_first 2 (W u v));
      links = below_suc c (λ i d. link-append n l new i (within i d) (h.links i d)) (record {
        starts = omega (arith, here.0);
        ends = omega (arith, here.1);
        apart = λ f. omega (arith, here.0, here.1, valid.own u a, ap (W u) (sym here.0 ∙ f ∙ here.1));
        positive = omega (arith, here.2);
        most = omega (arith, here.2, valid.most u v a b);
        rises = omega (arith, here.0, here.1, least c below);
      });
      below = below_suc c (λ i d. omega (arith, below i d)) (omega (arith, here.0, here.1));
      sums = λ s t d f g. next-pair (λ s t. sum_to c (pick m s t) + pick m s t c ≡ W s t) u v s t (omega arith) (omega arith) g
          (λ k. omega (arith, h.sums s t d f k, before s t, pick_other m s t c (omega (arith, here.0, here.1))))
          (omega (arith, no_record, before u v, here.2, pick_at m u v c here.0 here.1));
    }
      where
        new : List ℕ
        new = u ∷ v ∷ low_first 2 (W u v)

        m : List ℕ
        m = l ++ new

        here : (from m c ≡ u) × (to m c ≡ v) × (cost_at m c ≡ W u v)
        here = record-fields l c u v (W u v) h.size (valid.most u v a b)

        within : (i : ℕ) → i < c → 4 * i + 4 ≤ length l
        within i d = omega (arith, h.size)

        below : (i : ℕ) → i < c → key m i < 256 * u + v
        below i d = let (f, g, k) = fields-append l new i (within i d) in omega (arith, h.below i d)

        least : (c : ℕ) → ((i : ℕ) → i < c → key m i < 256 * u + v) → least_key m c ≤ 256 * u + v
        least zero h = omega arith
        least (suc j) h = h j (omega arith)

        before : (s t : ℕ) → sum_to c (pick m s t) ≡ sum_to c (pick l s t)
        before s t = sum_to-cong c (λ i d. pick-append l new s t i (within i d))

    listed-none : W u v ≡ 0 → Listed n W l c (256 * u + suc v)
    listed-none e = record {
      size = h.size;
      links = h.links;
      below = λ i d. let f = h.below i d in omega arith;
      sums = λ s t d f g. next-pair (λ s t. sum_to c (pick l s t) ≡ W s t) u v s t (omega arith) (omega arith) g (h.sums s t d f) (omega (arith, no_record));
    }

    listed_more : Listed n W (l ++ link_record W u v) (c + cond (link W u v) 1 0) (256 * u + suc v)
    listed_more = go (link W u v) refl
      where
        go : (p : Bool) → link W u v ≡ p → Listed n W (l ++ cond p (u ∷ v ∷ low_first 2 (W u v)) []) (c + cond p 1 0) (256 * u + suc v)
        go true e = rw add-one (listed-link (ltb-true 0 (W u v) e))
        go false e = rw (append-nil, add-zero) (listed-none (omega (arith, ltb-false 0 (W u v) e)))

  pub listed : (u v : ℕ) → Place n u v → Listed n W (records_to n W u v) (links_to n W u v) (256 * u + v)
  listed = walk n {P = λ u v. Place n u v → Listed n W (records_to n W u v) (links_to n W u v) (256 * u + v)}
      (λ p. rw (records-none n W, links-none n W) (record { size = refl; links = λ i d. absurd (not-suc-le-zero d); below = λ i d. absurd (not-suc-le-zero d); sums = λ s t d f g. absurd (omega arith) }))
      (λ u v h p. rw (records-more n W u v, links-more n W u v) (listed_more (records_to n W u v) (links_to n W u v) u v (omega arith) (omega arith) (h (omega arith))))
      (λ u h p. rw (records-row n W u, links-row n W u) (let k = h (omega arith) in record { size = k.size; links = k.links; below = λ i d. let f = k.below i d in omega arith; sums = λ s t d f g. k.sums s t d f (omega arith) }))

-- what an image of c links holds
pub record Image (n : ℕ) (l : List ℕ) (c : ℕ) : Type 0 where
  pub size : length l ≡ 4 * c + 8
  pub stops : field l (4 * c) 1 ≡ n
  pub kind : field l (4 * c + 1) 1 ≡ 1
  pub number : field l (4 * c + 2) 2 ≡ c
  pub distance : field l (4 * c + 4) 4 ≡ 4 * c
  pub links : Links n l c

-- is_image tests exactly that
pub image-true : (n : ℕ) (l : List ℕ) → is_image n l ≡ true → Image n l ((length l - 8) / 4)
unfolding is_image
image-true n l e =
    let at : ℕ = length l - 8 in
    let links : ℕ = field l (at + 2) 2 in
    let (long, e₁) = (and-eq-true_iff (leb 8 (length l)) _).0 e in
    let (stops, e₂) = (and-eq-true_iff (eqb (field l at 1) n) _).0 e₁ in
    let (kind, e₃) = (and-eq-true_iff (eqb (field l (at + 1) 1) 1) _).0 e₂ in
    let (distance, e₄) = (and-eq-true_iff (eqb (field l (at + 4) 4) (4 * links)) _).0 e₃ in
    let (reach, valid) = (and-eq-true_iff (eqb (4 * links) at) _).0 e₄ in
    let c : at / 4 ≡ links = omega (arith, eqb-true (4 * links) at reach) in
    let four : 4 * (at / 4) ≡ at = omega (arith, eqb-true (4 * links) at reach) in
    record {
      size = omega (arith, leb-true 8 (length l) long);
      stops = rw four (eqb-true _ _ stops);
      kind = rw four (eqb-true _ _ kind);
      number = rw four (sym c);
      distance = rw four (eqb-true _ _ distance ∙ eqb-true _ _ reach);
      links = λ i d. valid-links n l links valid i (omega arith);
    }

pub true-image : (n : ℕ) (l : List ℕ) (c : ℕ) → Image n l c → is_image n l ≡ true
unfolding is_image
true-image n l c h =
    let at : length l - 8 ≡ 4 * c = omega (arith, h.size) in
    rw (at, h.number)
    (both-pass (le-leb 8 (length l) (omega (arith, h.size))) (both-pass (eq-eqb _ _ h.stops) (both-pass (eq-eqb _ _ h.kind) (both-pass (eq-eqb _ _ h.distance) (both-pass (eq-eqb (4 * c) (4 * c) refl) (links-valid n l c h.links))))))

-- the cost table of an image is that of all its records
pub costs-image : (n : ℕ) (l : List ℕ) (c : ℕ) → Image n l c → costs_of n l ≡ costs_to n l c
unfolding costs_of
costs-image n l c h = let e : (length l - 8) / 4 ≡ c = omega (arith, h.size) in ap (costs_to n l) e

-- c records that are links, and their trailer, are an image
pub image-made : (n : ℕ) (l : List ℕ) (c : ℕ) → length l ≡ 4 * c → c < 65536 → Links n l c → Image n (l ++ trailer n c) c
unfolding field low_first
image-made n l c size few links = record {
  size = length-append l (trailer n c) ∙ omega arith;
  stops = field-behind 1 l (trailer n c) (4 * c) 0 (omega arith) ∙ omega arith;
  kind = field-behind 1 l (trailer n c) (4 * c + 1) 1 (omega arith) ∙ omega arith;
  number = field-behind 2 l (trailer n c) (4 * c + 2) 2 (omega arith) ∙ omega arith;
  distance = field-behind 4 l (trailer n c) (4 * c + 4) 4 (omega arith) ∙ omega arith;
  links = λ i d. link-append n l (trailer n c) i (omega arith) (links i d);
}

-- a hall's image, written
module _ (n : ℕ) (cost : List ℕ) (small : n ≤ 64) (valid : valid_costs n cost ≡ true) where
  abbrev W : Costs
  W = entry n cost

  abbrev records : List ℕ
  records = records_to n W n 0

  abbrev total : ℕ
  total = links_to n W n 0

  front : Listed n W records total (256 * n + 0)
  front = listed n W small (valid-costs n cost valid) n 0 (omega arith)

  -- a hall's image holds its links
  pub written-image : Image n (image_of n cost) total
  written-image = rw image-parts (image-made n records total front.size (omega (arith, links-most n W small)) front.links)

  -- so it is an image
  pub written_read : is_image n (image_of n cost) ≡ true
  written_read = true-image n (image_of n cost) total written-image

  -- and the costs are read back from it
  pub written-costs : length cost ≡ n * n → costs_of n (image_of n cost) ≡ cost
  written-costs size =
      costs-image n (image_of n cost) total written-image ∙
      sym (table_of n (λ s t. sum_to total (pick (image_of n cost) s t)) cost size (λ s t a b. sym (sums s t a b)))
    where
      sums : (s t : ℕ) → s < n → t < n → sum_to total (pick (image_of n cost) s t) ≡ entry n cost s t
      sums s t a b =
          rw (image-parts n cost)
          (sum_to-cong total (λ i d. pick-append records (trailer n total) s t i (omega (arith, front.size))) ∙ front.sums s t a b (omega arith))

-- after the pairs before (u, v), the first i records of l are written
record Reached (n : ℕ) (W : Costs) (l : List ℕ) (c u v i : ℕ) : Type 0 where
  within : i ≤ c
  written : l ≡ records_to n W u v ++ drop (4 * i) l
  before : (j : ℕ) → j < i → key l j < 256 * u + v
  after : (j : ℕ) → i ≤ j → j < c → 256 * u + v ≤ key l j

-- an image that was read, written again
module _ (n : ℕ) (l : List ℕ) (c : ℕ) (small : n ≤ 64) (bytes : Bytes l) (image : Image n l c) where
  -- record i, byte by byte
  record-bytes : (i : ℕ) → i < c → drop (4 * i) l ≡ from l i ∷ to l i ∷ (low_first 2 (cost_at l i) ++ drop (4 * suc i) l)
  record-bytes i d = two_fields l (4 * i) (omega (arith, image.size)) ∙
      ap (λ m. from l i ∷ to l i ∷ m) (rw end at (written-field 2 l (4 * i + 2) bytes (omega (arith, image.size))))
    where
      end : 4 * i + 2 + 2 ≡ 4 * suc i
      end = omega arith

  trailer-bytes : drop (4 * c) l ≡ trailer n c
  trailer-bytes =
      let middle : 4 * c + 2 + 2 ≡ 4 * c + 4 = omega arith in
      let number : drop (4 * c + 2) l ≡ low_first 2 (field l (4 * c + 2) 2) ++ drop (4 * c + 4) l =
      rw middle at (written-field 2 l (4 * c + 2) bytes (omega (arith, image.size))) in
      let distance = written-field 4 l (4 * c + 4) bytes (omega (arith, image.size)) in
      let end : drop (4 * c + 4 + 4) l ≡ [] = drop_of_length-le l {i = 4 * c + 4 + 4} (omega (arith, image.size)) in
      two_fields l (4 * c) (omega (arith, image.size)) ∙
      rw (image.stops, image.kind, number, distance, end, append-nil, image.number, image.distance)

  module _ (W : Costs) (sums : (s t : ℕ) → s < n → t < n → W s t ≡ sum_to c (pick l s t)) where
    module _ (u v i : ℕ) (a : u < n) (b : v < n) (r : Reached n W l c u v i) where
      -- a pair without a record
      skip : (i < c → key l i ≢ 256 * u + v) → Reached n W l c u (suc v) i
      skip h = record {
        within = r.within;
        written = rw (pair-skipped n W u v none).0 r.written;
        before = λ j d. omega (arith, r.before j d);
        after = λ j d f. omega (arith, later j d f);
      }
        where
          later : (j : ℕ) → i ≤ j → j < c → 256 * u + v < key l j
          later j d f = elim (dec_lt i j) [
            | yes k ↦ omega (arith, rising n l c image.links j i k f, r.after i (le_refl i) (omega arith))
            | no k ↦
                let same : i ≡ j = omega arith in
                let first = h (omega arith) in
                omega (arith, ap (from l) same, ap (to l) same, r.after j d f)
          ]

          absent : (j : ℕ) → j < c → key l j ≢ 256 * u + v
          absent j d e = elim (dec_lt j i) [ yes f ↦ omega (arith, r.before j f) | no f ↦ omega (arith, later j (omega arith) d) ]

          none : W u v ≡ 0
          none = sums u v a b ∙ sum-none n l c u v absent

      -- a pair whose record comes next
      take_next : i < c → key l i ≡ 256 * u + v → Reached n W l c u (suc v) (suc i)
      take_next d e = record {
        within = d;
        written = rw (records-more n W u v, append_assoc) (r.written ∙ ap (λ m. records_to n W u v ++ m) new);
        before = below_suc i (λ j f. omega (arith, r.before j f)) (omega arith);
        after = λ j f g. omega (arith, rising n l c image.links j i f g);
      }
        where
          start : from l i ≡ u
          start = omega (arith, (image.links i d).ends)

          end : to l i ≡ v
          end = omega (arith, (image.links i d).ends)

          cost : cost_at l i ≡ W u v
          cost = sym (sums u v a b ∙ sum-at n l c image.links u v i d start end)

          there : link_record W u v ≡ u ∷ v ∷ low_first 2 (W u v)
          there = cond-true _ _ (lt-ltb 0 (W u v) (omega (arith, cost, (image.links i d).positive)))

          new : drop (4 * i) l ≡ link_record W u v ++ drop (4 * suc i) l
          new = rw there (rw (start, end, cost) at (record-bytes i d))

      step : (i : ℕ) × Reached n W l c u (suc v) i
      step = elim (dec_lt i c) [
        | no d ↦ (i, skip (λ f. absurd (d f)))
        | yes d ↦ elim (ℕ_discrete (key l i) (256 * u + v)) [ yes e ↦ (suc i, take_next d e) | no e ↦ (i, skip (λ f. e)) ]
      ]

    reached : (u v : ℕ) → Place n u v → (i : ℕ) × Reached n W l c u v i
    reached = walk n {P = λ u v. Place n u v → (i : ℕ) × Reached n W l c u v i}
        (λ p. (0, record { within = omega arith; written = rw (records-none n W); before = λ j d. absurd (not-suc-le-zero d); after = λ j d f. omega arith }))
        (λ u v h p. let (i, r) = h (omega arith) in step u v i (omega arith) (omega arith) r)
        (λ u h p. let (i, r) = h (omega arith) in (
          i,
          record {
            within = r.within;
            written = rw (records-row n W u) r.written;
            before = λ j d. let f = r.before j d in omega arith;
            after = λ j d f. let g = r.after j d f in omega (arith, (image.links j f).ends);
          },
        ))

    rewritten : l ≡ records_to n W n 0 ++ trailer n (links_to n W n 0)
    unfolding low_first
    rewritten =
        let (i, r) = reached n 0 (omega arith) in
        let end : i ≡ c = elim (dec_lt i c) [
          | yes d ↦ absurd (omega (arith, r.after i (le_refl i) d, (image.links i d).starts, (image.links i d).ends))
          | no d ↦ omega (arith, r.within)
        ] in
        let whole : l ≡ records_to n W n 0 ++ trailer n c = rw (end, trailer-bytes) at r.written in
        let count : c ≡ links_to n W n 0 = omega (arith, image.size, simp length-append at (ap length whole), length-records n W n 0) in
        rw count at whole

-- what is read is a cost table, with valid costs
pub length-read : (n : ℕ) (l : List ℕ) → length (costs_of n l) ≡ n * n
unfolding costs_of
length-read n l = length-table n _

entry_read : (n : ℕ) (l : List ℕ) (s t : ℕ) → s < n → t < n → entry n (costs_of n l) s t ≡ sum_to ((length l - 8) / 4) (pick l s t)
unfolding costs_of
entry_read n l s t a b = entry-table n (λ s t. sum_to ((length l - 8) / 4) (pick l s t)) s t a b

pub read-valid : (n : ℕ) (l : List ℕ) → is_image n l ≡ true → valid_costs n (costs_of n l) ≡ true
read-valid n l e =
    let valid = sums-valid n l ((length l - 8) / 4) (image-true n l e).links in
    costs-valid n (costs_of n l) (record {
      most = λ s t a b. rw (entry_read n l s t a b) (valid.most s t a b);
      own = λ s a. entry_read n l s s a a ∙ valid.own s a;
    })

-- an image that is read is written again byte by byte
pub read-written : (n : ℕ) (l : List ℕ) → n ≤ 64 → Bytes l → is_image n l ≡ true → image_of n (costs_of n l) ≡ l
read-written n l small bytes e =
    image-parts n (costs_of n l) ∙
    sym (rewritten n l ((length l - 8) / 4) small bytes (image-true n l e) (entry n (costs_of n l)) (entry_read n l))

-- two halls have one image only if they are the same
pub image-once : (n m : ℕ) (cost cost' : List ℕ) → n ≤ 64 → m ≤ 64 → length cost ≡ n * n → length cost' ≡ m * m →
    valid_costs n cost ≡ true → valid_costs m cost' ≡ true → image_of n cost ≡ image_of m cost' → (n ≡ m) × (cost ≡ cost')
image-once n m cost cost' a b c d f g e =
    (stops, sym (written-costs n cost a f c) ∙ ap₂ costs_of stops e ∙ written-costs m cost' b g d)
  where
    l : List ℕ
    l = image_of m cost'

    stops : n ≡ m
    stops = sym (image-true n l (rw e at (written_read n cost a f))).stops ∙ (image-true m l (written_read m cost' b g)).stops
