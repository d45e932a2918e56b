-- The steps of an image's writer. Assumes nothing.
use Rattle.std.specs.Prelude.{Err, Ok}
use Prim.Native.Nat.{ℕ, zero, suc, ◌+◌, ◌*◌, ◌<◌, ◌≤◌}
use mathlib.Core.Path.{◌≡◌, refl, sym, ◌∙◌}
use mathlib.Core.List.{List, ◌++◌}
use native.Mathlib.Nat.{add-zero, zero-mul, suc-mul}
use native.Mathlib.Numerals.{add-one}
use native.Mathlib.Omega.{arith}
use lib.ListN.{length, get_or, drop}
use lib.Seq.{sets}
use Rattle.routes.specs.Route.{sum_to}
use Rattle.book.specs.Hall.{entry, image_of}
use Rattle.book.specs.Contract.{of_write, stored}
use Rattle.book.proofs.Buffers.{stored_short, stored-whole}
use Rattle.book.specs.declared.Refusal.TheVariants.{ShortBuffer}
use Rattle.book.proofs.Bytes.{stored as put}
use Rattle.book.specs.Written.{link_record, records_to, links_to, trailer}
use Rattle.book.proofs.Writer.{records-none, records-more, records-row, links-more, links-row, links-grow, length-record, length-records, length-image, trailer-stored}
use Rattle.images.specs.Promise.{link_bit, link_bytes, links, Wrote}

-- a sum in two parts, and in rows
sum_to-append : (a b : ℕ) (f : ℕ → ℕ) → sum_to (a + b) f ≡ sum_to a f + sum_to b (λ i. f (a + i))
unfolding sum_to
sum_to-append a zero f = rw add-zero (omega arith)
sum_to-append a (suc b) f = let e : a + suc b ≡ suc (a + b) = omega arith in rw e (omega (arith, sum_to-append a b f))

sum_to-rows : (m n : ℕ) (f : ℕ → ℕ) → sum_to (m * n) f ≡ sum_to m (λ s. sum_to n (λ t. f (s * n + t)))
unfolding sum_to
sum_to-rows zero n f = rw zero-mul
sum_to-rows (suc m) n f = rw suc-mul (omega (arith, sum_to-append (m * n) n f, sum_to-rows m n f))

-- the links of a cost table are those that the writer counts
pub links-all : (n : ℕ) (cost : List ℕ) → length cost ≡ n * n → links cost ≡ links_to n (entry n cost) n 0
unfolding links_to sum_to
links-all n cost e = rw e (sum_to-rows n n (λ i. link_bit (get_or cost i 0)) ∙ omega arith)

module _ (n : ℕ) (cost : List ℕ) where
  -- nothing written yet
  pub wrote_none : (u v at : ℕ) (b : List ℕ) → at ≡ 4 * links_to n (entry n cost) u v → Wrote n cost u v at u v at b b
  wrote_none u v at b e = record { place = e; bytes = λ old l f. f }

  -- and on
  pub wrote_on : {u v at u₁ v₁ at₁ u₂ v₂ at₂ : ℕ} {a b c : List ℕ} → length b ≡ length a → Wrote n cost u v at u₁ v₁ at₁ a b → Wrote n cost u₁ v₁ at₁ u₂ v₂ at₂ b c →
      Wrote n cost u v at u₂ v₂ at₂ a c
  wrote_on e h k = record { place = k.place; bytes = λ old l f. k.bytes old (l ∙ sym e) (h.bytes old l f) }

  -- the next row begins where one ends
  pub wrote-row : (u at : ℕ) (b : List ℕ) → at ≡ 4 * links_to n (entry n cost) u n → Wrote n cost u n at (u + 1) 0 at b b
  wrote-row u at b e =
      rw add-one (record {
        place = rw (links-row n (entry n cost) u) e;
        bytes = λ old l f. rw (records-row n (entry n cost) u) f;
      })

  module _ (u v at : ℕ) (e : at ≡ 4 * links_to n (entry n cost) u v) where
    -- its record has room
    pub pair_fits : (room : ℕ) → 4 * links_to n (entry n cost) n 0 ≤ room → u < n → v < n → at + 4 * link_bit (entry n cost u v) ≤ room
    pair_fits room h k l = omega (arith, links-more n (entry n cost) u v, links-grow n (entry n cost) u (suc v) k l)

    -- one more pair
    pub wrote-pair : {r x : ℕ} {b b' : List ℕ} → x ≡ entry n cost u v → at + 4 * link_bit x ≤ length b → r ≡ at + 4 * link_bit x →
        b' ≡ sets b at (link_bytes u v x) → Wrote n cost u v at u (v + 1) r b b'
    wrote-pair {r} {x} {b} {b'} same h f g = rw (add-one, f, g, same) (record {
      place = omega (arith, links-more n W u v);
      bytes = λ old l k. rw (records-more n W u v, k) (new old l (rw same at h));
    })
      where
        W : ℕ → ℕ → ℕ
        W = entry n cost

        new : (old : List ℕ) → length old ≡ length b → at + 4 * link_bit (W u v) ≤ length b →
            sets (records_to n W u v ++ drop at old) at (link_record W u v) ≡ (records_to n W u v ++ link_record W u v) ++ drop (at + 4 * link_bit (W u v)) old
        new old l h =
            let size : length (link_record W u v) ≡ 4 * link_bit (W u v) = length-record n W u v in
            rw size at (put (link_record W u v) (records_to n W u v) old at (omega (arith, length-records n W u v)) (omega arith))

  module _ (c : ℕ) (square : length cost ≡ n * n) (count : c ≡ links cost) where
    image-size : length (image_of n cost) ≡ 4 * c + 8
    image-size = omega (arith, length-image n cost, links-all n cost square)

    -- too short a buffer
    pub store-short : (b : List ℕ) → length b < 4 * c + 8 → of_write (Err ShortBuffer) b ≡ stored (image_of n cost) b
    store-short b h = stored_short (image_of n cost) (4 * c + 8) image-size b h

    -- all records, and the trailer behind them
    pub store-whole : {at : ℕ} {b rows all : List ℕ} → 4 * c + 8 ≤ length b → Wrote n cost 0 0 0 n 0 at b rows →
        all ≡ sets rows at (trailer n c) → of_write (Ok (4 * c + 8)) all ≡ stored (image_of n cost) b
    store-whole {at} {b} {rows} {all} h w f =
        let none : b ≡ records_to n (entry n cost) 0 0 ++ drop 0 b = rw (records-none n (entry n cost)) in
        let total : c ≡ links_to n (entry n cost) n 0 = count ∙ links-all n cost square in
        let place : at ≡ 4 * c = omega (arith, w.place) in
        let end : at + 8 ≡ 4 * c + 8 = omega arith in
        stored-whole (image_of n cost) (4 * c + 8) image-size b h
        (f ∙ rw (w.bytes b refl none) (rw end at (trailer-stored n cost b c at total place (omega arith))))
