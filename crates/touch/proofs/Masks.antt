-- The set of sources and the masks of links as the code of an edit makes them. Assumes nothing.
use Prim.Native.Nat.{ℕ, ◌+◌, ◌^◌, ◌<◌, ◌≤◌}
use mathlib.Core.Path.{◌≡◌, refl, sym, ◌∙◌, ap}
use mathlib.Core.Bool.{Bool, true, false, ◌&&◌, ◌||◌, and-true, or-true, or-false}
use mathlib.Core.List.{List}
use native.Mathlib.Nat.{one-mul}
use native.Mathlib.Numerals.{add-one}
use native.Mathlib.Omega.{arith}
use lib.Bits.{bit_or, or_shifted_r}
use lib.Dec.{eqb, ltb}
use lib.ListN.{get_or, set, length-set}
use lib.Seq.{get_or-set_same, get_or-set_other}
use borrow.Author.Tests.{eqb-true, eqb-false, eq-eqb, lt-ltb}
use Rattle.routes.specs.Route.{sum_to, set_of, has}
use Rattle.routes.proofs.Bits.{has-or, has-pow, set_of-lt}
use Rattle.links.specs.Promise.{AllLinks, UsefulLinks}
use Rattle.book.specs.Hall.{entry}
use Rattle.touch.specs.Promise.{one_link, Chosen}

-- one more source in a set, or not
module _ (n set : ℕ) (p : ℕ → Bool) (e : set ≡ set_of n p) where
  pub set-with : p n ≡ true → bit_or set (2 ^ n) ≡ set_of (n + 1) p
  unfolding set_of sum_to
  set-with m = rw (add-one, m, e) (ap (bit_or (set_of n p)) (sym (one-mul (2 ^ n))) ∙ or_shifted_r 1 n (set_of n p) (set_of-lt n p) ∙ omega arith)

  pub set-without : p n ≡ false → set ≡ set_of (n + 1) p
  unfolding set_of sum_to
  set-without m = rw (add-one, m) (omega arith)

-- where all are chosen, the masks are those of all links
module _ (n : ℕ) (links : ℕ → ℕ → Bool) (cost time out : List ℕ) where
  pub all-chosen : Chosen n links true cost time out → AllLinks n cost out
  all-chosen c = record { long = c.long; bit = λ x y. c.bit x y ∙ simp and-true }

-- the masks of the useful links with one more
module _ (n u v : ℕ) (cost time out : List ℕ) where
  pub chosen-useful : n ≤ 64 → u < n → v < n → 0 < entry n cost u v → UsefulLinks n cost time out →
      Chosen n (one_link u v) false cost time (set out u (bit_or (get_or out u 0) (2 ^ v)))
  chosen-useful m k l some a = record { long = length-set out u _ ∙ a.long; bit = λ x y. bit x y (eqb x u) refl (eqb y v) refl }
    where
      added : ℕ
      added = bit_or (get_or out u 0) (2 ^ v)

      here : (y : ℕ) → has (get_or (set out u added) u 0) y ≡ (has (get_or out u 0) y || eqb y v)
      here y =
          rw (get_or-set_same out u added 0 (omega (arith, a.long)))
          (has-or (get_or out u 0) _ y ∙ ap (λ b. has (get_or out u 0) y || b) (has-pow v y))

      bit : (x y : ℕ) (p : Bool) → eqb x u ≡ p → (q : Bool) → eqb y v ≡ q →
          has (get_or (set out u added) x 0) y ≡ (ltb x n && (ltb y n && (ltb 0 (entry n cost x y) && (eqb (entry n cost x y) (entry n time x y) || (p && q)))))
      bit x y true e true f =
          rw (eqb-true x u e, eqb-true y v f)
          (here v ∙ rw (eq-eqb v v refl, lt-ltb u n k, lt-ltb v n l, lt-ltb 0 (entry n cost u v) some) (simp or-true))
      bit x y true e false f = rw (eqb-true x u e) (here y ∙ simp (f, or-false) (a.bit u y))
      bit x y false e q f = rw (get_or-set_other out u x added 0 (eqb-false x u e)) (simp or-false (a.bit x y))
