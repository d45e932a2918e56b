-- A row of a table: the list of what a function gives at the stops 0 to n - 1. Assumes nothing.
use Prim.Native.Nat.{ℕ, zero, suc, ◌<◌}
use mathlib.Core.Path.{◌≡◌, refl, sym, ◌∙◌}
use mathlib.Core.List.{List, [], ◌∷◌, ◌++◌}
use native.Mathlib.Nat.{not-suc-le-zero}
use native.Mathlib.Omega.{arith}
use lib.ListN.{length, get_or, length-append, get_or-append}
use lib.Seq.{ext_get_or, get_or_at}
use Rattle.routes.proofs.Sums.{below_suc}
unfoldable pub use Rattle.routes.specs.Route.{list_to}

module _ {A : Type 0} where
  pub length-list_to : (n : ℕ) (f : ℕ → A) → length (list_to n f) ≡ n
  unfolding list_to
  length-list_to zero f = refl
  length-list_to (suc n) f = length-append (list_to n f) (f n ∷ []) ∙ omega (arith, length-list_to n f)

  -- what stands at i in a row
  pub get_or-list_to : (n : ℕ) (f : ℕ → A) (d : A) (i : ℕ) → i < n → get_or (list_to n f) i d ≡ f i
  unfolding list_to
  get_or-list_to zero f d i l = absurd (not-suc-le-zero l)
  get_or-list_to (suc n) f d i l =
      below_suc {P = λ i. get_or (list_to n f ++ (f n ∷ [])) i d ≡ f i} n
      (λ i l. get_or-append (list_to n f) (f n ∷ []) d i (omega (arith, length-list_to n f)) ∙ get_or-list_to n f d i l)
      (get_or_at (list_to n f) (f n) [] d n (length-list_to n f)) i l

  -- a list of n values that stand where f says is that row
  pub list_to-of : (n : ℕ) (f : ℕ → A) (d : A) (l : List A) → length l ≡ n → ((i : ℕ) → i < n → get_or l i d ≡ f i) → l ≡ list_to n f
  list_to-of n f d l e at =
      ext_get_or d l (list_to n f) (e ∙ sym (length-list_to n f)) λ i h.
      let below : i < n = omega arith in
      at i below ∙ sym (get_or-list_to n f d i below)

-- rows of functions that agree
pub list_to-cong : (n : ℕ) {f g : ℕ → ℕ} → ((i : ℕ) → i < n → f i ≡ g i) → list_to n f ≡ list_to n g
list_to-cong n {f} {g} h = list_to-of n g 0 (list_to n f) (length-list_to n f) (λ i l. get_or-list_to n f 0 i l ∙ h i l)
