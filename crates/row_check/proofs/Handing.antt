-- What stops hand back: case by case, and for all stops. Assumes nothing.
use Prim.Native.Nat.{ℕ, ◌+◌, ◌*◌, ◌/◌, ◌<◌, ◌≤◌}
use mathlib.Core.Path.{◌≡◌, refl, sym, ◌∙◌, ap, ap₂}
use mathlib.Core.Logic.{◌≢◌}
use mathlib.Core.Bool.{Bool, true, false, cond, ◌||◌, or-true}
use mathlib.Core.List.{List}
use native.Mathlib.Nat.{add-mul-div_left, div-zero, div-one, div-le_self}
use native.Mathlib.Omega.{arith}
use lib.Dec.{eqb, ltb}
use lib.ListN.{length, set, length-set}
use lib.Seq.{get_or-set_same, get_or-set_other}
use borrow.Author.Tests.{eqb-true, eqb-false, eq-eqb, ne_eqb, ltb-true, lt-ltb, le-ltb}
use Rattle.routes.specs.Route.{all_to}
use Rattle.routes.specs.Stored.{Stored}
use Rattle.routes.specs.Equations.{quotient}
use Rattle.routes.proofs.Sums.{cond-true, cond-false, all_true}
use Rattle.routes.proofs.Bits.{split}
use Rattle.row_check.specs.Handed.{Divided, handed_back}
use Rattle.row_check.specs.Tests.{at, single}

-- case by case
module _ (limit scale w x : ℕ) where
  pub handed-none : w ≡ 0 → 0 ≡ handed_back limit scale w x
  unfolding handed_back
  handed-none z = sym (cond-true 0 _ (ap (λ b. b || ltb limit w) (eq-eqb w 0 z)))

  pub handed-crowded : limit < w → 0 ≡ handed_back limit scale w x
  unfolding handed_back
  handed-crowded h = sym (cond-true 0 _ (ap (λ b. eqb w 0 || b) (lt-ltb limit w h) ∙ or-true (eqb w 0)))

  pub handed-some : w ≢ 0 → w ≤ limit → (scale + x) / w ≡ handed_back limit scale w x
  unfolding handed_back
  handed-some z h = sym (cond-false 0 _ (ap₂ ◌||◌ (ne_eqb w 0 z) (le-ltb limit w h)))

  pub handed-one : w ≡ 1 → 0 < limit → scale + x ≡ handed_back limit scale w x
  handed-one e h = sym (div-one (scale + x)) ∙ ap (λ w. (scale + x) / w) (sym e) ∙ handed-some (omega arith) (omega arith)

-- one division gives a stop's quotient and the flow x back to it, where nothing flows to a stop without ways and to a crowded one
pub handed-exact : (limit scale w x : ℕ) → (w ≡ 0 → x ≡ 0) → (limit < w → x ≡ 0) → handed_back limit scale w (w * x) ≡ quotient limit scale w + x
unfolding handed_back
handed-exact limit scale w x none crowded = go (eqb w 0) refl (ltb limit w) refl
  where
    go : (a : Bool) → eqb w 0 ≡ a → (b : Bool) → ltb limit w ≡ b → cond (a || b) 0 ((scale + w * x) / w) ≡ cond b 0 (scale / w) + x
    go true e true f = omega (arith, none (eqb-true w 0 e))
    go true e false f =
        let z = eqb-true w 0 e in
        omega (arith, none z, ap (λ y. scale / y) z, div-zero scale)
    go false e true f = omega (arith, crowded (ltb-true limit w f))
    go false e false f = let some = eqb-false w 0 e in add-mul-div_left scale x (omega arith)

-- nobody hands back more than the scale and his share
pub handed-le : (limit scale w x : ℕ) → handed_back limit scale w x ≤ scale + x
unfolding handed_back
handed-le limit scale w x = go (eqb w 0 || ltb limit w)
  where
    go : (b : Bool) → cond b 0 ((scale + x) / w) ≤ scale + x
    go true = omega arith
    go false = div-le_self (scale + x) w

-- where every stop has one way, nothing is divided
pub single-handed : (n limit scale : ℕ) (ways share : List ℕ) {old psi : List ℕ} → 0 < limit → all_to n (single ways) ≡ true → Stored (λ t. scale + at share t) n old psi
    → Stored (λ t. handed_back limit scale (at ways t) (at share t)) n old psi
single-handed n limit scale ways share some all m = record {
  long = m.long;
  rest = m.rest;
  done = λ t l. m.done t l ∙ handed-one limit scale (at ways t) (at share t) (eqb-true (at ways t) 1 (all_true n (single ways) all t l)) some;
}

-- the source hands nothing back
pub divided-ends : (n s limit scale : ℕ) (ways share : List ℕ) {old psi : List ℕ} → s < n → length old ≡ n → Stored (λ t. handed_back limit scale (at ways t) (at share t)) n old psi
    → Divided n s limit scale ways share (set psi s 0)
divided-ends n s limit scale ways share {old} {psi} l r h = record {
  room = length-set psi s 0 ∙ h.long ∙ r;
  back = λ t k. split (eqb t s)
      (λ e. ap (at (set psi s 0)) (eqb-true t s e) ∙ get_or-set_same psi s 0 0 (omega (arith, h.long)) ∙ sym (cond-true 0 _ e))
      (λ e. get_or-set_other psi s t 0 0 (eqb-false t s e) ∙ h.done t k ∙ sym (cond-false 0 _ e));
}
