-- Boolean laws that the other files cite. Assumes nothing.
use mathlib.Core.Path.{◌≡◌, refl, sym, ◌∙◌}
use mathlib.Core.Bool.{Bool, true, false, not, true≢false}
use borrow.Author.Tests.{not-true, not-false}

-- two Booleans are equal where each is true if the other is
pub bool_iff : (a b : Bool) → (a ≡ true → b ≡ true) → (b ≡ true → a ≡ true) → a ≡ b
bool_iff true b f g = sym (f refl)
bool_iff false true f g = g refl
bool_iff false false f g = refl

-- no Boolean is both
pub both : {b : Bool} → b ≡ true → b ≡ false → ⊥
both p q = true≢false (sym p ∙ q)

-- what the answer r of a test says of its definition x, where the code goes on only if it holds
pub failed : {r x : Bool} → r ≡ x → not r ≡ true → x ≡ false
failed {r} e f = sym e ∙ not-true r f

pub held : {r x : Bool} → r ≡ x → not r ≡ false → x ≡ true
held {r} e f = sym e ∙ not-false r f
