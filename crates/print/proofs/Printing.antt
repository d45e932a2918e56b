-- Laws of printing: a text behind another one, the room that it has, and how long a number is. Assumes nothing.
use Prim.Native.Nat.{ℕ, zero, suc, ◌+◌, ◌-◌, ◌/◌, ◌%◌, ◌^◌, ◌<◌, ◌≤◌}
use mathlib.Core.Path.{◌≡◌, refl, ◌∙◌, ap}
use mathlib.Core.Bool.{Bool, true, false, cond}
use mathlib.Core.List.{List, [], ◌∷◌, ◌++◌, append_assoc}
use native.Mathlib.Nat.{pow-suc}
use native.Mathlib.Omega.{arith}
use lib.Dec.{ltb}
use lib.ListN.{length, drop, length-append}
use lib.Seq.{sets, length-sets, sets-eq}
use borrow.Rule.Slice.PartMut.{post_of, put_mid, Post-is}
use borrow.Author.Tests.{ltb-false, lt-ltb, le-ltb}
use Rattle.std.specs.Fmt as Fmt
use Rattle.std.proofs.lemmas.Fmt.{decimal_by_steps}
use Rattle.routes.proofs.Stored.{sets-append}
use Rattle.words.specs.Text.{decimal_to, decimal}
use Rattle.print.specs.declared.Output.{Output}
use Rattle.print.specs.Promise.{Printed, Prints}

-- a text behind another one
pub then : {s t out out' out'' : List ℕ} {at mid end : ℕ} → Printed s at out mid out' → Printed t mid out' end out'' → Printed (s ++ t) at out end out''
then {s} {t} {out} {out'} {out''} {at} {mid} {end} p q = record {
  behind = omega (arith, p.behind, q.behind, length-append s t);
  written = q.written ∙ ap (λ (o : List ℕ). sets o mid t) p.written ∙ ap (λ (k : ℕ). sets (sets out at s) k t) p.behind ∙ sets-append s t out at;
  inside = omega (arith, q.inside, ap length p.written, length-sets out at s);
}

pub then-prints : {s t : List ℕ} {o o' o'' : Output} → Prints s o o' → Prints t o' o'' → Prints (s ++ t) o o''
then-prints p q = record { printed = then p.printed q.printed; same = q.same ∙ p.same }

-- a text copied over as many bytes behind a place
pub copied : (text out : List ℕ) (at : ℕ) → at + length text ≤ length out → put_mid at (at + length text - at) out text ≡ sets out at text
copied text out at h =
    let rest : post_of at (at + length text - at) out ≡ drop (at + length text) out = Post-is at (at + length text) out (omega arith) in
    simp (rest, append_assoc, sets-eq text out at h)

-- room for a text is room for its first part and, once that is printed, for the rest
pub first_fits : (s t : List ℕ) (at room : ℕ) → at + length (s ++ t) ≤ room → at + length s ≤ room
first_fits s t at room h = omega (arith, length-append s t)

pub rest-fits : {s out out' : List ℕ} {at mid : ℕ} (t : List ℕ) → Printed s at out mid out' → at + length (s ++ t) ≤ length out → mid + length t ≤ length out'
rest-fits {s} {out} {out'} {at} t p h = omega (arith, p.behind, ap length p.written, length-sets out at s, length-append s t)

-- a further digit is not needed
more-digits : (k x : ℕ) → x < 10 ^ suc k → decimal_to k x ≡ decimal_to (suc k) x
unfolding decimal_to
more-digits zero x h =
    let small : x < 10 = omega arith in
    let e : x % 10 ≡ x = omega arith in
    rw (e, lt-ltb x 10 small)
more-digits (suc k) x h = ap (λ (l : List ℕ). cond (ltb x 10) ((48 + x) ∷ []) (l ++ ((48 + x % 10) ∷ []))) (more-digits k (x / 10) (omega (arith, pow-suc 10 (suc k))))

pub decimal-small : (x : ℕ) → x < 10 → decimal x ≡ (48 + x) ∷ []
unfolding decimal_to
decimal-small x h = rw (lt-ltb x 10 h)

pub decimal-large : (x : ℕ) → 10 ≤ x → x < 2 ^ 64 → decimal x ≡ decimal (x / 10) ++ ((48 + x % 10) ∷ [])
unfolding decimal_to
decimal-large x l h = rw (le-ltb x 10 l) (ap (λ (l : List ℕ). l ++ ((48 + x % 10) ∷ [])) (more-digits 18 (x / 10) (omega arith)))

-- std's text of a number is the same
pub decimal-std : (x : ℕ) → x < 2 ^ 64 → decimal x ≡ Fmt.decimal x
decimal-std x h =
    decimal_by_steps (λ n ds. n < 2 ^ 64 → decimal n ≡ ds) (λ n l f. decimal-small n l)
    (λ n ds l e f. decimal-large n l f ∙ ap (λ (k : List ℕ). k ++ ((48 + n % 10) ∷ [])) (e (omega arith))) x h h

-- a number below a power of ten has no more digits
digits-below : (j k x : ℕ) → x < 10 ^ suc k → length (decimal_to j x) ≤ suc k
unfolding decimal_to
digits-below zero k x h = omega arith
digits-below (suc j) k x h = go (ltb x 10) refl k h (digits-below j)
  where
    go : (b : Bool) → ltb x 10 ≡ b → (k : ℕ) → x < 10 ^ suc k → ((k x : ℕ) → x < 10 ^ suc k → length (decimal_to j x) ≤ suc k) →
        length (cond b ((48 + x) ∷ []) (decimal_to j (x / 10) ++ ((48 + x % 10) ∷ []))) ≤ suc k
    go true e k h more = omega arith
    go false e zero h more = absurd (omega (arith, ltb-false x 10 e))
    go false e (suc k) h more =
        omega (arith, length-append (decimal_to j (x / 10)) ((48 + x % 10) ∷ []), more k (x / 10) (omega (arith, pow-suc 10 (suc k))))

pub decimal-below : (k x : ℕ) → x < 10 ^ suc k → length (decimal x) ≤ suc k
decimal-below k x h = digits-below 19 k x h

-- what is still to be printed from a place on makes the same whole as another text from another place on
pub record Left (text : List ℕ) (at : ℕ) (out text₀ : List ℕ) (at₀ : ℕ) (out₀ : List ℕ) : Type 0 where
  pub ends : at + length text ≡ at₀ + length text₀
  pub makes : sets out at text ≡ sets out₀ at₀ text₀

pub go_on : {s rest out out' text₀ out₀ : List ℕ} {at end at₀ : ℕ} → Left (s ++ rest) at out text₀ at₀ out₀ → Printed s at out end out' → Left rest end out' text₀ at₀ out₀
go_on {s} {rest} {out} {at} l p = record {
  ends = omega (arith, l.ends, p.behind, length-append s rest);
  makes = rw (p.written, p.behind) (sets-append s rest out at ∙ l.makes);
}

pub last : {text out out' text₀ out₀ : List ℕ} {at end at₀ : ℕ} → Left text at out text₀ at₀ out₀ → Printed text at out end out' → Printed text₀ at₀ out₀ end out'
last {text} {out} {text₀} {out₀} {at} {at₀} l p = record {
  behind = p.behind ∙ l.ends;
  written = p.written ∙ l.makes;
  inside = omega (arith, p.inside, ap length l.makes, length-sets out at text, length-sets out₀ at₀ text₀);
}
