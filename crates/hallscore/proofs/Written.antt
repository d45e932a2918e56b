-- Laws of what is written: the listing of a text's front, a byte longer than the longest text that is read, is that of the text. Assumes nothing.
use Rattle.std.proofs.Common.{ℕ, ◌+◌, ◌≤◌, ◌≡◌, ◌∙◌, sym, ap, List, length, take, drop, Option, None, Some, Result, Ok, Err, arith}
use mathlib.Core.Path.{subst, subst⁻¹}
use mathlib.Core.Logic.{⊎_elim}
use Rattle.std.proofs.lemmas.Bool.{cases_lt}
use lib.Seq.{length-take-le, take_all, take-append_seam}
use borrow.Author.Tests.{le-ltb}
use Rattle.std.specs.Option.{unwrap_or}
use Rattle.std.specs.Prelude.{OnOk, IfSome}
use Rattle.std.specs.Io.KnownBytes.{Appends}
use Rattle.words.specs.Text.{longest, listing}
use Rattle.listing.specs.Promise.{room, wrote}
use Rattle.listing.proofs.Whole.{too_long}

-- a longer text than is read has the listing of its front
listing-front : (text : List ℕ) → listing (take (longest + 1) text) ≡ listing text
listing-front text =
    ⊎_elim
    (λ h. too_long (take (longest + 1) text) (omega (arith, length-take-le (longest + 1) text (omega arith))) ∙ sym (too_long text h))
    (λ h. ap listing (take_all (longest + 1) text (omega arith)))
    (cases_lt longest (length text))

-- an output with room is written, and what is written of it is the listing
pub listed : (input output : List ℕ) (r : Option ℕ) (out : List ℕ) → room ≤ length output → (r, out) ≡ wrote input output → r ≡ Some (length (listing input))
unfolding wrote
listed input output r out h e = ap (λ (x : Option ℕ × List ℕ). x.0) e ∙ rw (le-ltb (length output) room h)

wrote-shown : (input output : List ℕ) (end : ℕ) (out : List ℕ) → room ≤ length output → (Some end, out) ≡ wrote input output → take end out ≡ listing input
unfolding wrote
wrote-shown input output end out h e =
    subst⁻¹ (λ (x : Option ℕ × List ℕ). take (unwrap_or x.0 0) x.1 ≡ listing input) e
    (rw (le-ltb (length output) room h) (take-append_seam (listing input) (drop (length (listing input)) output)))

pub shown : (left : Option (List ℕ)) (n : ℕ) (text output : List ℕ) (end : ℕ) (out : List ℕ) → length text ≡ longest + 1 → room ≤ length output →
    IfSome left (λ xs. take n text ≡ take (length text) xs) → (Some end, out) ≡ wrote (take n text) output → IfSome left (λ xs. take end out ≡ listing xs)
shown None n text output end out long h front e = tt
shown (Some xs) n text output end out long h front e =
    wrote-shown (take n text) output end out h e ∙ ap listing (front ∙ ap (λ (k : ℕ). take k xs) long) ∙ listing-front xs

pub written-listing : {T E : Type 0} (r : Result T E) (left old new : Option (List ℕ)) (written : List ℕ) → IfSome left (λ xs. written ≡ listing xs) →
    OnOk r (Appends old new written) → OnOk r (IfSome left (λ xs. Appends old new (listing xs)))
written-listing (Ok u) None old new written e h = tt
written-listing (Ok u) (Some xs) old new written e h = subst (λ (l : List ℕ). Appends old new l) e h
written-listing (Err u) left old new written e h = tt
