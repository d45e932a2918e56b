-- Laws of the whole: what stands in the lent output is the listing, by cases of the text's length and first line. Assumes nothing.
use Prim.Native.Nat.{ℕ, ◌+◌, ◌<◌, ◌≤◌}
use mathlib.Core.Path.{◌≡◌, sym, ◌∙◌, ap, subst⁻¹}
use mathlib.Core.Bool.{Bool, true, false, false≢true, cond}
use mathlib.Core.List.{List, [], ◌∷◌, ◌++◌}
use native.Mathlib.Omega.{arith}
use lib.Dec.{ltb}
use denote.Ref.{Bor}
use Rattle.std.specs.Option.{MatchOption, is_some, unwrap_or}
use Rattle.std.specs.Prelude.{Option, Some, None}
use lib.ListN.{length, drop, length-append}
use lib.Seq.{sets-eq}
use borrow.Author.Tests.{le-ltb, lt-ltb}
use Rattle.book.specs.Hall.{most_stops, up_to}
use Rattle.words.specs.Text.{longest, bytes, lines, words, hall_word, stops_of, hall_line, report, of_lines, listing, empty_book}
use Rattle.print.specs.Promise.{Printed}
use Rattle.listing.specs.Promise.{room, size, wrote}

pub wrote_none : (input output : List ℕ) → length output < room → (None, output) ≡ wrote input output
unfolding wrote
wrote_none input output h = rw (lt-ltb (length output) room h)

pub wrote-printed : (input output : List ℕ) (end : ℕ) (out left : List ℕ) → room ≤ length output → Printed (listing input) 0 output end out → left ≡ out →
    (Some end, left) ≡ wrote input output
unfolding wrote
wrote-printed input output end out left h p same =
    let text : List ℕ = listing input in
    let zero : 0 + length text ≡ length text = omega arith in
    let whole : out ≡ text ++ drop (length text) output = p.written ∙ sets-eq text output 0 (omega (arith, p.behind, p.inside)) ∙ ap (λ (k : ℕ). text ++ drop k output) zero in
    rw (same, le-ltb (length output) room h, p.behind, zero, whole)

pub too_long : (input : List ℕ) → longest < length input → listing input ≡ bytes "too long\n"
unfolding listing
too_long input h = rw (lt-ltb longest (length input) h)

-- a text that is not too long
pub by-lines : (input : List ℕ) → length input ≤ longest → listing input ≡ of_lines (lines input)
unfolding listing
by-lines input short = rw (le-ltb longest (length input) short)

-- its first line, if it has one, and what that asks for: a hall, and then the lines behind it are fewer, or none
pub some-hall : (first : Option (Bor (List ℕ))) (stops : Option ℕ) (all rest : List (List ℕ)) (n : ℕ) → MatchOption first ((all ≡ []) × (rest ≡ [])) (λ x. all ≡ x.now ∷ rest) →
    MatchOption first (stops ≡ None) (λ x. stops ≡ hall_word (words x.now)) → stops ≡ Some n → up_to most_stops n ≡ true →
    (size rest < size all) × (of_lines all ≡ hall_line n ++ report 2 (empty_book n) rest)
unfolding of_lines size
some-hall None stops all rest n cut read e takes = absurd (false≢true (ap is_some (sym read ∙ e)))
some-hall (Some x) stops all rest n cut read e takes = rw cut (omega arith, rw (sym read ∙ e, takes))

pub no-hall : (first : Option (Bor (List ℕ))) (stops : Option ℕ) (all rest : List (List ℕ)) → MatchOption first ((all ≡ []) × (rest ≡ [])) (λ x. all ≡ x.now ∷ rest) →
    MatchOption first (stops ≡ None) (λ x. stops ≡ hall_word (words x.now)) → up_to most_stops (stops_of stops) ≡ false → of_lines all ≡ bytes "no hall\n"
unfolding of_lines
no-hall None stops all rest cut read e = rw cut.0
no-hall (Some x) stops all rest cut read e = rw (cut, sym read, e)

-- the length that is answered lies within the output
pub wrote-within : (input output : List ℕ) (length' : ℕ) (out : List ℕ) → (Some length', out) ≡ wrote input output → length' ≤ length out
unfolding wrote
wrote-within input output length' out e = subst⁻¹ (λ (x : Option ℕ × List ℕ). unwrap_or x.0 0 ≤ length x.1) e (go (ltb (length output) room))
  where
    text : List ℕ
    text = listing input

    go : (b : Bool) →
        let x : Option ℕ × List ℕ = cond b (None, output) (Some (length text), text ++ drop (length text) output) in
        unwrap_or x.0 0 ≤ length x.1
    go true = omega arith
    go false = omega (arith, length-append text (drop (length text) output))
