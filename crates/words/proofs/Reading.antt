-- Laws of reading a text from the front: its first line or word ends where its first line feed or space stands, and a word's digits
-- are read one by one. Assumes nothing.
use Prim.Native.Nat.{ℕ, suc, ◌+◌, ◌*◌, ◌-◌, ◌<◌, ◌≤◌, min}
use mathlib.Core.Path.{◌≡◌, refl, sym, ◌∙◌, ap, subst}
use mathlib.Core.Bool.{Bool, true, false, cond, ◌&&◌}
use mathlib.Core.List.{List, [], ◌∷◌, ◌++◌}
use mathlib.Core.Logic.{⊎_elim}
use native.Mathlib.Nat.{eq-or-lt_of_le, le_of_eq}
use native.Mathlib.Numerals.{add-one}
use native.Mathlib.Omega.{arith}
use lib.Dec.{eqb, leb}
use lib.ListN.{length, get_or, take, drop, length-drop, drop_of_length-le}
use lib.Seq.{drop-cons, drop-drop, take_all}
use Rattle.std.specs.Bool.{then_some}
use Rattle.std.specs.List.{All, slice_split, onto_first, IsFirstMatchOrLen}
use Rattle.std.specs.Option.{option_or}
use Rattle.std.specs.Bool.{MatchBool}
use Rattle.std.specs.Fn.{CalledAt, ComputesKey}
use denote.Param.Members.{Mut}
use denote.Ref.{Bor}
use Rattle.std.proofs.lemmas.List.{drop_min}
use Rattle.std.proofs.lemmas.Grind.{common_steps}
use Rattle.std.proofs.lemmas.Fn.{always_returns_same}
use Rattle.std.proofs.lemmas.List.Splits.{slice_split_none, slice_split_at}
use Rattle.std.specs.Prelude.{Option, Some, None}
use Rattle.std.specs.Cmp.Lexicographic.{pointwise}
use Rattle.routes.specs.Route.{same}
use Rattle.words.specs.Scan.{index_of}
use Rattle.words.specs.Text.{before, parts, lines, words, digits, value_from}

-- the test that two words are the same is that of std's `==`
pub same-pointwise : (a b : List ℕ) → same a b ≡ pointwise eqb a b
unfolding same
same-pointwise [] [] = refl
same-pointwise [] (y ∷ b) = refl
same-pointwise (x ∷ a) [] = refl
same-pointwise (x ∷ a) (y ∷ b) = ap (λ (t : Bool). eqb x y && t) (same-pointwise a b)

pub some-then : {A : Type 0} (b : Bool) (x : A) → then_some b x ≡ cond b (Some x) None
some-then true x = refl
some-then false x = refl

-- a kind, or else one of the others
pub or-cond : {A : Type 0} (b : Bool) (x : A) (y z : Option A) → option_or (cond b (Some x) y) z ≡ cond b (Some x) (option_or y z)
or-cond true x y z = refl
or-cond false x y z = refl

module _ (d : ℕ) where
  pub index-none : index_of d [] ≡ 0
  unfolding index_of
  index-none = refl

  -- the place of the first byte d: here, or as far on as in the rest
  pub index-here : (x : ℕ) (text : List ℕ) → eqb x d ≡ true → index_of d (x ∷ text) ≡ 0
  unfolding index_of
  index-here x text e = rw e

  pub index-next : (x : ℕ) (text : List ℕ) → eqb x d ≡ false → index_of d (x ∷ text) ≡ suc (index_of d text)
  unfolding index_of
  index-next x text e = rw e (omega arith)

  pub index-within : (text : List ℕ) → index_of d text ≤ length text
  unfolding index_of
  index-within [] = omega arith
  index-within (x ∷ text) = go (eqb x d) refl (index-within text)
    where
      go : (b : Bool) → eqb x d ≡ b → index_of d text ≤ length text → index_of d (x ∷ text) ≤ suc (length text)
      go true e h = omega (arith, index-here x text e)
      go false e h = omega (arith, index-next x text e)

  -- a text with a byte d: its first part ends there
  pub parts_first : (last : List (List ℕ)) (text : List ℕ) → index_of d text < length text →
      parts d last text ≡ take (index_of d text) text ∷ parts d last (drop (suc (index_of d text)) text)
  unfolding parts before
  parts_first last [] h = absurd (omega arith)
  parts_first last (x ∷ text) h = go (eqb x d) refl (parts_first last text)
    where
      go : (b : Bool) → eqb x d ≡ b → (index_of d text < length text → parts d last text ≡ take (index_of d text) text ∷ parts d last (drop (suc (index_of d text)) text)) →
          parts d last (x ∷ text) ≡ take (index_of d (x ∷ text)) (x ∷ text) ∷ parts d last (drop (suc (index_of d (x ∷ text))) (x ∷ text))
      go true e more = rw (e, index-here x text e)
      go false e more = rw (e, index-next x text e, more (omega (arith, index-next x text e)))

  -- a text without one is one part, if it is not empty
  index-later : (x : ℕ) (text : List ℕ) → 0 < index_of d (x ∷ text) → eqb x d ≡ false
  index-later x text h = go (eqb x d) refl
    where
      go : (b : Bool) → eqb x d ≡ b → eqb x d ≡ false
      go true e = absurd (omega (arith, index-here x text e))
      go false e = e

  parts_whole : (last : List (List ℕ)) → ((y : ℕ) → before y last ≡ (y ∷ []) ∷ []) → (x : ℕ) (text : List ℕ) → length (x ∷ text) ≤ index_of d (x ∷ text) →
      parts d last (x ∷ text) ≡ (x ∷ text) ∷ []
  unfolding parts before
  parts_whole last one x [] h = rw (index-later x [] (omega arith)) (one x)
  parts_whole last one x (y ∷ text) h =
      let e : eqb x d ≡ false = index-later x (y ∷ text) (omega arith) in
      rw e (ap (before x) (parts_whole last one y text (omega (arith, index-next x (y ∷ text) e))))

-- the words of a line are the parts between its spaces
before-first : (x : ℕ) (l : List (List ℕ)) → before x l ≡ onto_first x l
unfolding before
before-first x [] = refl
before-first x (part ∷ l) = refl

pub words-split : (line : List ℕ) → words line ≡ slice_split (λ x. eqb x 32) line
unfolding parts
words-split [] = refl
words-split (x ∷ line) = rw (words-split line, before-first x (slice_split (λ y. eqb y 32) line))

-- the words that `split` has left, and what its next call says of them
abbrev pub left : Bool → List ℕ → List (List ℕ)
left done rest = cond done [] (words rest)

module _ {F : Type 0} {g : Mut F (Bor ℕ × Unit {0}) Bool} {f f' : F} (rest x rest' : List ℕ) (done done' : Bool)
    (step : (done ≡ false) × MatchBool done' (rest ≡ x) ((y : ℕ) × (rest ≡ x ++ (y ∷ rest'))) × ((p : ℕ → Bool) → ComputesKey g p f → ComputesKey g p f' × IsFirstMatchOrLen p rest (length x)))
    (tests : (y : ℕ) (b : Bool) (q : F) → CalledAt g f y b q → (q ≡ f) × (b ≡ eqb y 32)) where
  abbrev space : ℕ → Bool
  space y = eqb y 32

  first : IsFirstMatchOrLen space rest (length x)
  first =
      (step.2 space (always_returns_same g (λ a r. r ≡ space a.0.now) f (λ a r q k. let m = tests a.0.now r q (record { shown = a.0; shows = refl; called = k }) in (m.1, m.0)))).1

  part : (b : Bool) → MatchBool b (rest ≡ x) ((y : ℕ) × (rest ≡ x ++ (y ∷ rest'))) → slice_split space rest ≡ x ∷ cond b [] (slice_split space rest')
  part true e = ap (slice_split space) e ∙ slice_split_none space x (λ k d l. subst (λ (ys : List ℕ). space (get_or ys k d) ≡ false) e (first.0 k d (omega arith) l))
  part false e =
      let front : All (λ z. space z ≡ false) x = λ k d l. let a = first.0 k d (omega arith) l in let b = e.1 in grind (arith, common_steps) in
      let hit : space e.0 ≡ true = let b = e.1 in let a = first.1 (grind (arith, common_steps)) e.0 in grind (arith, common_steps) in
      ap (slice_split space) e.1 ∙ slice_split_at space x e.0 rest' front hit

  pub left-some : left done rest ≡ x ∷ left done' rest'
  left-some = rw (step.0, words-split rest, words-split rest') (part done' step.1)

-- the part of a list from place k on
abbrev pub from : ℕ → List ℕ → List ℕ
from k l = take (length l - k) (drop k l)

pub from-drop : (k : ℕ) (l : List ℕ) → from k l ≡ drop k l
from-drop k l = take_all (length l - k) (drop k l) (le_of_eq (length-drop k l))

-- a line has a word, if only an empty one
pub word_some : (line : List ℕ) → (w : List ℕ) × (ws : List (List ℕ)) × (words line ≡ w ∷ ws)
unfolding parts before
word_some [] = ([], [], refl)
word_some (x ∷ line) = go (eqb x 32) refl (word_some line)
  where
    go : (b : Bool) → eqb x 32 ≡ b → (w : List ℕ) × (ws : List (List ℕ)) × (words line ≡ w ∷ ws) → (w : List ℕ) × (ws : List (List ℕ)) × (words (x ∷ line) ≡ w ∷ ws)
    go true e m = ([], words line, rw e)
    go false e (w, ws, m) = (x ∷ w, ws, rw (e, m))

-- a text that is not empty: its first line, and the lines after its first line feed
pub line_first : (text : List ℕ) → 0 < length text → lines text ≡ take (index_of 10 text) text ∷ lines (drop (suc (index_of 10 text)) text)
unfolding parts before
line_first [] h = absurd (omega arith)
line_first (x ∷ text) h = ⊎_elim (λ e. whole (le_of_eq (sym e))) (parts_first 10 [] (x ∷ text)) (eq-or-lt_of_le (index-within 10 (x ∷ text)))
  where
    whole : length (x ∷ text) ≤ index_of 10 (x ∷ text) → lines (x ∷ text) ≡ take (index_of 10 (x ∷ text)) (x ∷ text) ∷ lines (drop (suc (index_of 10 (x ∷ text))) (x ∷ text))
    whole h =
        let none : drop (suc (index_of 10 (x ∷ text))) (x ∷ text) ≡ [] = drop_of_length-le (x ∷ text) {i = suc (index_of 10 (x ∷ text))} (omega arith) in
        rw (parts_whole 10 [] (λ y. refl) x text h, take_all (index_of 10 (x ∷ text)) (x ∷ text) h, none)

-- the same as the iterator over lines cuts it
pub line-cut : (text line rest : List ℕ) (k : ℕ) → 0 < length text → line ≡ take (index_of 10 text) text → rest ≡ drop (index_of 10 text) text → k ≡ min 1 (length rest) →
    lines text ≡ line ∷ lines (from k rest)
line-cut text line rest k some front back cut =
    rw (from-drop k rest, cut, drop_min 1 rest, back, drop-drop 1 (index_of 10 text) text, add-one (index_of 10 text), front) (line_first text some)

-- a word from place i on: its byte there, and the rest
module _ (word : List ℕ) (i : ℕ) (h : i < length word) where
  pub digits-here : digits (drop i word) ≡ ((leb 48 (get_or word i 0) && leb (get_or word i 0) 57) && digits (drop (suc i) word))
  unfolding digits
  digits-here = rw (drop-cons word i 0 h)

  pub value-here : (x : ℕ) → value_from x (drop i word) ≡ value_from (10 * x + (get_or word i 0 - 48)) (drop (suc i) word)
  unfolding value_from
  value-here x = rw (drop-cons word i 0 h)
