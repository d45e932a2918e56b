-- Laws of the lines of a text, one after another: between two of them the tables are those of the book, and what is printed and what is
-- left to print make the whole. Assumes nothing.
use Prim.Native.Nat.{ℕ, suc, ◌+◌, ◌*◌, ◌≤◌}
use mathlib.Core.Path.{◌≡◌, refl, ◌∙◌, ap}
use mathlib.Core.Bool.{Bool, true, false}
use mathlib.Core.List.{List, [], ◌∷◌}
use native.Mathlib.Omega.{arith}
use lib.Dec.{eqb}
use lib.ListN.{length, get_or}
use lib.Seq.{length-sets}
use Rattle.std.specs.Prelude.{Option}
use Rattle.routes.specs.Route.{join_to, list_to, score}
use Rattle.routes.proofs.Rows.{length-list_to, get_or-list_to}
use Rattle.book.specs.Hall.{Tables, most_ways, scale, filled, costs_in}
use Rattle.book.specs.Contract.{Audited}
use Rattle.book.specs.declared.Edit.{Edit}
use Rattle.words.specs.Text.{longest, before, parts, lines, words, line_of, stop_line, said, report}
use Rattle.print.specs.Promise.{hall_bytes, unread_bytes, Prints}
use Rattle.print.specs.declared.Output.{Output}
use Rattle.listing.specs.Promise.{book_of, size, room, Room, Stepped, Ready}
use Rattle.print.proofs.Printing.{Left, go_on, last}
use Rattle.print.proofs.Lengths.{said-short, said-within}
use Rattle.listing.proofs.Books.{held, own, next-audited}
use Rattle.routes.proofs.Lists.{join_to-cong}

-- line i fits where it has room
pub line-fits : {n : ℕ} {t : Tables} (s : Audited n t) (e : Option Edit) {i : ℕ} {o : Output} → Room i o → o.written + length (said i (book_of n t) e) ≤ length o.out.now
line-fits {n} {t} s e {i} r = omega (arith, r.space, said-short i (book_of n t) e r.count (held s))

-- the lines of a text have no more bytes than the text, but for a line feed that the last may lack
pub lines-size : (text : List ℕ) → size (lines text) ≤ length text + 1
unfolding before parts size
lines-size [] = omega arith
lines-size (x ∷ text) = go (eqb x 10) refl (lines-size text)
  where
    first : (l : List (List ℕ)) → size l ≤ length text + 1 → size (before x l) ≤ suc (length text) + 1
    first [] h = omega arith
    first (part ∷ l) h = omega (arith, h)

    go : (b : Bool) → eqb x 10 ≡ b → size (lines text) ≤ length text + 1 → size (lines (x ∷ text)) ≤ suc (length text) + 1
    go true e h = rw e (omega (arith, h))
    go false e h = rw e (first (lines text) h)

pub lines-fewer : (l : List (List ℕ)) → length l ≤ size l
unfolding size
lines-fewer [] = omega arith
lines-fewer (line ∷ l) = omega (arith, lines-fewer l)

-- between two lines: line i and those behind it are left, and the tables are those of the book before it
pub record Going (n : ℕ) (lines₀ : List (List ℕ)) (o₀ : Output) (t₀ t : Tables) (o : Output) (i : ℕ) (left : List (List ℕ)) : Type 0 where
  pub right : Audited n t
  pub long : length o.out.now ≡ length o₀.out.now
  pub short : o.written + unread_bytes * size left ≤ hall_bytes + unread_bytes * longest
  pub count : i + size left ≤ longest + 2
  pub printed : Left (report i (book_of n t) left) o.written o.out.now (report 2 (book_of n t₀) lines₀) o₀.written o₀.out.now
  pub same : o.out.ghost_name ≡ o₀.out.ghost_name

-- the scores that stand in the tables are the book's
score-lines : (n i : ℕ) (t : Tables) → Audited n t → join_to (length t.score) (λ v. stop_line v (get_or t.score v 0)) ≡ report i (book_of n t) []
unfolding report filled
score-lines n i t s =
    let scores : t.score ≡ list_to n (score (costs_in n t.layout) n most_ways scale) = ap (λ (t : Tables). t.score) (own s) in
    rw (scores, length-list_to n (score (costs_in n t.layout) n most_ways scale))
    (join_to-cong n (λ v l. ap (stop_line v) (get_or-list_to n (score (costs_in n t.layout) n most_ways scale) 0 v l)))

-- before the first of them
pub begin : {n : ℕ} {left : List (List ℕ)} {o : Output} {t : Tables} → Audited n t → Ready left o → Going n left o t t o 2 left
begin s r = record {
  right = s;
  long = refl;
  short = omega (arith, r.short, r.early);
  count = omega (arith, r.short);
  printed = record { ends = refl; makes = refl };
  same = refl;
}

module _ {n : ℕ} {lines₀ : List (List ℕ)} {o₀ : Output} {t₀ t : Tables} {o : Output} {i : ℕ} where
  -- line i has room
  pub roomy : {line : List ℕ} {left : List (List ℕ)} → Going n lines₀ o₀ t₀ t o i (line ∷ left) → room ≤ length o₀.out.now → Room i o
  unfolding size
  roomy g h = record { count = omega (arith, g.count); space = omega (arith, g.short, g.long, h) }

  -- a line further
  pub advance : {line : List ℕ} {left : List (List ℕ)} → Going n lines₀ o₀ t₀ t o i (line ∷ left) → (t' : Tables) (o' : Output) → Stepped n i (line_of (words line)) t t' o o' →
      Going n lines₀ o₀ t₀ t' o' (i + 1) left
  unfolding report size
  advance {line} {left} g t' o' s =
      let (book, right) = next-audited g.right (line_of (words line)) t' s.left in
      let line' : List ℕ = said i (book_of n t) (line_of (words line)) in
      let long = said-within i (book_of n t) line (omega (arith, g.count)) (held g.right) in
      record {
        right = right;
        long = ap length s.printed.printed.written ∙ length-sets o.out.now o.written line' ∙ g.long;
        short = omega (arith, g.short, s.printed.printed.behind, long);
        count = omega (arith, g.count);
        printed = rw book (go_on g.printed s.printed.printed);
        same = s.printed.same ∙ g.same;
      }

  -- after the last line the scores
  pub finish : Going n lines₀ o₀ t₀ t o i [] → (o' : Output) → Prints (join_to (length t.score) (λ v. stop_line v (get_or t.score v 0))) o o' →
      Prints (report 2 (book_of n t₀) lines₀) o₀ o'
  finish g o' p = record { printed = last g.printed (rw (score-lines n i t g.right) at p.printed); same = p.same ∙ g.same }
