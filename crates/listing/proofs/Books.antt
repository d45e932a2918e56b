-- Laws of tables that pass the audit: they are those of the book with their costs, and an edit of them is the book's. Assumes nothing.
use Prim.Native.Nat.{ℕ, ◌*◌, ◌≤◌}
use mathlib.Core.Path.{◌≡◌, refl, sym, ◌∙◌, ap, subst⁻¹}
use mathlib.Core.Bool.{Bool, true, false, cond}
use lib.ListN.{length, length-replicate}
use borrow.Author.Tests.{eq-eqb}
use Rattle.std.specs.Prelude.{Option, Some, None}
use Rattle.routes.specs.Route.{score}
use Rattle.book.specs.Hall.{Layout, Tables, most_stops, scale, up_to, filled, sized, no_passing, no_links, most_ways}
use Rattle.book.specs.Call.{Call, empty_hall, edit, Answer, rule, accepted, refusal, after, answer, Done}
use Rattle.book.specs.Book.{Book, tables_of, book_refusal, book_after, book_answer}
use Rattle.book.specs.Contract.{Inside, Audited}
use Rattle.book.proofs.Sizes.{stops, Lengths, lengths, passing-fits}
use Rattle.book.proofs.Filled.{right-true}
use Rattle.book.proofs.Steps.{Held, held_none, refusal-book, held_after, held-right, held-audited, none-brief}
use Rattle.book.specs.declared.Edit.{Edit}
use Rattle.words.specs.Text.{edit_line, said, next, empty_book}
use Rattle.listing.specs.Promise.{book_of}

-- the tables of a book pass the audit
audited-of : (b : Book) (t : Tables) → Held b.stops b.layout → t ≡ tables_of b → Audited b.stops t
audited-of b t h e = subst⁻¹ (Audited b.stops) e (held-audited b.stops b.layout h)

-- after an empty hall with passing times of 0 the tables are those of the book at first
pub empty-audited : (n : ℕ) (t t' : Tables) (a : Answer) → Inside n t → t.layout.passing ≡ no_passing n → Done (record { n = n; ask = empty_hall t.layout.passing }) t t' a →
    (book_of n t' ≡ empty_book n) × Audited n t'
unfolding after refusal rule filled
empty-audited n t t' a i none d =
    let e : t' ≡ tables_of (empty_book n) = d.left ∙ rw (i.size, passing-fits n t i.lengths, i.lengths, i.passable) (ap (λ p. filled scale most_ways n (no_links n p)) none) in
    (ap (book_of n) e, audited-of (empty_book n) t' (held_none n (no_passing n) i.size (length-replicate n 0) (none-brief n)) e)

module _ {n : ℕ} {t : Tables} (s : Audited n t) where
  -- tables that pass the audit are those of the book with their costs
  pub held : Held n t.layout
  held = held-right n t s.inside.size s.inside.lengths s.inside.passable s.sound

  pub own : t ≡ filled scale most_ways n t.layout
  own = sym (right-true scale most_ways n t s.sound).1

  pub few-stops : n ≤ most_stops
  few-stops = (stops n s.inside.size).1

  -- a line leaves the tables of the book after it
  pub next-audited : (e : Option Edit) (t' : Tables) → t' ≡ filled scale most_ways n (next (book_of n t) e).layout → (book_of n t' ≡ next (book_of n t) e) × Audited n t'
  unfolding next book_after filled
  next-audited None t' h = (ap (book_of n) h, audited-of (book_of n t) t' held h)
  next-audited (Some x) t' h =
      let call : Call = record { n = n; ask = edit x } in
      (ap (book_of n) h, audited-of (book_after call (book_of n t)) t' (held_after call (book_of n t) held) h)

  -- an edit of the tables leaves the tables of the book after it, and answers what the book says
  module _ (x : Edit) {t' : Tables} {a : Answer} (d : Done (record { n = n; ask = edit x }) t t' a) where
    abbrev call : Call
    call = record { n = n; ask = edit x }

    abbrev book : Book
    book = book_of n t

    edit-after : after call (tables_of book) ≡ tables_of (book_after call book)
    unfolding after book_after filled
    edit-after = rw (refusal-book call book held) (go (accepted (book_refusal call book)))
      where
        leaves : Layout
        leaves = (rule n (edit x) t.layout).leaves

        go : (y : Bool) → cond y (filled scale most_ways n leaves) (tables_of book) ≡ filled scale most_ways n (cond y leaves t.layout)
        go true = refl
        go false = refl

    pub edit-left : t' ≡ filled scale most_ways n (next book (Some x)).layout
    unfolding next book_after
    edit-left = d.left ∙ ap (after call) own ∙ edit-after

    edit-answer : a ≡ book_answer call book
    unfolding answer book_answer filled
    edit-answer = d.answered ∙ ap (answer call) own ∙ rw (refusal-book call book held)

    pub edit-said : (i : ℕ) → said i book (Some x) ≡ edit_line i a
    unfolding said
    edit-said i = ap (edit_line i) (sym edit-answer)

-- the lengths of the tables, and passing times of 0
pub lengths-inside : (n : ℕ) (t : Tables) → up_to most_stops n ≡ true → length t.layout.cost ≡ n * n → t.layout.passing ≡ no_passing n → length t.time ≡ n * n →
    length t.ways ≡ n * n → length t.share ≡ n * n → length t.score ≡ n → Inside n t
unfolding sized
lengths-inside n t size cost none time ways share score =
    let passing : length t.layout.passing ≡ n = ap length none ∙ length-replicate n 0 in
    record { size = size; lengths = rw (cost, passing, time, ways, share, score, eq-eqb (n * n) (n * n) refl, eq-eqb n n refl); passable = rw none (none-brief n) }

pub lengths-audited : {n : ℕ} {t : Tables} → Audited n t → Lengths n t
lengths-audited s = lengths _ _ s.inside.lengths
