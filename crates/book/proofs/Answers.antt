-- The parts of an answer: its refusal is the call's, and what a call has no use for is empty. Assumes nothing.
use Rattle.std.specs.Prelude.{Ok, Err}
use Prim.Native.Nat.{ℕ}
use mathlib.Core.Path.{◌≡◌, refl, ◌∙◌, ap}
use mathlib.Core.Bool.{Bool, true, false, cond}
use mathlib.Core.List.{[]}
use Rattle.book.specs.Hall.{Layout, Tables}
use Rattle.book.specs.Call.{Ask, empty_hall, audit, move_over, work_out, edit, edit_list, list_routes, image_write, image_read, Call, accepted, Answer, refused_at, Rule, rule, reply, refusal, answer, Done, Accepted, Outcome}
use Rattle.book.specs.Book.{Book, book_refusal, book_answer}

-- an accepted call says so
says-accepted : (n : ℕ) (ask : Ask) (lay : Layout) → (rule n ask lay).says.refusal ≡ Accepted
unfolding rule
says-accepted n (empty_hall passing) lay = refl
says-accepted n audit lay = refl
says-accepted n move_over lay = refl
says-accepted n (work_out c) lay = refl
says-accepted n (edit e) lay = refl
says-accepted n (edit_list edits) lay = refl
says-accepted n (list_routes s t buffer) lay = refl
says-accepted n (image_write buffer) lay = refl
says-accepted n (image_read image passing) lay = refl

-- so a reply has the refusal that it is made of
reply-refusal : (r : Outcome) (x : Rule) → x.says.refusal ≡ Accepted → (reply r x).refusal ≡ r
reply-refusal (Ok tt) x e = e
reply-refusal (Err r) x e = refl

-- the answer of a call, of the book, and of a call that was made
pub answer-refusal : (c : Call) (t : Tables) → (answer c t).refusal ≡ refusal c t
unfolding answer
answer-refusal c t = reply-refusal (refusal c t) (rule c.n c.ask t.layout) (says-accepted c.n c.ask t.layout)

pub book-refusal : (c : Call) (b : Book) → (book_answer c b).refusal ≡ book_refusal c b
unfolding book_answer
book-refusal c b = reply-refusal (book_refusal c b) (rule c.n c.ask b.layout) (says-accepted c.n c.ask b.layout)

pub done-refusal : (c : Call) (t : Tables) {t' : Tables} {a : Answer} → Done c t t' a → a.refusal ≡ refusal c t
done-refusal c t d = ap (λ a. a.refusal) d.answered ∙ answer-refusal c t

-- only a list of edits tells a place, only an edit and a list of edits name sources, only an edit tells a cost before, and only a route
-- list and an image write write bytes
abbrev pub NoSet : Answer → Type 0
NoSet a = (a.place ≡ 0) × (a.touched ≡ 0) × (a.rows ≡ 0) × (a.before ≡ 0)

abbrev pub NoBytes : Answer → Type 0
NoBytes a = (a.length ≡ 0) × (a.buffer ≡ [])

unfoldable pub Parts : Ask → Answer → Type 0
Parts (empty_hall passing) a = NoSet a × NoBytes a
Parts audit a = NoSet a × NoBytes a
Parts move_over a = NoSet a × NoBytes a
Parts (work_out lay) a = NoSet a × NoBytes a
Parts (edit e) a = (a.place ≡ 0) × NoBytes a
Parts (edit_list edits) a = (a.before ≡ 0) × NoBytes a
Parts (list_routes s t buffer) a = NoSet a
Parts (image_write buffer) a = NoSet a
Parts (image_read image passing) a = NoSet a × NoBytes a

-- what holds of what an accepted call says and of a refusal with its place holds of its answer
pub reply-either : (P : Answer → Type 0) (r : Outcome) (x : Rule) → (accepted r ≡ true → P x.says) → P (refused_at r (x.place r) x.lent_buffer) → P (reply r x)
reply-either P r x said refused = go (accepted r) refl
  where
    go : (b : Bool) → accepted r ≡ b → P (cond b x.says (refused_at r (x.place r) x.lent_buffer))
    go true ok = said ok
    go false ok = refused

-- the answer of every call, on any tables
pub answer-parts : (c : Call) (t : Tables) → Parts c.ask (answer c t)
unfolding answer Parts rule
answer-parts c t = reply-either (Parts c.ask) (refusal c t) (rule c.n c.ask t.layout) (λ ok. said c.ask) (alone c.ask)
  where
    said : (ask : Ask) → Parts ask (rule c.n ask t.layout).says
    said (empty_hall passing) = ((refl, refl, refl, refl), (refl, refl))
    said audit = ((refl, refl, refl, refl), (refl, refl))
    said move_over = ((refl, refl, refl, refl), (refl, refl))
    said (work_out lay) = ((refl, refl, refl, refl), (refl, refl))
    said (edit e) = (refl, (refl, refl))
    said (edit_list edits) = (refl, (refl, refl))
    said (list_routes s x buffer) = (refl, refl, refl, refl)
    said (image_write buffer) = (refl, refl, refl, refl)
    said (image_read image passing) = ((refl, refl, refl, refl), (refl, refl))

    alone : (ask : Ask) → Parts ask (refused_at (refusal c t) ((rule c.n ask t.layout).place (refusal c t)) (rule c.n ask t.layout).lent_buffer)
    alone (empty_hall passing) = ((refl, refl, refl, refl), (refl, refl))
    alone audit = ((refl, refl, refl, refl), (refl, refl))
    alone move_over = ((refl, refl, refl, refl), (refl, refl))
    alone (work_out lay) = ((refl, refl, refl, refl), (refl, refl))
    alone (edit e) = (refl, (refl, refl))
    alone (edit_list edits) = (refl, (refl, refl))
    alone (list_routes s x buffer) = (refl, refl, refl, refl)
    alone (image_write buffer) = (refl, refl, refl, refl)
    alone (image_read image passing) = ((refl, refl, refl, refl), (refl, refl))
