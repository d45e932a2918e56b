-- The book of document 01, sequences of calls, and demand 3 as a type. Assumes nothing.
use Rattle.std.specs.Prelude.{ℕ, ◌+◌, ◌<◌, ◌≡◌, Bool, true, false, cond, not, ◌&&◌, List, [], ◌∷◌, ◌++◌, map, eqb, ltb, get_or}
use Rattle.routes.specs.Route.{sum_to, all_to, has}
use Rattle.book.specs.Hall.{Layout, laid, Tables, most_ways, scale, entry, filled, valid_passing, no_passing, no_links, uncrowded, touched}
use Rattle.book.specs.Call.{Ask, empty_hall, move_over, edit, edit_list, Call, Rule, rule, with_layout, Answer, Outcome, Accepted, accepted, run, touched_by, chain, reply, refusal, after, answer, Done, reversal}
use Rattle.book.specs.declared.Edit.{Edit}

-- the book (abstract state): N, and the present links and passing times; it reads calls alone
pub record Book : Type 0 where
  pub stops : ℕ
  pub layout : Layout

-- the tables that the book gives: those of its layout
abbrev pub tables_of : Book → Tables
tables_of b = filled scale most_ways b.stops b.layout

-- a call is refused by the same tests: 2 if its n is not N or what it brings does not fit, 13 by the passing times that it is lent, 3 by the
-- moving call alone, where the tables that the book gives are not also those of the old scale and limit with links alone
unfoldable pub book_refusal : Call → Book → Outcome
book_refusal c b =
    let r : Rule = rule c.n c.ask b.layout in
    chain c.n (r.fits && eqb c.n b.stops) (valid_passing c.n r.lent.passing) (r.sound_in_book (tables_of b)) r.tests

unfoldable pub book_after : Call → Book → Book
book_after c b = record { stops = b.stops; layout = cond (accepted (book_refusal c b)) (rule c.n c.ask b.layout).leaves b.layout }

unfoldable pub book_answer : Call → Book → Answer
book_answer c b = reply (book_refusal c b) (rule c.n c.ask b.layout)

-- what the book says to each of some calls
unfoldable pub book_answers : List Call → Book → List Answer
book_answers [] b = []
book_answers (c ∷ calls) b = book_answer c b ∷ book_answers calls (book_after c b)

-- a call that was made: the tables that it left, and its answer
pub record Step : Type 0 where
  pub call : Call
  pub left : Tables
  pub answer : Answer

-- the calls that were made: all that the book is fed
abbrev pub calls_of : List Step → List Call
calls_of steps = map (λ s. s.call) steps

-- what a call is lent: the tables as the last one left them; work out, beside them, its own cost table, the three calls that make, work
-- out or read a hall the passing times that the host has set right before, and the moving call passing times of 0
abbrev pub lent : Call → Tables → Tables
lent c t = with_layout (rule c.n c.ask t.layout).lent t

-- the tables after it: as it left them, with the passing times that were brought, else the former ones; after a refused call the former
-- layout stays: a cost table that a work out brought goes, and the host has set the passing times back
abbrev pub kept : Step → Tables → Tables
kept s t =
    let brought : Layout = laid s.left.layout.cost (rule s.call.n s.call.ask t.layout).leaves.passing in
    with_layout (cond (accepted s.answer.refusal) brought t.layout) s.left

-- a sequence of calls from the tables t: each is lent those that the last one left, and does what its contract promises
unfoldable pub Sequence : Tables → List Step → Type 0
Sequence t [] = Unit {0}
Sequence t (s ∷ rest) = Done s.call (lent s.call t) s.left s.answer × Sequence (kept s t) rest

-- some entry of source s in time, ways or share differs
unfoldable pub changed : ℕ → Tables → Tables → ℕ → Bool
changed n t t' s =
    not (all_to n (λ x. eqb (entry n t.time s x) (entry n t'.time s x) && (eqb (entry n t.ways s x) (entry n t'.ways s x) &&
    eqb (entry n t.share s x) (entry n t'.share s x))))

-- the call c reverses an edit that was answered with a: made on the tables t' that the edit left, it is accepted, gives back the five
-- tables t of before, and touches the same sources
pub record Reverses (c : Call) (t t' : Tables) (a : Answer) : Type 0 where
  pub taken : refusal c t' ≡ Accepted
  pub gives : after c t' ≡ t
  pub touches : ((answer c t').touched ≡ a.touched) × ((answer c t').rows ≡ a.rows)

-- the set of an accepted call that touches these sources, tables t before and t' after; it has 64 bits
pub record SetFacts (n : ℕ) (sources : ℕ → Bool) (t t' : Tables) (a : Answer) : Type 0 where
  pub names : (s : ℕ) → has a.touched s ≡ (ltb s n && sources s)
  pub counts : a.rows ≡ sum_to 64 (λ s. cond (has a.touched s) 1 0)
  pub stays : (s : ℕ) → s < n → has a.touched s ≡ false → changed n t t' s ≡ false
  pub moves : (x : ℕ) → x < n →
      get_or t'.score x 0 + sum_to n (λ s. cond (has a.touched s) (entry n t.share s x) 0) ≡
      get_or t.score x 0 + sum_to n (λ s. cond (has a.touched s) (entry n t'.share s x) 0)

-- an accepted edit: beyond that, each row of its set changes, if no pair is crowded before or after
pub record EditFacts (n : ℕ) (e : Edit) (t t' : Tables) (a : Answer) : Type 0 where
  pub set : SetFacts n (touched n t.layout t'.layout e.u e.v) t t' a
  pub changes : uncrowded most_ways n t.layout ≡ true → uncrowded most_ways n t'.layout ≡ true → (s : ℕ) → s < n → changed n t t' s ≡ has a.touched s
  pub tells : a.before ≡ entry n t.layout.cost e.u e.v
  pub reverses : Reverses (record { n = n; ask = edit (reversal e.kind e.u e.v a) }) t t' a

-- where a sequence starts: at an empty hall with its passing times, or at a hall that was moved over
pub data Start : Type 0 where
  at_empty_hall : (passing : List ℕ) → Start
  at_moved_hall : Start

-- the call that leaves the tables to start from
abbrev pub start_ask : Start → Ask
start_ask (at_empty_hall passing) = empty_hall passing
start_ask at_moved_hall = move_over

-- the book at first: no links and these passing times, or the links of the moved hall and every passing time 0
abbrev pub first_layout : Start → ℕ → Tables → Layout
first_layout (at_empty_hall passing) N start = no_links N passing
first_layout at_moved_hall N start = laid start.layout.cost (no_passing N)

abbrev pub first_book : Start → ℕ → Tables → Book
first_book from N start = record { stops = N; layout = first_layout from N start }

-- tables that such a call with N left, accepted, whatever it found in them
pub record Started (from : Start) (N : ℕ) (start : Tables) : Type 0 where
  pub found : Tables
  pub said : Answer
  pub done : let c : Call = record { n = N; ask = start_ask from } in Done c (lent c found) start said
  pub taken : said.refusal ≡ Accepted

-- demand 3, from an empty or a moved hall: the tables after the sequence, the answers in it, its accepted edits, and its accepted lists of edits
unfoldable pub Demand3 : Type 0
Demand3 = (from : Start) (N : ℕ) (start : Tables) (steps : List Step) → Started from N start → Sequence start steps →
    (run kept steps start ≡ filled scale most_ways N (run book_after (calls_of steps) (first_book from N start)).layout) ×
    (map (λ s. s.answer) steps ≡ book_answers (calls_of steps) (first_book from N start)) ×
    ((before rest : List Step) (s : Step) (e : Edit) → steps ≡ before ++ s ∷ rest → s.call.ask ≡ edit e →
    s.answer.refusal ≡ Accepted → EditFacts s.call.n e (run kept before start) s.left s.answer) ×
    ((before rest : List Step) (s : Step) (edits : List Edit) → steps ≡ before ++ s ∷ rest → s.call.ask ≡ edit_list edits →
    s.answer.refusal ≡ Accepted → let t : Tables = run kept before start in SetFacts s.call.n (touched_by s.call.n edits t.layout) t s.left s.answer)
