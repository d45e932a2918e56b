-- The calls of document 01, with what the requests of document 02 add: one rule says what each is lent, looks at, leaves and says; by
-- it the refusal, the tables after the call and the answer on any tables that it is lent; and what a contract promises. Assumes nothing.
use Rattle.std.specs.Prelude.{ℕ, ◌+◌, ◌*◌, ◌≡◌, Bool, true, false, cond, not, ◌&&◌, ◌||◌, List, [], ◌∷◌, ◌++◌, Result, Ok, Err, ⊤, eqb, ltb, leb, length, drop, set}
use Rattle.routes.specs.Route.{sum_to, set_of}
use Rattle.book.specs.Hall.{Layout, laid, Tables, most_stops, largest_cost, most_ways, most_edits, scale, old_most_ways, old_scale, up_to, entry, filled, sized, valid_pair, valid_costs, valid_passing, links_alone, no_links, crowded_pair, uncrowded, right, touched, route_list, image_of, is_image, costs_of}
use Rattle.book.specs.declared.Edit.{Edit}
use Rattle.book.specs.declared.Kind.{Kind}
use Rattle.book.specs.declared.Kind.TheVariants.{Insert, Cheapen, Raise, Delete}
use Rattle.book.specs.declared.Refusal.{Refusal}
use Rattle.book.specs.declared.Refusal.TheVariants.{BadSize, BadLength, BadTables, BadStop, BadCost, LinkPresent, LinkAbsent, CostWrongSide, BadImage, ShortBuffer, TooManyWays, ListTooLong, BadPassing, CrowdedPair}

-- what a call comes to: accepted, or refused
abbrev pub Outcome : Type 0
Outcome = Result ⊤ Refusal

abbrev pub Accepted : Outcome
Accepted = Ok (tt {0})

-- the documents' number of each refusal, 0 for an accepted call
abbrev pub number : Outcome → ℕ
number (Ok _) = 0
number (Err BadSize) = 1
number (Err BadLength) = 2
number (Err BadTables) = 3
number (Err BadStop) = 4
number (Err BadCost) = 5
number (Err LinkPresent) = 6
number (Err LinkAbsent) = 7
number (Err CostWrongSide) = 8
number (Err BadImage) = 9
number (Err ShortBuffer) = 10
number (Err TooManyWays) = 11
number (Err ListTooLong) = 12
number (Err BadPassing) = 13
number (Err CrowdedPair) = 14

abbrev pub accepted : Outcome → Bool
accepted (Ok _) = true
accepted (Err _) = false

-- what is asked, with what the call brings; the passing times are brought by the three calls that make, work out or read a hall
pub data Ask : Type 0 where
  audit move_over : Ask
  empty_hall : (passing : List ℕ) → Ask
  work_out : (brought : Layout) → Ask
  edit : (e : Edit) → Ask
  edit_list : (edits : List Edit) → Ask
  list_routes : (s t : ℕ) → (buffer : List ℕ) → Ask
  image_write : (buffer : List ℕ) → Ask
  image_read : (image passing : List ℕ) → Ask

-- a call brings its n too
pub record Call : Type 0 where
  pub n : ℕ
  pub ask : Ask

-- the test passes and the next ones follow, or it gives its refusal
abbrev pub need : Bool → Refusal → Outcome → Outcome
need passes refusal next = cond passes next (Err refusal)

-- 5, 7 and 8, of another cost c for a link; `wanted` says that c lies on the side of the present cost that the kind wants
abbrev pub other_cost_tests : (wanted : Bool) → (c present : ℕ) → Outcome
other_cost_tests wanted c present = need (up_to largest_cost c) BadCost (need (ltb 0 present) LinkAbsent (need wanted CostWrongSide Accepted))

-- 5 to 8, by an edit's kind, its cost and the present cost of its link
abbrev pub cost_tests : Kind → ℕ → ℕ → Outcome
cost_tests Insert c present = need (up_to largest_cost c) BadCost (need (eqb present 0) LinkPresent Accepted)
cost_tests Cheapen c present = other_cost_tests (ltb c present) c present
cost_tests Raise c present = other_cost_tests (ltb present c) c present
cost_tests Delete c present = need (ltb 0 present) LinkAbsent Accepted

-- 4 to 8: what refuses an edit, by the present costs
abbrev pub edit_refusal : ℕ → Edit → (cost : List ℕ) → Outcome
edit_refusal n e cost = need (valid_pair n e.u e.v) BadStop (cost_tests e.kind e.cost (entry n cost e.u e.v))

-- the cost that an edit sets: 0 for delete
abbrev pub cost_set : Kind → ℕ → ℕ
cost_set Insert c = c
cost_set Cheapen c = c
cost_set Raise c = c
cost_set Delete c = 0

-- the layout with that one cost set
abbrev pub with_cost : (n u v c : ℕ) → Layout → Layout
with_cost n u v c l = laid (set l.cost (u * n + v) c) l.passing

abbrev pub with_edit : ℕ → Edit → Layout → Layout
with_edit n e l = with_cost n e.u e.v (cost_set e.kind e.cost) l

-- a state after some steps, each from where the last one led
unfoldable pub run : {C S : Type 0} → (C → S → S) → List C → S → S
run step [] state = state
run step (c ∷ rest) state = run step rest (step c state)

-- the layout that a list of edits leaves, one after another
abbrev pub with_edits : ℕ → List Edit → Layout → Layout
with_edits n edits l = run (with_edit n) edits l

-- touched by some edit of a list, each in the hall that its predecessors made
unfoldable pub touched_by : ℕ → List Edit → Layout → ℕ → Bool
touched_by n [] l s = false
touched_by n (e ∷ rest) l s = touched n l (with_edit n e l) e.u e.v s || touched_by n rest (with_edit n e l) s

-- the first refused edit of a list: its refusal and its place, 0 where none is refused
pub record Verdict : Type 0 where
  pub refusal : Outcome
  pub place : ℕ

-- the edits judged in turn, each in the hall that its predecessors made; k is the place of the first in hand
unfoldable pub judged : (n k : ℕ) → List Edit → Layout → Verdict
judged n k [] l = record { refusal = Accepted; place = 0 }
judged n k (e ∷ rest) l =
    let refusal : Outcome = edit_refusal n e l.cost in
    cond (accepted refusal) (judged n (k + 1) rest (with_edit n e l)) (record { refusal = refusal; place = k })

-- 4 to 8: the refusals of which a list tells a place
abbrev pub of_an_edit : Outcome → Bool
of_an_edit r = leb 4 (number r) && leb (number r) 8

-- the place of a list's first refused edit, the set of touched sources, their number and what an edit's link cost before, the
-- length of what was written, and the buffer after the call
pub record Answer : Type 0 where
  pub refusal : Outcome
  pub place : ℕ
  pub touched : ℕ
  pub rows : ℕ
  pub before : ℕ
  pub length : ℕ
  pub buffer : List ℕ

-- the answer of a refused call: the buffer is as it was lent
abbrev pub refused_at : Outcome → (place : ℕ) → List ℕ → Answer
refused_at refusal place buffer = record { refusal = refusal; place = place; touched = 0; rows = 0; before = 0; length = 0; buffer = buffer }

-- of one that has no place to tell, and of an accepted call that has no more to tell
abbrev pub plain : Outcome → List ℕ → Answer
plain refusal buffer = refused_at refusal 0 buffer

-- of an accepted call that names sources, and tells what a link cost before, 0 for a list
abbrev pub names : ℕ → (ℕ → Bool) → ℕ → Answer
names n sources before =
    record { refusal = Accepted; place = 0; touched = set_of n sources; rows = sum_to n (λ s. cond (sources s) 1 0); before = before; length = 0; buffer = [] }

-- of an accepted call that writes bytes in front of its buffer
abbrev pub writes : (bytes buffer : List ℕ) → Answer
writes bytes buffer = record { refusal = Accepted; place = 0; touched = 0; rows = 0; before = 0; length = length bytes; buffer = bytes ++ drop (length bytes) buffer }

-- what a call is lent and looks at, over the present layout, and what it leaves and says if it is accepted
pub record Rule : Type 0 where
  pub lent : Layout  -- the present layout, but what it brings in place of the present; the moving call has links alone
  pub lent_buffer : List ℕ
  pub fits : Bool  -- 2, of what it brings
  pub sound : Tables → Bool  -- 3; true where it does not look
  pub sound_in_book : Tables → Bool  -- 3 in a sequence, of the tables that the book gives; true but for the moving call
  pub tests : Outcome  -- 4 to 12, and 14
  pub place : Outcome → ℕ  -- that the refusal of a list tells; 0 in every other call
  pub leaves : Layout  -- of the hall whose tables it leaves; of audit and the calls that write these are the tables that it was lent
  pub says : Answer

-- a call on the present layout that brings none and is lent no buffer
abbrev pub on_present : Layout → (Tables → Bool) → Outcome → Layout → Answer → Rule
on_present l sound tests leaves says = record { lent = l; lent_buffer = []; fits = true; sound = sound; sound_in_book = λ t. true; tests = tests; place = λ r. 0; leaves = leaves; says = says }

-- a call that brings the layout of the hall whose tables it leaves, or of it the passing times alone, and looks at no table
abbrev pub bringing : (lent : Layout) → (fits : Bool) → Outcome → (leaves : Layout) → Rule
bringing lent fits tests leaves = record { lent = lent; lent_buffer = []; fits = fits; sound = λ t. true; sound_in_book = λ t. true; tests = tests; place = λ r. 0; leaves = leaves; says = plain Accepted [] }

-- a call that writes bytes in front of its buffer: 4 where the stops that it brings are not known to the hall, 14 where they are a crowded
-- pair, and then 10
abbrev pub writing : ℕ → (known crowded : Bool) → (bytes buffer : List ℕ) → Layout → Rule
writing n known crowded bytes buffer l =
    let tests : Outcome = need known BadStop (need (not crowded) CrowdedPair (need (leb (length bytes) (length buffer)) ShortBuffer Accepted)) in
    record { lent = l; lent_buffer = buffer; fits = true; sound = right scale most_ways n; sound_in_book = λ t. true; tests = tests; place = λ r. 0; leaves = l; says = writes bytes buffer }

-- the tables with another layout
abbrev pub with_layout : Layout → Tables → Tables
with_layout l t = record { layout = l; time = t.time; ways = t.ways; share = t.share; score = t.score }

-- by n, what is asked and the present layout. The moving call is lent passing times of 0, and asks for tables of the old numbers in which no
-- pair has more than 22 ways (3), then for none with more than 12 (11); it leaves the layout, since the host's passing times stay: where it is
-- accepted, the tables are the same with them and without (`moved_same`, proved)
unfoldable pub rule : ℕ → Ask → Layout → Rule
rule n (empty_hall passing) l =
    bringing (laid l.cost passing) (eqb (length passing) n) Accepted (no_links n passing)
rule n audit l = on_present l (right scale most_ways n) Accepted l (plain Accepted [])
rule n move_over l =
    let alone : Layout = links_alone n l in
    let old : Tables → Bool = λ t. right old_scale old_most_ways n (with_layout alone t) && uncrowded old_most_ways n alone in
    let tests : Outcome = need (uncrowded most_ways n alone) TooManyWays Accepted in
    record { lent = alone; lent_buffer = []; fits = true; sound = old; sound_in_book = old; tests = tests; place = λ r. 0; leaves = l; says = plain Accepted [] }
rule n (work_out l') l =
    bringing l' (eqb (length l'.cost) (n * n) && eqb (length l'.passing) n) (need (valid_costs n l'.cost) BadCost Accepted) l'
rule n (edit e) l =
    let l' : Layout = with_edit n e l in
    let says : Answer = names n (touched n l l' e.u e.v) (entry n l.cost e.u e.v) in
    on_present l (right scale most_ways n) (edit_refusal n e l.cost) l' says
rule n (edit_list edits) l =
    let first : Verdict = judged n 1 edits l in
    let tests : Outcome = need (leb (length edits) most_edits) ListTooLong first.refusal in
    let place : Outcome → ℕ = λ r. cond (of_an_edit r) first.place 0 in
    let says : Answer = names n (touched_by n edits l) 0 in
    record { lent = l; lent_buffer = []; fits = true; sound = right scale most_ways n; sound_in_book = λ t. true; tests = tests; place = place; leaves = with_edits n edits l; says = says }
rule n (list_routes s t buffer) l = writing n (ltb s n && ltb t n) (crowded_pair most_ways n l s t) (route_list n l s t) buffer l
rule n (image_write buffer) l = writing n true false (image_of n l.cost) buffer l
rule n (image_read image passing) l =
    bringing (laid l.cost passing) (eqb (length passing) n) (need (is_image n image) BadImage Accepted) (laid (costs_of n image) passing)

-- tests 1, 2, 13 and 3, and then the call's own
abbrev pub chain : ℕ → (lengths passable sound : Bool) → Outcome → Outcome
chain n lengths passable sound tests = need (up_to most_stops n) BadSize (need lengths BadLength (need passable BadPassing (need sound BadTables tests)))

-- the answer by a rule: a refused call says its refusal and, of a list, the place
abbrev pub reply : Outcome → Rule → Answer
reply refusal r = cond (accepted refusal) r.says (refused_at refusal (r.place refusal) r.lent_buffer)

-- the call on any tables that it can be lent (`lent`, Book.antt): its refusal, by the first test that fails, the tables after it and its
-- answer
unfoldable pub refusal : Call → Tables → Outcome
refusal c t =
    let r : Rule = rule c.n c.ask t.layout in
    chain c.n (r.fits && sized c.n t) (valid_passing c.n r.lent.passing) (r.sound t) r.tests

unfoldable pub after : Call → Tables → Tables
after c t = cond (accepted (refusal c t)) (filled scale most_ways c.n (rule c.n c.ask t.layout).leaves) t

unfoldable pub answer : Call → Tables → Answer
answer c t = reply (refusal c t) (rule c.n c.ask t.layout)

-- what the contract of every call promises: lent the tables t, it left the tables t' and answered a, as the documents say
pub record Done (c : Call) (t t' : Tables) (a : Answer) : Type 0 where
  pub left : t' ≡ after c t
  pub answered : a ≡ answer c t

-- the edit that reverses an accepted one, from its kind, its stops and its answer
abbrev pub reverse_kind : Kind → Kind
reverse_kind Insert = Delete
reverse_kind Cheapen = Raise
reverse_kind Raise = Cheapen
reverse_kind Delete = Insert

abbrev pub reversal : Kind → (u v : ℕ) → Answer → Edit
reversal kind u v a = record { kind = reverse_kind kind; u = u; v = v; cost = a.before }

-- image check, which is lent no table
unfoldable pub image_check : ℕ → List ℕ → Outcome
image_check n image = need (up_to most_stops n) BadSize (need (is_image n image) BadImage Accepted)
