-- The calls that write bytes in front of a lent buffer, the route list and the image write: what they share, whatever the bytes are.
-- Assumes nothing.
use Rattle.std.specs.Prelude.{Err, Ok}
use Prim.Native.Nat.{ℕ, ◌<◌, ◌≤◌}
use mathlib.Core.Path.{◌≡◌, refl, sym, ◌∙◌, subst}
use mathlib.Core.Bool.{Bool, true, false, cond, not, ◌&&◌}
use mathlib.Core.List.{List, ◌++◌}
use native.Mathlib.Omega.{arith}
use lib.Dec.{ltb, leb}
use lib.ListN.{length, drop}
use borrow.Author.Tests.{le-leb, lt-leb}
use Rattle.book.specs.Hall.{Tables, most_ways, scale, crowded_pair, right, route_list, image_of}
use Rattle.book.specs.Call.{Call, audit, list_routes, image_write, accepted, need, Answer, refused_at, plain, writes, writing, rule, refusal, after, answer, Done, Accepted, Outcome}
use Rattle.book.specs.Contract.{of_refusal, of_write, stored, Audited}
use Rattle.book.specs.declared.Refusal.TheVariants.{BadStop, ShortBuffer, CrowdedPair}
use Rattle.book.proofs.Passed.{audited}
use Rattle.book.proofs.Refused.{buffer_of, place_of, refused-done}
use Rattle.book.proofs.Doors.{audit-refused, behind-audit, leaves-tables}

-- k bytes: a buffer that is too short for them, and one that holds them in front of what it held
module _ (bytes : List ℕ) (k : ℕ) (size : length bytes ≡ k) (b : List ℕ) where
  pub stored_short : length b < k → of_write (Err ShortBuffer) b ≡ stored bytes b
  stored_short h = rw (lt-leb (length bytes) (length b) (omega arith))

  pub stored-whole : {all : List ℕ} → k ≤ length b → all ≡ bytes ++ drop k b → of_write (Ok (k)) all ≡ stored bytes b
  stored-whole {all} h e = rw (e, size, le-leb k (length b) h)

-- a call that, by its rule, writes these bytes; `full` says that its stops are a crowded pair
pub record Writes (c : Call) (t : Tables) (known full : Bool) (bytes buffer : List ℕ) : Type 0 where
  pub by-rule : rule c.n c.ask t.layout ≡ writing c.n known full bytes buffer t.layout

pub list-writes : (n s x : ℕ) (t : Tables) (buffer : List ℕ) → Writes (record { n = n; ask = list_routes s x buffer }) t (ltb s n && ltb x n) (crowded_pair most_ways n t.layout s x) (route_list n t.layout s x) buffer
unfolding rule
list-writes n s x t buffer = record { by-rule = refl }

pub image-writes : (n : ℕ) (t : Tables) (buffer : List ℕ) → Writes (record { n = n; ask = image_write buffer }) t true false (image_of n t.layout.cost) buffer
unfolding rule
image-writes n t buffer = record { by-rule = refl }

module _ {c : Call} {t : Tables} {known full : Bool} {bytes buffer : List ℕ} (w : Writes c t known full bytes buffer) where
  -- accepted or refused, it leaves the tables
  pub write-leaves : after c t ≡ t
  write-leaves = leaves-tables c t (rw w.by-rule) (rw w.by-rule)

  -- a refused one tells no place, and its buffer is as it was lent
  refused-so : (r : Outcome) → Done c t t (refused_at r (place_of c t r) (buffer_of c t)) → Done c t t (plain r buffer)
  refused-so r d = subst (λ x. Done c t t (refused_at r (x.place r) x.lent_buffer)) w.by-rule d

  -- it is refused as the audit refuses
  pub write-refused : {t' : Tables} (r : Outcome) → Done (record { n = c.n; ask = audit }) t t' (of_refusal r) → accepted r ≡ false → Done c t t (plain r buffer)
  write-refused r d shut = refused-so r (audit-refused c t (λ s. rw w.by-rule) (rw w.by-rule) (rw w.by-rule) r d shut)

  module _ (a : Audited c.n t) where
    -- behind the audit come its stops, whether they are a crowded pair, and its buffer
    write-tests : refusal c t ≡ need known BadStop (need (not full) CrowdedPair (need (leb (length bytes) (length buffer)) ShortBuffer Accepted))
    write-tests = behind-audit c t (λ s. rw w.by-rule) (rw w.by-rule) (rw w.by-rule) a ∙ rw w.by-rule

    -- a stop of n or more
    pub write-nowhere : known ≡ false → Done c t t (plain (Err BadStop) buffer)
    write-nowhere e = refused-so (Err BadStop) (refused-done c t (Err BadStop) (write-tests ∙ rw e) refl)

    -- a crowded pair
    pub write-crowded : known ≡ true → full ≡ true → Done c t t (plain (Err CrowdedPair) buffer)
    write-crowded e f = refused-so (Err CrowdedPair) (refused-done c t (Err CrowdedPair) (write-tests ∙ rw (e, f)) refl)

    -- its bytes are stored where they fit
    pub write-stored : {x : Answer} → known ≡ true → full ≡ false → x ≡ stored bytes buffer → Done c t t x
    unfolding answer
    write-stored {x} e o f = record { left = sym write-leaves; answered = f ∙ rw (write-tests, e, o, w.by-rule) (go (leb (length bytes) (length buffer))) }
      where
        go : (b : Bool) →
            let r : Outcome = need b ShortBuffer Accepted in
            cond b (writes bytes buffer) (plain (Err ShortBuffer) buffer) ≡ cond (accepted r) (writes bytes buffer) (plain r buffer)
        go true = refl
        go false = refl

    -- and there it is accepted
    pub write-taken : known ≡ true → full ≡ false → length bytes ≤ length buffer → refusal c t ≡ Accepted
    write-taken e o h = write-tests ∙ rw (e, o, le-leb (length bytes) (length buffer) h)

  -- an accepted one has right tables, and answers with its bytes in front of the buffer
  module _ (ok : refusal c t ≡ Accepted) where
    pub written-right : right scale most_ways c.n t ≡ true
    written-right = rw w.by-rule at (audited c t ok)

    pub written-length : (answer c t).length ≡ length bytes
    unfolding answer
    written-length = rw (ok, w.by-rule)

    pub written-buffer : (answer c t).buffer ≡ bytes ++ drop (length bytes) buffer
    unfolding answer
    written-buffer = rw (ok, w.by-rule)
