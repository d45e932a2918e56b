-- What the writing of bytes one behind the other leaves of a buffer. Assumes nothing.
use Rattle.std.specs.Prelude.{◌≡◌, ℕ, ◌-◌, ◌+◌, ◌≤◌, List, length, drop, refl}
use Rattle.std.specs.Borrow.{MutBor}
use Rattle.std.proofs.Common.{sym, ap, ◌∙◌, arith, drop-drop}

-- the next byte went to the place `from` before and goes to the place `to` now; from there on the buffer is as it was
pub record Wrote (from to : ℕ) (before after : List ℕ) : Type 0 where
  pub rises : from ≤ to
  pub within : to ≤ length before
  pub behind : drop to after ≡ drop to before

-- the same of a buffer that is lent and stays the one that was lent
pub record WroteOn (from to : ℕ) (before after : MutBor (List ℕ)) : Type 0 where
  pub same_reference : after.ghost_name ≡ before.ghost_name
  pub same_length : length after.now ≡ length before.now
  pub wrote : Wrote from to before.now after.now

pub behind_more : (a b : ℕ) (l m : List ℕ) → a ≤ b → drop a m ≡ drop a l → drop b m ≡ drop b l
behind_more a b l m h e =
    let meet : a + (b - a) ≡ b = omega arith in
    rw meet at (sym (drop-drop (b - a) a m) ∙ ap (drop (b - a)) e ∙ drop-drop (b - a) a l)

-- what is written behind what was written
pub wrote_then : {a b c : ℕ} {l m o : List ℕ} → Wrote a b l m → length m ≡ length l → Wrote b c m o → Wrote a c l o
wrote_then {a} {b} {c} {l} {m} {o} first same next = record {
  rises = omega arith;
  within = omega arith;
  behind = next.behind ∙ behind_more b c l m next.rises first.behind;
}

pub stays_on : (a : ℕ) (l : MutBor (List ℕ)) → a ≤ length l.now → WroteOn a a l l
stays_on a l within = record {
  same_reference = refl;
  same_length = refl;
  wrote = record { rises = omega arith; within = within; behind = refl };
}

pub goes_on : {a b c : ℕ} {l m o : MutBor (List ℕ)} → WroteOn a b l m → WroteOn b c m o → WroteOn a c l o
goes_on first next = record {
  same_reference = next.same_reference ∙ first.same_reference;
  same_length = next.same_length ∙ first.same_length;
  wrote = wrote_then first.wrote first.same_length next.wrote;
}
