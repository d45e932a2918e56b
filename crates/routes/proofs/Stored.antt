-- A loop that stores f 0, f 1, .. from the front of a list. Assumes nothing.
use Prim.Native.Nat.{ℕ, suc, ◌+◌, ◌-◌, ◌<◌, ◌≤◌}
use mathlib.Core.Path.{◌≡◌, refl, sym, ◌∙◌, ap}
use mathlib.Core.List.{List, [], ◌∷◌, ◌++◌, append-nil}
use native.Mathlib.Decide.{ℕ_discrete, dec_lt}
use native.Mathlib.Nat.{add-zero, le_antisymm}
use native.Mathlib.Omega.{arith}
use lib.ListN.{length, get_or, set, drop, replicate, length-append, length-drop, length-set, length-replicate, get_or-replicate, drop_of_length-le, get_or-append}
use lib.Seq.{sets, drop_at, ext_get_or, get_or-append-add, get_or-drop, get_or-set_same, get_or-set_other}
use Rattle.routes.specs.Route.{list_to}
use Rattle.routes.specs.Stored.{Stored}
use Rattle.routes.proofs.Rows.{length-list_to, get_or-list_to}

module _ (f : ℕ → ℕ) where
  pub stored-none : (l : List ℕ) → Stored f 0 l l
  stored-none l = record { long = refl; done = λ i h. absurd (omega arith); rest = λ i h. refl }

  pub stored_more : (k x : ℕ) (old now : List ℕ) → k < length old → x ≡ f k → Stored f k old now → Stored f (k + 1) old (set now k x)
  stored_more k x old now l e s = record {
    long = length-set now k x ∙ s.long;
    done = λ i h. elim (ℕ_discrete i k) [
      | yes p ↦ ap (λ j. get_or (set now k x) j 0) p ∙ get_or-set_same now k x 0 (omega (arith, s.long)) ∙ e ∙ ap f (sym p)
      | no p ↦ get_or-set_other now k i x 0 p ∙ s.done i (omega arith)
    ];
    rest = λ i h. get_or-set_other now k i x 0 (omega arith) ∙ s.rest i (omega arith);
  }

  pub stored-ends : {n k : ℕ} {old now : List ℕ} → k ≤ n → n ≤ k → Stored f k old now → Stored f n old now
  stored-ends l g s = rw (← le_antisymm l g) s

  -- a list with f 0, f 1, .. in front: its first entries, and the rest
  pub front_at : (n i : ℕ) (rest : List ℕ) → i < n → get_or (list_to n f ++ rest) i 0 ≡ f i
  front_at n i rest h = get_or-append (list_to n f) rest 0 i (rw length-list_to h) ∙ get_or-list_to n f 0 i h

  pub front_rest : (n : ℕ) (old : List ℕ) {now : List ℕ} → now ≡ list_to n f ++ drop n old → drop n now ≡ drop n old
  front_rest n old e = ap (drop n) e ∙ drop_at (list_to n f) (drop n old) n (length-list_to n f)

  behind : (n i : ℕ) (l : List ℕ) → n ≤ i → get_or (list_to n f ++ drop n l) i 0 ≡ get_or l i 0
  behind n i l h =
      let split : n + (i - n) ≡ i = omega arith in
      let place : length (list_to n f) + (i - n) ≡ i = ap (λ k. k + (i - n)) (length-list_to n f) ∙ split in
      ap (λ j. get_or (list_to n f ++ drop n l) j 0) (sym place) ∙ get_or-append-add (list_to n f) (drop n l) (i - n) 0 ∙ get_or-drop n l (i - n) 0 ∙ ap (λ j. get_or l j 0) split

  -- a loop that stored n values leaves them in front of the rest
  pub stored-front : (n : ℕ) {k : ℕ} {old now : List ℕ} → n ≤ length old → k ≤ n → n ≤ k → Stored f k old now → now ≡ list_to n f ++ drop n old
  stored-front n {k} {old} {now} h l m s = ext_get_or 0 now (list_to n f ++ drop n old) long λ i b. elim (dec_lt i n) [
    | yes p ↦ s.done i (omega arith) ∙ sym (front_at n i (drop n old) p)
    | no p ↦ s.rest i (omega arith) ∙ sym (behind n i old (omega arith))
  ]
    where
      long : length now ≡ length (list_to n f ++ drop n old)
      long = omega (arith, s.long, length-append (list_to n f) (drop n old), length-list_to n f, length-drop n old)

-- no rest stands behind as many entries as a list has
pub front-whole : (n : ℕ) (front l : List ℕ) → length l ≡ n → front ++ drop n l ≡ front
front-whole n front l e = rw (drop_of_length-le l {i = n} (omega arith)) (append-nil front)

-- one value at every place
pub stored-whole : (x n : ℕ) {k : ℕ} {old now : List ℕ} → length old ≡ n → n ≤ k → Stored (λ i. x) k old now → now ≡ replicate n x
stored-whole x n {k} {old} {now} e l s =
    ext_get_or 0 now (replicate n x) (s.long ∙ e ∙ sym (length-replicate n x)) λ i h.
    let below : i < n = omega (arith, s.long) in
    s.done i (omega arith) ∙ sym (get_or-replicate n i x 0 below)

-- a run of stores behind another one
pub sets-append : (vs ws l : List ℕ) (at : ℕ) → sets (sets l at vs) (at + length vs) ws ≡ sets l at (vs ++ ws)
sets-append [] ws l at = rw add-zero
sets-append (v ∷ vs) ws l at =
    let e : at + suc (length vs) ≡ suc at + length vs = omega arith in
    rw e (sets-append vs ws (set l at v) (suc at))
