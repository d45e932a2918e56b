-- Laws of numbers in bytes, low byte first, and of lists of bytes. Assumes nothing.
use Prim.Native.Nat.{ℕ, zero, suc, ◌+◌, ◌*◌, ◌/◌, ◌%◌, ◌<◌, ◌≤◌}
use mathlib.Core.Path.{◌≡◌, refl, ◌∙◌, ap}
use mathlib.Core.List.{List, ◌∷◌, ◌++◌}
use native.Mathlib.Nat.{add-zero}
use native.Mathlib.Numerals.{add-one, add-two}
use native.Mathlib.Omega.{arith}
use lib.ListN.{length, get_or, drop, length-append, length-drop, get_or-append}
use lib.Seq.{sets, sets-eq, take_at, drop-cons, get_or-append-add, drop-append-add, drop-drop}
use Rattle.book.specs.Hall.{low_first, field}

-- every member is a byte
abbrev pub Bytes : List ℕ → Type 0
Bytes l = (i : ℕ) → get_or l i 0 < 256

-- a number in k bytes is k long
pub length-low_first : (k x : ℕ) → length (low_first k x) ≡ k
unfolding low_first
length-low_first zero x = refl
length-low_first (suc k) x = ap suc (length-low_first k (x / 256))

-- fields of one, two and four bytes, byte by byte
pub field-one : (l : List ℕ) (at : ℕ) → field l at 1 ≡ get_or l at 0
unfolding field
field-one l at = omega arith

pub field-two : (l : List ℕ) (at : ℕ) → field l at 2 ≡ get_or l at 0 + 256 * get_or l (at + 1) 0
unfolding field
field-two l at = omega arith

pub field-four : (l : List ℕ) (at : ℕ) →
    field l at 4 ≡ get_or l at 0 + 256 * get_or l (at + 1) 0 + 65536 * get_or l (at + 2) 0 + 16777216 * get_or l (at + 3) 0
unfolding field
field-four l at =
    let two : at + 1 + 1 ≡ at + 2 = omega arith in
    let three : at + 2 + 1 ≡ at + 3 = omega arith in
    rw (two, three) (omega arith)

-- a field within the first part of a list
pub field-append : (k : ℕ) (l m : List ℕ) (at : ℕ) → at + k ≤ length l → field (l ++ m) at k ≡ field l at k
unfolding field
field-append zero l m at h = refl
field-append (suc k) l m at h =
    omega (arith, get_or-append l m 0 at (omega arith), field-append k l m (at + 1) (omega arith))

-- a field of the second part
pub field-behind : (k : ℕ) (l m : List ℕ) (at i : ℕ) → at ≡ length l + i → field (l ++ m) at k ≡ field m i k
unfolding field
field-behind zero l m at i e = refl
field-behind (suc k) l m at i e =
    omega (arith, ap (λ j. get_or (l ++ m) j 0) e, get_or-append-add l m i 0, field-behind k l m (at + 1) (i + 1) (omega arith))

-- bytes are the field that they hold, written
pub written-field : (k : ℕ) (l : List ℕ) (at : ℕ) → Bytes l → at + k ≤ length l → drop at l ≡ low_first k (field l at k) ++ drop (at + k) l
unfolding field low_first
written-field zero l at b h = rw add-zero
written-field (suc k) l at b h =
    let x : ℕ = get_or l at 0 + 256 * field l (at + 1) k in
    let low : x % 256 ≡ get_or l at 0 = omega (arith, b at) in
    let high : x / 256 ≡ field l (at + 1) k = omega (arith, b at) in
    let next : suc at ≡ at + 1 = omega arith in
    let end : at + 1 + k ≡ at + suc k = omega arith in
    let rest : drop (at + 1) l ≡ low_first k (field l (at + 1) k) ++ drop (at + suc k) l = rw end at (written-field k l (at + 1) b (omega arith)) in
    drop-cons l at 0 (omega arith) ∙ rw (low, high, next) (ap (λ m. get_or l at 0 ∷ m) rest)

-- two bytes as fields
pub two_fields : (l : List ℕ) (at : ℕ) → at + 2 ≤ length l → drop at l ≡ field l at 1 ∷ field l (at + 1) 1 ∷ drop (at + 2) l
two_fields l at h =
    rw (field-one l at, field-one l (at + 1), add-two) (drop-cons l at 0 (omega arith) ∙ ap (λ m. get_or l at 0 ∷ m) (rw add-one (drop-cons l (suc at) 0 (omega arith))))

-- bytes stored in a lent buffer, behind those that are written
pub stored : (vs p b : List ℕ) (at : ℕ) → length p ≡ at → at + length vs ≤ length b →
    sets (p ++ drop at b) at vs ≡ (p ++ vs) ++ drop (at + length vs) b
stored vs p b at e h =
    let fits : at + length vs ≤ length (p ++ drop at b) = simp (length-append, length-drop) (omega arith) in
    let rest : drop (length p + length vs) (p ++ drop at b) ≡ drop (length vs) (drop at b) = drop-append-add p (drop at b) (length vs) in
    sets-eq vs (p ++ drop at b) at fits ∙ rw (take_at p (drop at b) at e) (ap (λ r. p ++ vs ++ r) ((rw e at rest) ∙ drop-drop (length vs) at b))
