-- Bytes copied into a buffer, and a number's bytes as std gives them. Assumes nothing.
use Prim.Native.Nat.{ℕ, ◌+◌, ◌-◌, ◌≤◌}
use mathlib.Core.Path.{◌≡◌, refl}
use mathlib.Core.List.{List}
use native.Mathlib.Nat.{div-div-eq-div-mul}
use native.Mathlib.Omega.{arith}
use lib.ListN.{length, drop}
use lib.Seq.{sets, sets-eq}
use mathlib.Core.List.{append_assoc}
use borrow.Rule.Slice.PartMut.{post_of, put_mid, Post-is}
use Rattle.std.specs.Int.{w16, w32, to_le_bytes}
use Rattle.book.specs.Hall.{low_first}

-- bytes copied over as many behind a place
pub copied : (text out : List ℕ) (at : ℕ) → at + length text ≤ length out → put_mid at (at + length text - at) out text ≡ sets out at text
copied text out at h =
    let rest : post_of at (at + length text - at) out ≡ drop (at + length text) out = Post-is at (at + length text) out (omega arith) in
    simp (rest, append_assoc, sets-eq text out at h)

-- two bytes and four, low byte first
pub low-two : (x : ℕ) → to_le_bytes w16 x ≡ low_first 2 x
unfolding low_first
low-two x = refl

pub low-four : (x : ℕ) → to_le_bytes w32 x ≡ low_first 4 x
unfolding low_first
low-four x = rw (div-div-eq-div-mul, div-div-eq-div-mul)
