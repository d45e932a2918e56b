-- A route stored stop by stop. Assumes nothing.
use Prim.Native.Nat.{ℕ, ◌+◌, ◌<◌}
use mathlib.Core.Path.{◌≡◌}
use mathlib.Core.List.{List, [], ◌∷◌, ◌++◌}
use native.Mathlib.Numerals.{add-one}
use native.Mathlib.Omega.{arith}
use lib.ListN.{length, get_or, take, set}
use lib.Seq.{sets, take-suc, length-take-le}
use Rattle.routes.proofs.Stored.{sets-append}

-- the next member of a list, stored behind those before it
pub next-stored : (i at : ℕ) (path l : List ℕ) → i < length path → set (sets l at (take i path)) (at + i) (get_or path i 0) ≡ sets l at (take (i + 1) path)
next-stored i at path l h =
    let place : at + i ≡ at + length (take i path) = omega (arith, length-take-le i path (omega arith)) in
    let more : take (i + 1) path ≡ take i path ++ (get_or path i 0 ∷ []) = rw add-one (take-suc path i 0 h) in
    rw (place, more) (sets-append (take i path) (get_or path i 0 ∷ []) l at)
