-- The sets of links that one mask holds. Assumes nothing.
use Rattle.std.specs.Prelude.{ℕ, ◌+◌, ◌*◌, ◌^◌, ◌<◌, ◌≡◌, Bool, ◌&&◌, List, ltb, length, get_or}
use Rattle.routes.specs.Route.{has}

-- a list has the set of each stop alone
pub record Singles (list : List ℕ) : Type 0 where
  pub alone : (t : ℕ) → t < 64 → get_or list t 0 ≡ 2 ^ t

-- a set holds the stops t below n with p u t, where u is a stop
abbrev pub Mask : ℕ → (ℕ → ℕ → Bool) → ℕ → ℕ → Type 0
Mask n p u a = (t : ℕ) → has a t ≡ (ltb u n && (ltb t n && p u t))

-- a test answers p at every place of a table of n stops
abbrev pub Answers : (ℕ → Bool → Type 0) → ℕ → (ℕ → Bool) → Type 0
Answers answers n p = (at : ℕ) (yes : Bool) → at < n * n → answers at yes → yes ≡ p at

-- a list has for every stop the links whose places pass
pub record Masks (n : ℕ) (p : ℕ → Bool) (out : List ℕ) : Type 0 where
  pub long : length out ≡ 64
  pub bit : (u : ℕ) → Mask n (λ u t. p (u * n + t)) u (get_or out u 0)
