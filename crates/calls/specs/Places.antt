-- Where a table has its entry for two stops. Assumes nothing.
use Rattle.std.specs.Prelude.{ℕ, ◌+◌, ◌*◌, cond, ◌||◌, nat_lt, nat_le, Option, Some, None}

-- row by row, in a hall of at most 65 stops that has both
abbrev pub place_of : ℕ → ℕ → ℕ → Option ℕ
place_of n u v = cond (nat_lt 65 n || (nat_le n u || nat_le n v)) None (Some (u * n + v))
