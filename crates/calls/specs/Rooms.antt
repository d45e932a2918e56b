-- The entries of each table of a hall, and the room for them. Assumes nothing.
use Rattle.std.specs.Prelude.{ℕ, ◌*◌}
use Rattle.calls.specs.declared.lengths.Table.{Table}
use Rattle.calls.specs.declared.lengths.Table.TheVariants.{Cost, Time, Ways, Share, Score, Passing}

abbrev pub room_of : Table → ℕ
room_of Cost = 4225
room_of Time = 4225
room_of Ways = 4225
room_of Share = 4225
room_of Score = 65
room_of Passing = 65

abbrev pub entries_of : Table → ℕ → ℕ
entries_of Cost n = n * n
entries_of Time n = n * n
entries_of Ways n = n * n
entries_of Share n = n * n
entries_of Score n = n
entries_of Passing n = n
