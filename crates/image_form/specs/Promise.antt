-- What the image check promises of a record. Assumes nothing.
use Rattle.std.specs.Prelude.{ℕ, ◌+◌, ◌*◌, List}
use Rattle.book.specs.Hall.{field}

-- the key of the record at a place: its two stops as one number
abbrev pub key_at : List ℕ → ℕ → ℕ
key_at image at = 256 * field image at 1 + field image (at + 1) 1
