-- The numbers of a list of edits, four for each. Assumes nothing.
use Rattle.std.specs.Prelude.{ℕ, ◌*◌, ◌/◌, ◌%◌, cond, ltb, List, [], ◌∷◌, slice_index, slice_index_or}
use Rattle.book.specs.declared.Kind.{Kind}
use Rattle.book.specs.declared.Kind.TheVariants.{Insert, Cheapen, Raise, Delete}
use Rattle.book.specs.declared.Edit.{Edit}

abbrev pub kind_number : Kind → ℕ
kind_number Insert = 1
kind_number Cheapen = 2
kind_number Raise = 3
kind_number Delete = 4

abbrev pub four : Edit → List ℕ
four e = kind_number e.kind ∷ e.u ∷ e.v ∷ e.cost ∷ []

-- number i of edits, of which it has one, so that the other is not read
abbrev pub number_at : List Edit → Edit → ℕ → ℕ
number_at edits other i = slice_index (four (slice_index_or edits (i / 4) other)) (i % 4)

-- the same of the first edits, so many, and 0 behind them
abbrev pub number_in : ℕ → List Edit → Edit → ℕ → ℕ
number_in count edits other i = cond (ltb i (4 * count)) (number_at edits other i) 0
