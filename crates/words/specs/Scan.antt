-- Where a byte stands in a text. Assumes nothing.
use Rattle.std.specs.Prelude.{ℕ, List, eqb}
use Rattle.std.specs.List.{position_or_len}

-- the place of the first byte d of a text, or the text's length
unfoldable pub index_of : ℕ → List ℕ → ℕ
index_of d text = position_or_len (λ x. eqb x d) text
