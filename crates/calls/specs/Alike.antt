-- Two answers with the same refusal and the same numbers. Assumes nothing.
use Rattle.std.specs.Prelude.{◌≡◌}
use Rattle.calls.specs.declared.answer.Answer.{Answer}

abbrev pub Alike : Answer → Answer → Type 0
Alike a b = (a.refusal ≡ b.refusal) × (a.touched ≡ b.touched) × (a.rows ≡ b.rows) × (a.before ≡ b.before) × (a.place ≡ b.place) × (a.length ≡ b.length)
