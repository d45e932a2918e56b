use Rattle.std.proofs.Common.{◌≡◌, ℕ, ◌<◌, length, slice_index}
use Rattle.book.specs.declared.Edit.{Edit}
use Rattle.calls.specs.Lists.{number_in}
use Rattle.calls.proofs.list.List.numbers.Given as goal

abbrev pub invariant-loop-i : goal.invariant-loop-i
invariant-loop-i l =
    (length l.number-items ≡ 136) × ((k : ℕ) → (other : Edit) → k < l.i → slice_index l.number-items k ≡ number_in l.self.length l.self.edits other k)
