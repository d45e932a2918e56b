use Rattle.book.specs.Contract.{held, SameLoans}
use Rattle.course.proofs.Going.{Going}
use Rattle.course.proofs.in_turn.edit_each.Given as goal

abbrev pub invariant-loop-i : goal.invariant-loop-i
invariant-loop-i g l = SameLoans l.fn.t l.t × Going l.n (goal.F-post g l.edit_at) (held l.fn.t) l.i l.course (held l.t)
