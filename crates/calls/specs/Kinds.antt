-- The place of a name, what a call of it asks for, and the name of what a call asks for. Assumes nothing.
use Rattle.std.specs.Prelude.{ℕ, ◌+◌}
use Rattle.book.specs.declared.Kind.{Kind}
use Rattle.book.specs.declared.Kind.TheVariants.{Insert, Cheapen, Raise, Delete}
use Rattle.calls.specs.declared.list.List.{List}
use Rattle.calls.specs.declared.call.Name.{Name}
use Rattle.calls.specs.declared.call.Name.TheVariants as name
use Rattle.calls.specs.declared.call.Act.{Act}
use Rattle.calls.specs.declared.call.Act.TheVariants as act

-- the place of a kind of edit among the kinds
abbrev pub kind_place : Kind → ℕ
kind_place Insert = 0
kind_place Cheapen = 1
kind_place Raise = 2
kind_place Delete = 3

-- the place of a name among the names, with the kinds of edits apart
abbrev pub name_number : Name → ℕ
name_number name.EmptyHall = 0
name_number name.WorkOut = 1
name_number name.Audit = 2
name_number (name.Edit kind) = 3 + kind_place kind
name_number name.EditList = 7
name_number name.ImageWrite = 8
name_number name.ImageRead = 9
name_number name.MoveOver = 10
name_number name.ListRoutes = 11
name_number name.ImageCheck = 12

-- with two stops, a cost and a list, of which it reads what it brings
abbrev pub act_of : Name → ℕ → ℕ → ℕ → List → Act
act_of name.EmptyHall u v cost list = act.EmptyHall
act_of name.WorkOut u v cost list = act.WorkOut
act_of name.Audit u v cost list = act.Audit
act_of (name.Edit kind) u v cost list = act.Edit (record { kind = kind; u = u; v = v; cost = cost })
act_of name.EditList u v cost list = act.EditList list
act_of name.ImageWrite u v cost list = act.ImageWrite
act_of name.ImageRead u v cost list = act.ImageRead
act_of name.MoveOver u v cost list = act.MoveOver
act_of name.ListRoutes u v cost list = act.ListRoutes u v
act_of name.ImageCheck u v cost list = act.ImageCheck

abbrev pub name_of : Act → Name
name_of act.EmptyHall = name.EmptyHall
name_of act.WorkOut = name.WorkOut
name_of act.Audit = name.Audit
name_of (act.Edit edit) = name.Edit edit.kind
name_of (act.EditList list) = name.EditList
name_of act.ImageWrite = name.ImageWrite
name_of act.ImageRead = name.ImageRead
name_of act.MoveOver = name.MoveOver
name_of (act.ListRoutes s t) = name.ListRoutes
name_of act.ImageCheck = name.ImageCheck
