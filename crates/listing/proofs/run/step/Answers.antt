-- `step` goes by what the line says; an unread line leaves the tables.
use Rattle.std.proofs.Common.{sym, ◌∙◌, None, Some}
use Rattle.words.specs.Text.{said, next}
use Rattle.listing.proofs.Books.{own, edit-left, edit-said}
use Rattle.listing.proofs.Running.{line-fits}
use Rattle.listing.proofs.run.step.Goals as goal

pub unread_line-requires : goal.unread_line-requires
unfolding said
unread_line-requires c = line-fits c.requires.audited None c.requires.room

pub edit_line-requires : goal.edit_line-requires
edit_line-requires c =
    let said = edit-said c.requires.audited c.in-Some.edit c.edit_audited.ensures.done c.args.i in
    rw said at (line-fits c.requires.audited (Some c.in-Some.edit) c.requires.room)

pub returns-in-None : goal.returns-in-None
unfolding said next
returns-in-None c = rw (sym c.line_of.ensures ∙ c.in-None.is) (record { left = own c.requires.audited; printed = c.unread_line.ensures })

pub returns-in-Some : goal.returns-in-Some
returns-in-Some c =
    let said = edit-said c.requires.audited c.in-Some.edit c.edit_audited.ensures.done c.args.i in
    rw (sym c.line_of.ensures ∙ c.in-Some.is) (record { left = edit-left c.requires.audited c.in-Some.edit c.edit_audited.ensures.done; printed = rw said c.edit_line.ensures })
