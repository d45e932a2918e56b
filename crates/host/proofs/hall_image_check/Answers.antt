use mathlib.Core.Path.{◌∙◌, ap}
use Rattle.book.specs.Call.{number}
use Rattle.host.proofs.hall_image_check.Goals as goal

pub returns : goal.returns
returns c = c.number_of.ensures ∙ ap number c.image_check.ensures
