-- `line_of_three` puts the edit of three words together from what each word is.
use Rattle.words.specs.Text.{line_of}
use Rattle.words.proofs.read.line_of_three.Goals as goal

pub returns : goal.returns
unfolding line_of
returns c = cc
