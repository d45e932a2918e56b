-- `if_named` compares the word and the name byte for byte.

use Rattle.words.proofs.Reading.{same-pointwise, some-then}
use Rattle.words.proofs.read.if_named.Goals as goal

pub returns : goal.returns
returns c = rw (c.then_some.ensures, c.eq.ensures, same-pointwise c.args.word.now c.args.name.now) (some-then _ _)
