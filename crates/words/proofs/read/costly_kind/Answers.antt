-- `costly_kind` asks for the names of its kinds, one after another.
use Rattle.words.specs.Text.{bytes, kind_in}
use Rattle.words.proofs.Reading.{or-cond}
use Rattle.words.proofs.read.costly_kind.Goals as goal

pub returns : goal.returns
unfolding bytes kind_in
returns c = rw (c.or-2.ensures, c.or.ensures, c.if_named.ensures, c.if_named-2.ensures, c.if_named-3.ensures, or-cond, or-cond, or-cond)
