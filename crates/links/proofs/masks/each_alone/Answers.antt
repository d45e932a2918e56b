use Rattle.std.proofs.Common.{rules}
use Rattle.links.proofs.masks.each_alone.Goals as goal

pub returns : goal.returns
returns c = record { alone = λ t l. let (p, q, h) = c.from_fn.ensures.items.at t 0 l in search rules }
