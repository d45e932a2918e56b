use Rattle.std.proofs.Common.{rules}
use Rattle.links.proofs.masks.useful_links.Goals as goal

pub returns : goal.returns
returns c = c.links_where.ensures _ (λ at yes l h. search rules)
