-- What the links of a network cost. Assumes nothing.
use Rattle.std.specs.Prelude.{ℕ}
use Rattle.routes.specs.Route.{Costs}
use Rattle.links.specs.declared.network.Network.{Network}
use Rattle.links.specs.Promise.{masked_from}

-- on routes from s
abbrev pub linked_from : Network → ℕ → Costs
linked_from h s = masked_from h.n s h.cost.now h.passing.now h.out.now
