-- What the fill of a row promises to its callers. Assumes nothing.
use Rattle.std.specs.Prelude.{ℕ, ◌≡◌, List}
use Rattle.routes.specs.Route.{Costs, list_to, least_time, capped_ways, open_share}

-- the parts of times, ways and shares that belong to source s over the costs W
pub record RightRow (W : Costs) (n s limit scale : ℕ) (time ways share : List ℕ) : Type 0 where
  pub times : time ≡ list_to n (least_time W n s)
  pub counts : ways ≡ list_to n (capped_ways W n s limit)
  pub shares : share ≡ list_to n (open_share W n s limit scale)
