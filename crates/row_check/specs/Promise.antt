-- What the row check answers: whether lent parts are the row of a source. Assumes nothing.
use Rattle.std.specs.Prelude.{ℕ, Bool, ◌&&◌, List}
use Rattle.routes.specs.Route.{Costs, list_to, same, least_time, capped_ways, open_share}

-- the parts of times, ways and shares are those of source s over the costs W
unfoldable pub is_row : Costs → ℕ → ℕ → ℕ → ℕ → List ℕ → List ℕ → List ℕ → Bool
is_row W n s limit scale time ways share =
    same time (list_to n (least_time W n s)) && (same ways (list_to n (capped_ways W n s limit)) && same share (list_to n (open_share W n s limit scale)))
