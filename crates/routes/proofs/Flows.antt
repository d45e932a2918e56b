-- E1 and E2 for the definitions in one record: what the laws of shares need of routes. Assumes nothing.
use Prim.Native.Nat.{ℕ, ◌*◌, ◌<◌}
use mathlib.Core.Path.{◌≡◌}
use mathlib.Core.Logic.{◌≢◌}
use Rattle.routes.specs.Route.{Costs, mark, least_time, ways, through}
use Rattle.routes.specs.Equations.{Times, Within, inflow}
use Rattle.routes.proofs.Times.{times, ways-source, ways-reached}
use Rattle.routes.proofs.Ways.{ways-flow, through-flow, through-own}

-- least times by E1; ways, and the ways through each stop v, by the links into a stop
pub record Flows (W : Costs) (n s : ℕ) : Type 0 where
  pub times : Times W n s (least_time W n s)
  pub source : ways W n s s ≡ 1
  pub summed : (t : ℕ) → t < n → t ≢ s → ways W n s t ≡ inflow W n (least_time W n s) (ways W n s) t
  pub reached : (t : ℕ) → t < n → least_time W n s t ≢ mark → 0 < ways W n s t
  pub own : (v : ℕ) → v < n → through W n s v v ≡ ways W n s v
  pub passed : (v t : ℕ) → v < n → t < n → t ≢ v → through W n s v t ≡ inflow W n (least_time W n s) (through W n s v) t

-- they hold where every route is quicker than the mark
pub flows : (W : Costs) (n s c : ℕ) → s < n → Within W n c → n * c < mark → Flows W n s
flows W n s c inside within small = record {
  times = times W n s c inside within small;
  source = ways-source W n s c inside within small;
  summed = ways-flow W n s c inside within small;
  reached = λ t l. (ways-reached W n s c inside within small t l).1;
  own = through-own W n s c inside within small;
  passed = λ v t k. through-flow W n s c inside within small v t;
}
