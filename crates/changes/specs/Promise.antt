-- What the functions that apply an edit promise. Assumes nothing.
use Rattle.std.specs.Prelude.{ℕ, ◌*◌, ◌<◌, ◌≤◌, ◌≡◌, ◌≢◌, Bool, true, List, length}
use Rattle.links.specs.Promise.{masked_from}
use Rattle.book.specs.Hall.{Layout, Tables, largest_cost, entry, filled, valid_costs, valid_passing, touched}
use Rattle.book.specs.Call.{Answer, names, with_cost}
use Rattle.tables.specs.Promise.{FilledRows, Worked}
use Rattle.touch.specs.Promise.{Chosen}

-- the tables of a hall, and another cost for its link u to v, or none
pub record Change (m L n u v new : ℕ) (l : Layout) (times counts shares : List ℕ) : Type 0 where
  pub most : n ≤ 64
  pub square : length l.cost ≡ n * n
  pub long : length l.passing ≡ n
  pub valid : valid_costs n l.cost ≡ true
  pub passable : valid_passing n l.passing ≡ true
  pub worked : Worked m L n l times counts shares
  pub from : u < n
  pub to : v < n
  pub apart : u ≢ v
  pub fits : new ≤ largest_cost
  pub differs : entry n l.cost u v ≢ new

-- the rows of a set are worked out over the chosen links, the others are as they were
pub record Reworked (m L n : ℕ) (links : ℕ → ℕ → Bool) (all : Bool) (sources : ℕ) (l : Layout) (times counts shares times' counts' shares' : List ℕ) : Type 0 where
  pub out : List ℕ
  pub chosen : Chosen n links all l.cost times out
  pub filled : FilledRows m L (λ s. masked_from n s l.cost l.passing out) n sources times counts shares times' counts' shares'

-- the tables and the answer of the changed hall
pub record Applied (m L n u v new : ℕ) (t t' : Tables) (a : Answer) : Type 0 where
  pub left : t' ≡ filled L m n (with_cost n u v new t.layout)
  pub answered : a ≡ names n (touched n t.layout (with_cost n u v new t.layout) u v) (entry n t.layout.cost u v)
