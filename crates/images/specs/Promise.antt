-- What the writing and the reading of images promise. Assumes nothing.
use Rattle.std.specs.Prelude.{ℕ, ◌*◌, ◌≤◌, ◌≡◌, true, cond, List, [], ◌∷◌, ◌++◌, ltb, length, get_or, drop}
use Rattle.routes.specs.Route.{sum_to}
use Rattle.book.specs.Hall.{entry, valid_costs, low_first}
use Rattle.book.specs.Written.{records_to, links_to}

-- 1 for the cost of a link, 0 where there is none; its record, no byte where there is none; and the number of links of a cost table
abbrev pub link_bit : ℕ → ℕ
link_bit cost = cond (ltb 0 cost) 1 0

abbrev pub link_bytes : ℕ → ℕ → ℕ → List ℕ
link_bytes u v cost = cond (ltb 0 cost) (u ∷ v ∷ low_first 2 cost) []

abbrev pub links : List ℕ → ℕ
links cost = sum_to (length cost) (λ i. link_bit (get_or cost i 0))

-- a hall's cost table, and a buffer that has room for all its records
pub record Room (n : ℕ) (cost buffer : List ℕ) : Type 0 where
  pub most : n ≤ 64
  pub square : length cost ≡ n * n
  pub valid : valid_costs n cost ≡ true
  pub fits : 4 * links_to n (entry n cost) n 0 ≤ length buffer

-- a writer went on from the pairs before (u, v) to those before (u', v'): behind the records of the first, which stood in front of
-- place `at`, it stored the others up to `end`, and the bytes past it stay
pub record Wrote (n : ℕ) (cost : List ℕ) (u v at u' v' end : ℕ) (before after : List ℕ) : Type 0 where
  pub place : end ≡ 4 * links_to n (entry n cost) u' v'
  pub bytes : (old : List ℕ) → length old ≡ length before → before ≡ records_to n (entry n cost) u v ++ drop at old → after ≡ records_to n (entry n cost) u' v' ++ drop end old
