-- What the work on entries of tables promises. Assumes nothing.
use Rattle.std.specs.Prelude.{ℕ, ◌+◌, ◌*◌, ◌^◌, ◌<◌, ◌≤◌, ◌≡◌, Bool, List, ◌++◌, leb, length, get_or, drop}
use Rattle.routes.specs.Route.{sum_to, list_to, all_to}
use Rattle.book.specs.Hall.{entry}

-- the place r where row s of a table begins
pub record Starts (n s r : ℕ) : Type 0 where
  pub place : r ≡ s * n
  pub ends : r + n ≤ n * n
  pub small : n * n ≤ 4096

-- no entry is above the limit
abbrev pub none_above : ℕ → List ℕ → Bool
none_above limit l = all_to (length l) (λ i. leb (get_or l i 0) limit)

-- a table of shares whose sums fit: a share is at most 62 × 2^32
pub record Shares (n : ℕ) (share : List ℕ) : Type 0 where
  pub most : n ≤ 64
  pub square : length share ≡ n * n
  pub small : (s v : ℕ) → s < n → v < n → entry n share s v < 2 ^ 38

-- the sums of the shares of each stop over the first k sources, in front of the rest of a list
abbrev pub summed : (n k : ℕ) → (share sum : List ℕ) → List ℕ
summed n k share sum = list_to n (λ v. sum_to k (λ s. entry n share s v)) ++ drop n sum
