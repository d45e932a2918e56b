-- What the functions on touched sources and their links promise. Assumes nothing.
use Rattle.std.specs.Prelude.{ℕ, ◌+◌, ◌≡◌, Bool, cond, not, ◌&&◌, ◌||◌, List, eqb, ltb, leb, length, get_or}
use Rattle.routes.specs.Route.{mark, set_of, has}
use Rattle.links.specs.Promise.{stay}
use Rattle.book.specs.Hall.{entry}

-- a link goes, or its cost rises; else it comes, or its cost falls (0 is no link)
abbrev pub rises : (old new : ℕ) → Bool
rises old new = eqb new 0 || (ltb 0 old && ltb old new)

-- by the old times to its ends, and what it takes to pass its first one, the link is on a quickest route, at its old cost where that
-- rises, else at its new one
abbrev pub crosses : Bool → (old new near stay far : ℕ) → Bool
crosses rising old new near stay far = not (eqb near mark) && cond rising (eqb (near + stay + old) far) (leb (near + stay + new) far)

-- the sources from which that holds where the link u to v gets the cost new
pub record Found (n u v new : ℕ) (cost passing times : List ℕ) (sources : ℕ) : Type 0 where
  pub found : let old : ℕ = entry n cost u v in
      sources ≡ set_of n (λ s. crosses (rises old new) old new (entry n times s u) (stay s passing u) (entry n times s v))

-- a set of links that holds the link u to v alone
abbrev pub one_link : (u v : ℕ) → ℕ → ℕ → Bool
one_link u v a b = eqb a u && eqb b v

-- masks of all links, or of those that cost the time between their ends and of the links of a set
pub record Chosen (n : ℕ) (links : ℕ → ℕ → Bool) (all : Bool) (cost time out : List ℕ) : Type 0 where
  pub long : length out ≡ 64
  pub bit : (a b : ℕ) → has (get_or out a 0) b ≡ (ltb a n && (ltb b n && (ltb 0 (entry n cost a b) &&
      (all || (eqb (entry n cost a b) (entry n time a b) || links a b)))))
