-- An image while it is written: the records and the number of links of the pairs passed so far, and the trailer. Assumes nothing.
use Rattle.std.specs.Prelude.{ℕ, ◌+◌, ◌*◌, cond, List, [], ◌∷◌, ◌++◌}
use Rattle.routes.specs.Route.{Costs, sum_to, join_to, link}
use Rattle.book.specs.Hall.{low_first}

-- the record of the link u to v, none where there is no link
abbrev pub link_record : Costs → ℕ → ℕ → List ℕ
link_record W u v = cond (link W u v) (u ∷ v ∷ low_first 2 (W u v)) []

-- the records, and the number of links, of all pairs before (u, v)
unfoldable pub records_to : ℕ → Costs → ℕ → ℕ → List ℕ
records_to n W u v = join_to u (λ u. join_to n (link_record W u)) ++ join_to v (link_record W u)

unfoldable pub links_to : ℕ → Costs → ℕ → ℕ → ℕ
links_to n W u v = sum_to u (λ u. sum_to n (λ v. cond (link W u v) 1 0)) + sum_to v (λ v. cond (link W u v) 1 0)

-- the trailer of an image of c links
abbrev pub trailer : ℕ → ℕ → List ℕ
trailer n c = n ∷ 1 ∷ (low_first 2 c ++ low_first 4 (4 * c))
