-- A walk over the quickest routes from one stop to another, by times alone: near x is the time from the first stop to x, far x what is
-- still to come from x on to the last stop t. Assumes nothing.
use Rattle.std.specs.Prelude.{ℕ, zero, suc, ◌+◌, ◌-◌, Bool, cond, ◌&&◌, List, [], ◌∷◌, ◌++◌, eqb, ltb}
use Rattle.routes.specs.Route.{Costs, link, sum_to, join_to}

-- how many stops below n have a lower number than u
abbrev pub earlier_than : ℕ → (ℕ → ℕ) → ℕ → ℕ
earlier_than n d u = sum_to n (λ x. cond (ltb (d x) (d u)) 1 0)

module _ (W : Costs) (n : ℕ) (near far : ℕ → ℕ) (t : ℕ) where
  -- the link u to y leads on to t: it brings to y at the time of y, and the times to y and from y on add up to the time to t
  abbrev pub leads : ℕ → ℕ → Bool
  leads u y = link W u y && (eqb (near u + W u y) (near y) && eqb (near y + far y) (near t))

  -- the routes that go on from u behind the stops p, with at most m stops from u on
  unfoldable pub walk : ℕ → List ℕ → ℕ → List (List ℕ)
  walk zero p u = []
  walk (suc m) p u = cond (eqb u t) ((p ++ (u ∷ [])) ∷ []) (join_to n (λ y. cond (leads u y) (walk m (p ++ (u ∷ [])) y) []))

  -- the routes that go on from u, the last stop of p, by a link to a stop counted from `from`, with at most m stops behind u
  unfoldable pub walk_from : ℕ → List ℕ → ℕ → ℕ → List (List ℕ)
  walk_from m p u from = join_to (n - from) (λ i. cond (leads u (from + i)) (walk m p (from + i)) [])
