-- What a step over a set of stops gives. Assumes nothing.
use Rattle.std.specs.Prelude.{ℕ, ◌≡◌, Option, MatchOption}
use Rattle.routes.specs.Sets.{Popped}

-- nothing, where the set is empty, or else its lowest stop, and the set without it
abbrev pub Takes : ℕ → Option ℕ → ℕ → Type 0
Takes a r b = MatchOption r ((a ≡ 0) × (b ≡ 0)) (λ t. Popped a t b)
