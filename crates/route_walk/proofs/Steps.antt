-- The steps of the walk: what each leaves to be stored, that it is stored behind what was, and that a number falls. Assumes nothing.
use Prim.Native.Nat.{ℕ, suc, ◌+◌, ◌*◌, ◌-◌, ◌<◌, ◌≤◌}
use mathlib.Core.Path.{◌≡◌, refl, sym, ◌∙◌, ap}
use mathlib.Core.Logic.{◌≢◌}
use mathlib.Core.Bool.{Bool, true, false, cond}
use mathlib.Core.List.{List, [], ◌∷◌, ◌++◌, append_assoc, append-nil}
use native.Mathlib.Nat.{suc-mul, le_refl, sub-zero}
use native.Mathlib.Numerals.{add-one}
use native.Mathlib.Omega.{arith}
use lib.Dec.{eqb}
use borrow.Author.Tests.{eqb-true, eq-eqb, ltb-true}
use lib.ListN.{length, take, set, length-append, length-set}
use lib.Seq.{sets, take-suc-set, take-set-le, take-take, length-take-le}
use Rattle.routes.specs.Route.{Costs}
use Rattle.routes.proofs.Walking.{leads-true}
use Rattle.routes.proofs.Onward.{walk_end, walk-on, walk-past, walk-skip, walk-next, earlier-few, earlier_more}
use Rattle.book.specs.Hall.{entry, route_bytes}
use Rattle.route_walk.specs.Promise.{Ready, from_s, near, far, Next, Standing, routes_from, routes_along, bytes_from, bytes_along, bytes_whole, from_left, along_left, Wrote}
use Rattle.routes.proofs.Stored.{sets-append}

-- the bytes of routes behind routes, and of one route
bytes-append : (a b : List (List ℕ)) → route_bytes (a ++ b) ≡ route_bytes a ++ route_bytes b
unfolding route_bytes
bytes-append [] b = refl
bytes-append (r ∷ a) b =
    ap (λ l. length r ∷ (r ++ l)) (bytes-append a b) ∙ ap (λ l. length r ∷ l) (sym (append_assoc r (route_bytes a) (route_bytes b)))

bytes_one : (r : List ℕ) → route_bytes (r ∷ []) ≡ length r ∷ r
unfolding route_bytes
bytes_one r = rw append-nil

module _ {n s t : ℕ} {cost passing time : List ℕ} {k u : ℕ} {path : List ℕ} (S : Standing n s t cost passing time k u path) where
  -- the costs as they count on routes from s, the times from s, and those on to t
  abbrev W : Costs
  W = from_s n s t cost passing time

  abbrev d : ℕ → ℕ
  d = near n s t cost passing time

  abbrev f : ℕ → ℕ
  f = far n s t cost passing time

  -- fewer than n stops stand in front of u, so that it has room in the path
  pub fits : (k < n) × (k < length path)
  fits =
      let most : k < n = omega (arith, S.front, earlier-few n d u S.inside) in
      (most, omega (arith, S.long))

  -- the path with u behind its first k stops
  put : take (k + 1) (set path k u) ≡ take k path ++ (u ∷ [])
  put = rw add-one (take-suc-set path k u fits.1)

  stops-left : n - k ≡ suc (n - (k + 1))
  stops-left = omega (arith, fits)

  -- at the last stop one route is left, the path
  pub end-bytes : u ≡ t → bytes_from n s t cost passing time k path u ≡ (k + 1) ∷ take (k + 1) (set path k u)
  end-bytes e =
      let size : length (take k path ++ (u ∷ [])) ≡ k + 1 = length-append (take k path) (u ∷ []) ∙ omega (arith, length-take-le k path (omega (arith, fits))) in
      rw (stops-left, walk_end W n d f t (n - (k + 1)) (take k path) u e, bytes_one, size, put)

  path-long : length (take (k + 1) (set path k u)) ≡ k + 1
  path-long = length-take-le (k + 1) (set path k u) (omega (arith, length-set path k u, fits))

  -- it has room where its bytes have, and is stored behind its number
  pub end-room : (at room' : ℕ) → u ≡ t → at + length (bytes_from n s t cost passing time k path u) ≤ room' → at + 1 + (k + 1) ≤ room'
  end-room at room' e h = omega (arith, ap length (end-bytes e), path-long)

  pub end-wrote : {at r : ℕ} {b b' : List ℕ} → u ≡ t → r ≡ at + 1 + length (take (k + 1) (set path k u)) →
      b' ≡ sets b at (length (take (k + 1) (set path k u)) ∷ take (k + 1) (set path k u)) → Wrote (bytes_from n s t cost passing time k path u) at r b b'
  end-wrote e f g = rw (end-bytes e) (record { place = omega (arith, path-long, f); stored = rw path-long at g })

  -- a path that keeps its first k + 1 stops from where u was put keeps its first k
  pub path-kept : (path' : List ℕ) → take (k + 1) path' ≡ take (k + 1) (set path k u) → take k path' ≡ take k path
  path-kept path' e =
      let less : k ≤ k + 1 = omega arith in
      sym (take-take k (k + 1) path' less) ∙ ap (take k) e ∙ take-take k (k + 1) (set path k u) less ∙ take-set-le k path k u (le_refl k)

  -- the walk stands there with any path that is as long
  pub still : (path' : List ℕ) → length path' ≡ length path → Standing n s t cost passing time k u path'
  still path' e = record { ready = S.ready; inside = S.inside; adds = S.adds; front = S.front; long = omega (arith, S.long) }

  -- elsewhere the routes along all links
  pub on-bytes : u ≢ t → bytes_from n s t cost passing time k path u ≡ bytes_along n s t cost passing time k (set path k u) u 0
  on-bytes e = rw (stops-left, walk-on W n d f t (n - (k + 1)) (take k path) u e, put)

  module _ {from y : ℕ} (N : Next n s t cost passing time u from y) where
    -- the walk stands at the stop that a link leads on to, behind one stop more
    pub stands-next : y < n → Standing n s t cost passing time (k + 1) y path
    stands-next inside =
        let (linked, exact, adds) = leads-true W n d f t u y (N.one inside) in
        let later : entry n time s u < entry n time s y = omega (arith, ltb-true 0 (W u y) linked) in
        record {
          ready = S.ready;
          inside = inside;
          adds = adds;
          front = omega (arith, S.front, earlier_more n d u y S.inside later);
          long = S.long;
        }

    skipped : bytes_along n s t cost passing time k path u from ≡ bytes_along n s t cost passing time k path u y
    skipped =
        let e : y - from + from ≡ y = omega (arith, N.after) in
        ap route_bytes (rw e at (walk-skip W n d f t (n - (k + 1)) (take (k + 1) path) u (y - from) from (omega (arith, N.after, N.most)) (λ i a b. N.none i a (omega arith))))

    -- no link that leads on is left
    pub past_bytes : y ≡ n → bytes_along n s t cost passing time k path u from ≡ []
    unfolding route_bytes
    past_bytes e = skipped ∙ rw (e, walk-past)

    -- the routes along the next link, and then those along the links behind it
    pub next-bytes : (path' : List ℕ) → take (k + 1) path' ≡ take (k + 1) path → y < n →
        bytes_along n s t cost passing time k path u from ≡ bytes_from n s t cost passing time (k + 1) path y ++ bytes_along n s t cost passing time k path' u (y + 1)
    next-bytes path' same l =
        let first : List (List ℕ) = routes_from n s t cost passing time (n - (k + 1)) (take (k + 1) path) y in
        let rest : List (List ℕ) = routes_along n s t cost passing time (n - (k + 1)) (take (k + 1) path) u (suc y) in
        skipped
        ∙ ap route_bytes (walk-next W n d f t (n - (k + 1)) (take (k + 1) path) u y l (N.one l))
        ∙ bytes-append first rest
        ∙ rw (same, add-one y)

    -- and both have room where the whole has
    pub room_next : (at room : ℕ) → y < n → at + length (bytes_along n s t cost passing time k path u from) ≤ room →
        at + length (bytes_from n s t cost passing time (k + 1) path y) ≤ room
    room_next at room l h =
        omega (arith, ap length (next-bytes path refl l), length-append (bytes_from n s t cost passing time (k + 1) path y) (bytes_along n s t cost passing time k path u (y + 1)))

    pub room-behind : (path' : List ℕ) → take (k + 1) path' ≡ take (k + 1) path → (at mid room : ℕ) → y < n →
        at + length (bytes_along n s t cost passing time k path u from) ≤ room → mid ≡ at + length (bytes_from n s t cost passing time (k + 1) path y) →
        mid + length (bytes_along n s t cost passing time k path' u (y + 1)) ≤ room
    room-behind path' same at mid room l h e =
        omega (arith, ap length (next-bytes path' same l), length-append (bytes_from n s t cost passing time (k + 1) path y) (bytes_along n s t cost passing time k path' u (y + 1)))

-- at first the walk stands at s, with nothing in front, over a path that has room
module _ {n s t : ℕ} {cost passing time : List ℕ} (R : Ready n s t cost passing time) (path : List ℕ) (long : n ≤ length path) where
  pub stands-first : entry n time s s ≡ 0 → Standing n s t cost passing time 0 s path
  stands-first e = record { ready = R; inside = R.from; adds = rw (e, eq-eqb s s refl) (own (eqb s t) refl); front = omega arith; long = long }
    where
      -- s is not passed, and where it is the last stop nothing is left
      own : (b : Bool) → eqb s t ≡ b → 0 + cond b 0 (0 + entry n time s t) ≡ entry n time s t
      own true h = omega (arith, ap (entry n time s) (eqb-true s t h), e)
      own false h = omega arith

  pub first-bytes : bytes_whole n s t cost passing time ≡ bytes_from n s t cost passing time 0 path s
  first-bytes = rw sub-zero

-- nothing stored, what one step stored, and what two steps stored one behind the other
pub wrote_none : (bytes : List ℕ) (at : ℕ) (b : List ℕ) → bytes ≡ [] → Wrote bytes at at b b
wrote_none bytes at b e = rw e (record { place = omega arith; stored = refl })

pub wrote-same : {bytes bytes' : List ℕ} {at end : ℕ} {a b : List ℕ} → bytes ≡ bytes' → Wrote bytes' at end a b → Wrote bytes at end a b
wrote-same e w = record { place = rw e w.place; stored = rw e w.stored }

pub wrote_on : {whole first rest : List ℕ} {at mid end : ℕ} {a b c : List ℕ} → whole ≡ first ++ rest → Wrote first at mid a b → Wrote rest mid end b c → Wrote whole at end a c
wrote_on {first = first} {rest} {at} {a = a} e v w = record {
  place = rw e (w.place ∙ omega (arith, v.place, length-append first rest));
  stored = rw (e, w.stored, v.stored, v.place) (sets-append first rest a at);
}

-- the falling numbers fall
pub on-falls : (n k : ℕ) → along_left n k 0 < from_left n k
on-falls n k = omega arith

pub deeper-falls : (n k from : ℕ) → k < n → from_left n (k + 1) < along_left n k from
deeper-falls n k from h =
    let e : n - k ≡ suc (n - (k + 1)) = omega arith in
    omega (arith, ap (λ x. x * (n + 2)) e, suc-mul (n - (k + 1)) (n + 2))

pub next-falls : (n k from y : ℕ) → from ≤ y → y < n → along_left n k (y + 1) < along_left n k from
next-falls n k from y a b = omega arith
