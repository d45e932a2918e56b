-- What links of a mask cost on routes from s: they are within a task's bound, and no route of them takes as long as the mark. Assumes nothing.
use Prim.Native.Nat.{ℕ, ◌+◌, ◌*◌, ◌<◌, ◌≤◌}
use mathlib.Core.Path.{◌≡◌, sym, ◌∙◌}
use mathlib.Core.Bool.{Bool, true, false, cond}
use mathlib.Core.List.{List}
use native.Mathlib.Omega.{arith}
use lib.Dec.{eqb}
use lib.ListN.{get_or}
use borrow.Author.Tests.{lt-ltb}
use Rattle.routes.specs.Route.{mark, link, has}
use Rattle.routes.specs.Equations.{Within}
use Rattle.routes.proofs.Bits.{split}
use Rattle.links.specs.Promise.{dearest, masked, masked_from, stay}

-- what it takes to pass a stop is its passing time at most
pub stay-le : (s : ℕ) (passing : List ℕ) (u : ℕ) → stay s passing u ≤ get_or passing u 0
stay-le s passing u = go (eqb u s)
  where
    go : (b : Bool) → cond b 0 (get_or passing u 0) ≤ get_or passing u 0
    go true = omega arith
    go false = omega arith

module _ (n s : ℕ) (cost passing out : List ℕ) where
  -- a link whose bit is set costs what the table says and what it takes to pass the stop that it leaves
  pub from-set : (u t : ℕ) → has (get_or out u 0) t ≡ true → 0 < get_or cost (u * n + t) 0
      → masked_from n s cost passing out u t ≡ get_or cost (u * n + t) 0 + stay s passing u
  from-set u t h l = rw (h, lt-ltb 0 (get_or cost (u * n + t) 0) l)

  -- so a mask holds the links
  pub from-link : (u t : ℕ) → (has (get_or out u 0) t ≡ true → 0 < get_or cost (u * n + t) 0)
      → link (masked_from n s cost passing out) u t ≡ has (get_or out u 0) t
  from-link u t some = split (has (get_or out u 0) t)
      (λ h. lt-ltb 0 (masked_from n s cost passing out u t) (omega (arith, from-set u t h (some h), some h)) ∙ sym h)
      (λ h. rw h)

  pub masked-within : ((u t : ℕ) → u < n → t < n → get_or cost (u * n + t) 0 ≤ 65535) → ((u : ℕ) → u < n → get_or passing u 0 ≤ 65535)
      → Within (masked_from n s cost passing out) n dearest
  masked-within cheap brief u t k l = go (has (get_or out u 0) t) (link (masked n cost out) u t)
    where
      go : (a b : Bool) → cond b (cond a (get_or cost (u * n + t) 0) 0 + stay s passing u) 0 ≤ dearest
      go true true = omega (arith, cheap u t k l, stay-le s passing u, brief u k)
      go false true = omega (arith, stay-le s passing u, brief u k)
      go a false = omega arith

pub masked_small : (n : ℕ) → n ≤ 64 → n * dearest < mark
masked_small n most = omega arith
