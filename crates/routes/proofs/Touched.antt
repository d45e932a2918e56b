-- Which rows an edit touches: the old times alone tell it, and it is the rows that change.
-- Assumes nothing.
use Prim.Native.Nat.{ℕ, zero, suc, ◌*◌, ◌<◌, ◌≤◌}
use mathlib.Core.Path.{◌≡◌, refl, sym, ◌∙◌, ap, ap₂}
use mathlib.Core.Logic.{◌≢◌, ◌⊎◌, inl, inr, ⊎_elim, ⊎_map}
use mathlib.Core.Bool.{Bool, true, false, not, ◌&&◌, ◌||◌, and-eq-true_iff, and_assoc, or_comm}
use native.Mathlib.Decide.{ℕ_discrete, dec_le}
use native.Mathlib.Omega.{arith}
use lib.Dec.{eqb}
use borrow.Author.Tests.{eq-eqb, eqb-true, not-false}
use Rattle.routes.specs.Route.{Costs, mark, all_to, least_time, ways, share, used}
use Rattle.routes.specs.Equations.{Within, tight}
use Rattle.routes.proofs.Booleans.{bool_iff}
use Rattle.routes.proofs.Sums.{is_false, all_true, all_of}
use Rattle.routes.proofs.Tight.{tight-true}
use Rattle.routes.proofs.Times.{least-source}
use Rattle.routes.proofs.Used.{used-is-tight}
use Rattle.routes.proofs.Flows.{Flows, flows}
use Rattle.routes.proofs.Transfer.{SameRow}
use Rattle.routes.proofs.Cheaper.{Cheaper, Silent, Tells, improves, false-iff, left_false, lo-tells, either-tells, improves-tells, ends-tell}

-- the rows agree the other way round too
pub same-row-sym : (W W' : Costs) (n s : ℕ) → SameRow W W' n s → SameRow W' W n s
same-row-sym W W' n s R =
    record {
      times = λ t l. sym (R.times t l);
      counts = λ t l. sym (R.counts t l);
      shares = λ scale v l. sym (R.shares scale v l);
      open_shares = λ limit scale v l. sym (R.open_shares limit scale v l);
    }

-- what tells of a change tells of its reverse
tells-back : (W W' : Costs) (n s : ℕ) (b b' : ℕ → ℕ → Bool) → ((a t : ℕ) → b a t ≡ b' a t) →
    Tells W W' n s b → Tells W' W n s b'
tells-back W W' n s b b' e T =
    record {
      stays = λ none. same-row-sym W W' n s (T.stays (λ a t k l ne. e a t ∙ none a t k l (λ p. ne (sym p))));
      silent = λ R a t k l ne. sym (e a t) ∙ T.silent (same-row-sym W' W n s R) a t k l (λ p. ne (sym p));
    }

-- a test of equality reads its sides in either order
eqb_comm : (a b : ℕ) → eqb a b ≡ eqb b a
eqb_comm a b = bool_iff (eqb a b) (eqb b a) (turn a b) (turn b a)
  where
    turn : (a b : ℕ) → eqb a b ≡ true → eqb b a ≡ true
    turn a b e = eq-eqb b a (sym (eqb-true a b e))

-- the link u to v is used from s, before or after
abbrev pub meets : Costs → Costs → ℕ → ℕ → ℕ → ℕ → Bool
meets W W' n s u v = used W n s u v || used W' n s u v

-- time and ways of s at x are the same by W and W', and so is the share
abbrev pub same_counts : Costs → Costs → ℕ → ℕ → ℕ → Bool
same_counts W W' n s x = eqb (least_time W n s x) (least_time W' n s x) && eqb (ways W n s x) (ways W' n s x)

abbrev pub same_entries : Costs → Costs → ℕ → ℕ → ℕ → ℕ → Bool
same_entries W W' n s scale x =
    eqb (least_time W n s x) (least_time W' n s x)
    && (eqb (ways W n s x) (ways W' n s x) && eqb (share W n s scale x) (share W' n s scale x))

-- W and W' differ at the link u to v alone, or at both links between u and v alone
abbrev pub OneLink : Costs → Costs → ℕ → ℕ → ℕ → Type 0
OneLink W W' n u v = (a t : ℕ) → a < n → t < n → W a t ≢ W' a t → (a ≡ u) × (t ≡ v)

abbrev pub TwoLinks : Costs → Costs → ℕ → ℕ → ℕ → Type 0
TwoLinks W W' n u v = (a t : ℕ) → a < n → t < n → W a t ≢ W' a t → ((a ≡ u) × (t ≡ v)) ⊎ ((a ≡ v) × (t ≡ u))

module _
    (W W' : Costs)
    (n s c : ℕ)
    (inside : s < n)
    (within : Within W n c)
    (within' : Within W' n c)
    (small : n * c < mark) where
  abbrev F : Flows W n s
  F = flows W n s c inside within small

  abbrev F' : Flows W' n s
  F' = flows W' n s c inside within' small

  -- the old times tell: where links are taken out or made dearer, by those of them that are tight
  pub dearer-tells : Cheaper W W' n → Tells W W' n s (tight W (least_time W n s))
  dearer-tells cheaper = lo-tells W W' n s F F' cheaper

  -- and where links are put in or made cheaper, by those of them that improve a time or equal it
  pub cheaper-tells : Cheaper W' W n → Tells W W' n s (λ a t. improves (least_time W n s) (W' a t) a t)
  cheaper-tells cheaper =
      tells-back W' W n s _ _ (λ a t. refl) (improves-tells W' W n s F' F cheaper)

  module _ (side : Cheaper W W' n ⊎ Cheaper W' W n) where
    -- the links that are tight before or after tell
    tight-tells : Tells W W' n s (λ a t. tight W (least_time W n s) a t || tight W' (least_time W' n s) a t)
    tight-tells =
        ⊎_elim
        (λ h. either-tells W W' n s F F' h)
        (λ h.
        tells-back
        W'
        W
        n
        s
        _
        _
        (λ a t. or_comm (tight W' (least_time W' n s) a t) (tight W (least_time W n s) a t))
        (either-tells W' W n s F' F h))
        side

    -- and so do the links that are used before or after
    pub meets-tells : Tells W W' n s (meets W W' n s)
    meets-tells =
        record {
          stays = λ none. tight-tells.stays (λ a t k l ne. sym (used-either a t k l) ∙ none a t k l ne);
          silent = λ R a t k l ne. used-either a t k l ∙ tight-tells.silent R a t k l ne;
        }
      where
        used-either : (a t : ℕ) → a < n → t < n →
            meets W W' n s a t ≡ (tight W (least_time W n s) a t || tight W' (least_time W' n s) a t)
        used-either a t k l =
            ap₂
            ◌||◌
            (used-is-tight W n s c inside within small a t k l)
            (used-is-tight W' n s c inside within' small a t k l)

    -- time and ways at the ends of the changed links tell
    pub counts-tell : Tells W W' n s (λ a t. not (same_counts W W' n s t))
    counts-tell =
        ⊎_elim
        (λ h. ends-tell W W' n s F F' h)
        (λ h.
        tells-back
        W'
        W
        n
        s
        _
        _
        (λ a t.
        ap₂
        (λ x y. not (x && y))
        (eqb_comm (least_time W' n s t) (least_time W n s t))
        (eqb_comm (ways W' n s t) (ways W n s t)))
        (ends-tell W' W n s F' F h))
        side

    -- the whole row tells
    pub row-tells : (scale : ℕ) → Tells W W' n s (λ a t. not (all_to n (same_entries W W' n s scale)))
    row-tells scale =
        record {
          stays =
              λ none.
              counts-tell.stays
              (λ a t k l ne. ap not (counts t (all_true n _ (not-false _ (none a t k l ne)) t l)));
          silent = λ R a t k l ne. ap not (all_of n (same_entries W W' n s scale) (entries R));
        }
      where
        counts : (x : ℕ) → same_entries W W' n s scale x ≡ true → same_counts W W' n s x ≡ true
        counts x e =
            ((and-eq-true_iff (same_counts W W' n s x) _).0
            (and_assoc (eqb (least_time W n s x) _) (eqb (ways W n s x) _) _ ∙ e)
            ).0

        entries : SameRow W W' n s → (x : ℕ) → x < n → same_entries W W' n s scale x ≡ true
        entries R x h =
            (and-eq-true_iff (eqb (least_time W n s x) _) _).1 (
              eq-eqb _ _ (R.times x h),
              (and-eq-true_iff (eqb (ways W n s x) _) _).1 (
                eq-eqb _ _ (R.counts x h),
                eq-eqb _ _ (R.shares scale x h),
              ),
            )

-- a test that fails at the one changed link, or at both of two, fails at every changed link
pub one-silent : (W W' : Costs) (n u v : ℕ) (b : ℕ → ℕ → Bool) → OneLink W W' n u v → b u v ≡ false → Silent W W' n b
one-silent W W' n u v b only e a t i j h = let (p, q) = only a t i j h in ap₂ b p q ∙ e

pub two-silent : (W W' : Costs) (n u v : ℕ) (b : ℕ → ℕ → Bool) → TwoLinks W W' n u v → (b u v || b v u) ≡ false →
    Silent W W' n b
two-silent W W' n u v b only e a t i j h =
    ⊎_elim
    (λ (p, q). ap₂ b p q ∙ left_false (b u v) (b v u) e)
    (λ (p, q). ap₂ b p q ∙ left_false (b v u) (b u v) (or_comm (b v u) (b u v) ∙ e))
    (only a t i j h)

-- two that tell agree at the one changed link, and over two changed links
pub one_link-told : (W W' : Costs) (n s u v : ℕ) (b b' : ℕ → ℕ → Bool) → u < n → v < n → W u v ≢ W' u v →
    OneLink W W' n u v → Tells W W' n s b → Tells W W' n s b' → b u v ≡ b' u v
one_link-told W W' n s u v b b' k l ne only T T' =
    false-iff
    (b u v)
    (b' u v)
    (λ e. T'.silent (T.stays (one-silent W W' n u v b only e)) u v k l ne)
    (λ e. T.silent (T'.stays (one-silent W W' n u v b' only e)) u v k l ne)

pub two-links : (W W' : Costs) (n s u v : ℕ) (b b' : ℕ → ℕ → Bool) → u < n → v < n → W u v ≢ W' u v →
    W v u ≢ W' v u → TwoLinks W W' n u v → Tells W W' n s b → Tells W W' n s b' → (b u v || b v u) ≡ (b' u v || b' v u)
two-links W W' n s u v b b' k l ne ne' only T T' =
    false-iff
    (b u v || b v u)
    (b' u v || b' v u)
    (λ e. neither b' (T'.silent (T.stays (two-silent W W' n u v b only e))))
    (λ e. neither b (T.silent (T'.stays (two-silent W W' n u v b' only e))))
  where
    neither : (b : ℕ → ℕ → Bool) → Silent W W' n b → (b u v || b v u) ≡ false
    neither b h = ap₂ ◌||◌ (h u v k l ne) (h v u l k ne')

-- costs that differ at one link do so the other way round too
one-back : (W W' : Costs) (n u v : ℕ) → OneLink W W' n u v → OneLink W' W n u v
one-back W W' n u v only a t k l ne = only a t k l (λ e. ne (sym e))

-- one changed link that is dearer by W', or gone, makes W the cheaper costs
pub one-cheaper : (W W' : Costs) (n u v : ℕ) → OneLink W W' n u v → (0 < W' u v → (0 < W u v) × (W u v ≤ W' u v)) →
    Cheaper W W' n
one-cheaper W W' n u v only h a t k l p = elim (ℕ_discrete (W a t) (W' a t)) [
  | yes e ↦ omega arith
  | no ne ↦
      let (e, f) = only a t k l ne in
      let x : W a t ≡ W u v = ap₂ W e f in
      let y : W' a t ≡ W' u v = ap₂ W' e f in
      let (linked, less) = h (omega arith) in
      omega arith
]

-- of costs that differ at one link, one or the other are the cheaper
one_side : (W W' : Costs) (n u v : ℕ) → OneLink W W' n u v → Cheaper W W' n ⊎ Cheaper W' W n
one_side W W' n u v only =
    ⊎_map
    (one-cheaper W W' n u v only)
    (one-cheaper W' W n u v (one-back W W' n u v only))
    (order (W u v) (W' u v))
  where
    order : (x y : ℕ) → (0 < y → (0 < x) × (x ≤ y)) ⊎ (0 < x → (0 < y) × (y ≤ x))
    order zero y = inr (omega arith)
    order (suc x) zero = inl (omega arith)
    order (suc x) (suc y) = elim (dec_le x y) [ yes h ↦ inl (omega arith) | no h ↦ inr (omega arith) ]

-- one link changes: its cost falls or rises, or it is put in or taken out
module _
    (W W' : Costs)
    (n s c : ℕ)
    (inside : s < n)
    (within : Within W n c)
    (within' : Within W' n c)
    (small : n * c < mark)
    (u v : ℕ)
    (k : u < n)
    (l : v < n)
    (changed : W u v ≢ W' u v)
    (only : OneLink W W' n u v) where
  abbrev side : Cheaper W W' n ⊎ Cheaper W' W n
  side = one_side W W' n u v only

  abbrev met : Tells W W' n s (meets W W' n s)
  met = meets-tells W W' n s c inside within within' small side

  -- whatever tells agrees at u and v with the used links
  agree : {b : ℕ → ℕ → Bool} → Tells W W' n s b → meets W W' n s u v ≡ b u v
  agree {b} = one_link-told W W' n s u v (meets W W' n s) b k l changed only met

  -- an untouched row stays
  pub untouched : meets W W' n s u v ≡ false → SameRow W W' n s
  untouched e = met.stays (one-silent W W' n u v _ only e)

  -- the touched rows are those with a changed entry
  pub touched-row : (scale : ℕ) → meets W W' n s u v ≡ not (all_to n (same_entries W W' n s scale))
  touched-row scale = agree (row-tells W W' n s c inside within within' small side scale)

-- no quickest route uses a link into its source
into-source : (W : Costs) (n s c : ℕ) → s < n → Within W n c → n * c < mark → (u : ℕ) → u < n → used W n s u s ≡ false
into-source W n s c inside within small u k =
    used-is-tight W n s c inside within small u s k inside
    ∙ is_false
    (tight W (least_time W n s) u s)
    (λ e.
    omega
    (arith, (tight-true W (least_time W n s) u s e).rises, least-source W n s c inside within small))

-- source v is never touched
pub touched-source : (W W' : Costs) (n s c : ℕ) → s < n → Within W n c → Within W' n c → n * c < mark →
    (u : ℕ) → u < n → meets W W' n s u s ≡ false
touched-source W W' n s c inside within within' small u k =
    ap₂ ◌||◌ (into-source W n s c inside within small u k) (into-source W' n s c inside within' small u k)
