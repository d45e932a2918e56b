-- What happens to a source's row where links are put in or made cheaper, from the dearer costs hi to the cheaper costs lo,
-- and four tests that tell whether the row changes. Assumes nothing.
use Prim.Native.Nat.{ℕ, suc, ◌+◌, ◌<◌, ◌≤◌}
use mathlib.Core.Path.{◌≡◌, refl, sym, ◌∙◌, ap, ap₂}
use mathlib.Core.Logic.{◌≢◌}
use mathlib.Core.Bool.{Bool, true, false, cond, not, ◌&&◌, ◌||◌, and-eq-true_iff}
use native.Mathlib.Decide.{ℕ_discrete}
use native.Mathlib.Omega.{arith}
use lib.Dec.{eqb, ltb, leb}
use borrow.Author.Tests.{eq-eqb, ne_eqb, eqb-true, eqb-false, lt-ltb, ltb-true, le-leb, leb-true, not-true, not-false}
use Rattle.routes.specs.Route.{Costs, mark, link, least_time, ways}
use Rattle.routes.specs.Equations.{tight}
use Rattle.routes.proofs.Booleans.{bool_iff, both}
use Rattle.routes.proofs.Sums.{is_false, sum_to-cong, sum_to-le, sum_to-add, sum_to-pick, cond-true, cond-cong}
use Rattle.routes.proofs.Tight.{Tight, tight-true, true-tight, up-ind}
use Rattle.routes.proofs.Triangle.{triangle-below}
use Rattle.routes.proofs.Flows.{Flows}
use Rattle.routes.proofs.Transfer.{SameRow, transfer}

-- each link of hi is a link of lo, at no higher cost
abbrev pub Cheaper : Costs → Costs → ℕ → Type 0
Cheaper lo hi n = (a t : ℕ) → a < n → t < n → 0 < hi a t → (0 < lo a t) × (lo a t ≤ hi a t)

-- none of the changed links has b
abbrev pub Silent : Costs → Costs → ℕ → (ℕ → ℕ → Bool) → Type 0
Silent W W' n b = (a t : ℕ) → a < n → t < n → W a t ≢ W' a t → b a t ≡ false

-- b tells whether the row of s changes: it stays exactly if no changed link has b
pub record Tells (W W' : Costs) (n s : ℕ) (b : ℕ → ℕ → Bool) : Type 0 where
  pub stays : Silent W W' n b → SameRow W W' n s
  pub silent : SameRow W W' n s → Silent W W' n b

-- a link u to t of cost c is as quick as the time of t, or quicker, by the times d
abbrev pub improves : (ℕ → ℕ) → ℕ → ℕ → ℕ → Bool
improves d c u t = not (eqb (d u) mark) && leb (d u + c) (d t)

-- two tests are equal where each fails if the other does
pub false-iff : (a b : Bool) → (a ≡ false → b ≡ false) → (b ≡ false → a ≡ false) → a ≡ b
false-iff true true f g = refl
false-iff true false f g = g refl
false-iff false b f g = sym (f refl)

-- where neither of two holds, the first does not
pub left_false : (a b : Bool) → (a || b) ≡ false → a ≡ false
left_false true b e = e
left_false false b e = refl

module _ (lo hi : Costs) (n s : ℕ) (F : Flows lo n s) (F' : Flows hi n s) (cheaper : Cheaper lo hi n) where
  abbrev d : ℕ → ℕ
  d = least_time lo n s

  abbrev d' : ℕ → ℕ
  d' = least_time hi n s

  -- no changed link is tight by lo at times below m
  abbrev Quiet : ℕ → Type 0
  Quiet m = (a t : ℕ) → a < n → t < n → d t < m → tight lo d a t ≡ true → lo a t ≡ hi a t

  -- no time is higher by the cheaper costs
  pub falls : (t : ℕ) → t < n → d t ≤ d' t
  falls t l =
      omega (
        arith,
        F.times.source,
        triangle-below
            lo
            hi
            n
            s
            s
            (suc mark)
            d
            d'
            F.times
            F'.times
            (λ a t k l h e. cheaper a t k l (ltb-true 0 (hi a t) (tight-true hi d' a t e).linked))
            t
            l
            (omega (arith, F'.times.bounded t l)),
      )

  -- below the first changed tight link times stay
  times-stay : (m : ℕ) → Quiet m → (t : ℕ) → t < n → d t < m → d t ≡ d' t
  times-stay m quiet t l h =
      omega (
        arith,
        falls t l,
        F'.times.source,
        triangle-below hi lo n s s m d' d F'.times F.times kept t l h,
      )
    where
      kept : (a t : ℕ) → a < n → t < n → d t < m → tight lo d a t ≡ true → (0 < hi a t) × (hi a t ≤ lo a t)
      kept a t k l h e = omega (arith, quiet a t k l h e, ltb-true 0 (lo a t) (tight-true lo d a t e).linked)

  -- where the time does not change, a link tight by hi is tight by lo and of the same cost
  tight-lo : (a t : ℕ) → a < n → t < n → d t ≡ d' t → tight hi d' a t ≡ true →
      (tight lo d a t ≡ true) × (lo a t ≡ hi a t)
  tight-lo a t k l e h =
      let f : Tight hi d' a t = tight-true hi d' a t h in
      let (linked, less) = cheaper a t k l (ltb-true 0 (hi a t) f.linked) in
      let c : link lo a t ≡ true = lt-ltb 0 (lo a t) linked in
      let below : d a ≤ d' a = falls a k in
      let r : d a ≢ mark = omega (arith, F'.times.bounded a k) in
      let x : d t ≤ d a + lo a t = F.times.relaxed a t k l c r in
      (true-tight lo d a t c r (omega arith), omega arith)

  -- below the first changed tight link the same links are tight
  tight-stays : (m : ℕ) → Quiet m → (a t : ℕ) → a < n → t < n → d t < m → tight lo d a t ≡ tight hi d' a t
  tight-stays m quiet a t k l h =
      bool_iff (tight lo d a t) (tight hi d' a t) onward (λ e. (tight-lo a t k l (times-stay m quiet t l h) e).0)
    where
      onward : tight lo d a t ≡ true → tight hi d' a t ≡ true
      onward e =
          let f : Tight lo d a t = tight-true lo d a t e in
          let c : lo a t ≡ hi a t = quiet a t k l h e in
          let x : d a ≡ d' a = times-stay m quiet a k (omega arith) in
          true-tight
          hi
          d'
          a
          t
          (ap (ltb 0) (sym c) ∙ f.linked)
          (omega (arith, f.reached))
          (omega (arith, times-stay m quiet t l h))

  -- and the ways stay
  ways-stay : (m : ℕ) → Quiet m → (t : ℕ) → t < n → d t < m → ways lo n s t ≡ ways hi n s t
  ways-stay m quiet =
      up-ind d n (λ t l ih h. elim (ℕ_discrete t s) [
        | yes p ↦ ap (ways lo n s) p ∙ F.source ∙ sym (ap (ways hi n s) p ∙ F'.source)
        | no p ↦ F.summed t l p ∙ sum_to-cong n (each t l ih h) ∙ sym (F'.summed t l p)
      ])
    where
      each : (t : ℕ) → t < n → ((a : ℕ) → a < n → d a < d t → d a < m → ways lo n s a ≡ ways hi n s a) → d t < m →
          (a : ℕ) → a < n → cond (tight lo d a t) (ways lo n s a) 0 ≡ cond (tight hi d' a t) (ways hi n s a) 0
      each t l ih h a k =
          cond-cong (tight lo d a t) (λ e.
          let f : Tight lo d a t = tight-true lo d a t e in
          ih a k f.rises (omega arith))
          ∙ ap (λ b. cond b (ways hi n s a) 0) (tight-stays m quiet a t k l h)

  -- a row without a changed tight link stays
  row_stays : Silent lo hi n (tight lo d) → SameRow lo hi n s
  row_stays silent =
      transfer lo hi n s F F' (λ a t k l ne. (silent a t k l ne, slower a t k l ne))
    where
      slower : (a t : ℕ) → a < n → t < n → lo a t ≢ hi a t → link hi a t ≡ true → d a ≢ mark → d t < d a + hi a t
      slower a t k l ne e r =
          let (linked, less) = cheaper a t k l (ltb-true 0 (hi a t) e) in
          omega (arith, F.times.relaxed a t k l (lt-ltb 0 (lo a t) linked) r)

  -- no changed link is tight, if none can be the first
  first-silent : ((a t : ℕ) → a < n → t < n → lo a t ≢ hi a t → Quiet (d t) → tight lo d a t ≡ true → ⊥) →
      Silent lo hi n (tight lo d)
  first-silent h a t k l ne = is_false (tight lo d a t) (λ e. ne (all t l a k e))
    where
      all : (t : ℕ) → t < n → (a : ℕ) → a < n → tight lo d a t ≡ true → lo a t ≡ hi a t
      all =
          up-ind d n (λ t l ih a k e. elim (ℕ_discrete (lo a t) (hi a t)) [
            | yes p ↦ p
            | no p ↦ absurd (h a t k l p (λ b x i j r f. ih x j r b i f) e)
          ])

  -- at the end of a changed tight link, ways fall where the time stays and ways before it stay
  ways-fall : (u v : ℕ) → u < n → v < n → tight lo d u v ≡ true → lo u v ≢ hi u v → d v ≡ d' v →
      ((a : ℕ) → a < n → d a < d v → ways lo n s a ≡ ways hi n s a) → ways hi n s v < ways lo n s v
  ways-fall u v k l e ne same before =
      let f : Tight lo d u v = tight-true lo d u v e in
      let far : v ≢ s = λ p. absurd (omega (arith, ap d p, F.times.source)) in
      omega (
        arith,
        F.summed v l far,
        F'.summed v l far,
        F.reached u k f.reached,
        sum_to-le n part,
        sum_to-add n (λ a. cond (tight hi d' a v) (ways hi n s a) 0) (λ a. cond (eqb a u) (ways lo n s a) 0),
        sum_to-pick n u (ways lo n s) k,
      )
    where
      part : (a : ℕ) → a < n →
          cond (tight hi d' a v) (ways hi n s a) 0 + cond (eqb a u) (ways lo n s a) 0 ≤
          cond (tight lo d a v) (ways lo n s a) 0
      part a h = go (tight hi d' a v) refl (eqb a u) refl
        where
          go : (b : Bool) → tight hi d' a v ≡ b → (c : Bool) → eqb a u ≡ c →
              cond b (ways hi n s a) 0 + cond c (ways lo n s a) 0 ≤ cond (tight lo d a v) (ways lo n s a) 0
          go true i true j =
              let x : a ≡ u = eqb-true a u j in
              absurd (ne (ap (λ x. lo x v) (sym x) ∙ (tight-lo a v h l same i).1 ∙ ap (λ x. hi x v) x))
          go true i false j =
              let x : tight lo d a v ≡ true = (tight-lo a v h l same i).0 in
              omega (arith, cond-true (ways lo n s a) 0 x, before a h (tight-true lo d a v x).rises)
          go false i true j =
              omega (arith, cond-true (ways lo n s a) 0 (ap (λ x. tight lo d x v) (eqb-true a u j) ∙ e))
          go false i false j = omega arith

  -- a row that stays has no changed tight link
  row-silent : SameRow lo hi n s → Silent lo hi n (tight lo d)
  row-silent R a t k l ne =
      is_false
      (tight lo d a t)
      (λ e. omega (arith, R.counts t l, ways-fall a t k l e ne (R.times t l) (λ a k r. R.counts a k)))

  -- the tight links of the cheaper costs tell whether the row changes
  pub lo-tells : Tells lo hi n s (tight lo d)
  lo-tells = record { stays = row_stays; silent = row-silent }

  -- so do the links that are tight by either costs
  pub either-tells : Tells lo hi n s (λ a t. tight lo d a t || tight hi d' a t)
  either-tells =
      record {
        stays = λ none. row_stays (λ a t k l ne. left_false (tight lo d a t) (tight hi d' a t) (none a t k l ne));
        silent =
            λ R a t k l ne.
            ap₂
            ◌||◌
            (row-silent R a t k l ne)
            (is_false (tight hi d' a t) (λ e. ne (tight-lo a t k l (R.times t l) e).1));
      }

  -- so do the times by the dearer costs
  pub improves-tells : Tells lo hi n s (λ a t. improves d' (lo a t) a t)
  improves-tells = record { stays = λ none. row_stays (first-silent (first none)); silent = silent }
    where
      first : Silent lo hi n (λ a t. improves d' (lo a t) a t) → (a t : ℕ) → a < n → t < n → lo a t ≢ hi a t →
          Quiet (d t) → tight lo d a t ≡ true → ⊥
      first none a t k l ne quiet e =
          let f : Tight lo d a t = tight-true lo d a t e in
          let same : d a ≡ d' a = times-stay (d t) quiet a k f.rises in
          both
          ((and-eq-true_iff (not (eqb (d' a) mark)) _).1 (
            ap not (ne_eqb (d' a) mark (omega (arith, f.reached))),
            le-leb (d' a + lo a t) (d' t) (omega (arith, falls t l)),
          ))
          (none a t k l ne)

      linked : (a t : ℕ) → a < n → t < n → lo a t ≢ hi a t → 0 < lo a t
      linked a t k l ne = elim (ℕ_discrete (hi a t) 0) [
        | yes p ↦ omega arith
        | no p ↦ (cheaper a t k l (omega arith)).0
      ]

      silent : SameRow lo hi n s → Silent lo hi n (λ a t. improves d' (lo a t) a t)
      silent R a t k l ne = is_false (improves d' (lo a t) a t) (λ e.
          let (r, j) = (and-eq-true_iff (not (eqb (d' a) mark)) _).0 e in
          let c : link lo a t ≡ true = lt-ltb 0 (lo a t) (linked a t k l ne) in
          let q : d a ≢ mark = λ p. eqb-false (d' a) mark (not-true _ r) (sym (R.times a k) ∙ p) in
          let x : d a + lo a t ≡ d t = omega (
            arith,
            R.times a k,
            R.times t l,
            leb-true (d' a + lo a t) (d' t) j,
            F.times.relaxed a t k l c q,
          ) in
          both (true-tight lo d a t c q x) (row-silent R a t k l ne))

  -- so does what changes at the ends of the changed links
  pub ends-tell : Tells lo hi n s (λ a t. not (eqb (d t) (d' t) && eqb (ways lo n s t) (ways hi n s t)))
  ends-tell =
      record {
        stays = λ none. row_stays (first-silent (first none));
        silent =
            λ R a t k l ne.
            ap
            not
            ((and-eq-true_iff (eqb (d t) (d' t)) _).1
            (eq-eqb (d t) (d' t) (R.times t l), eq-eqb (ways lo n s t) (ways hi n s t) (R.counts t l)));
      }
    where
      first : Silent lo hi n (λ a t. not (eqb (d t) (d' t) && eqb (ways lo n s t) (ways hi n s t))) →
          (a t : ℕ) → a < n → t < n → lo a t ≢ hi a t → Quiet (d t) → tight lo d a t ≡ true → ⊥
      first none a t k l ne quiet e =
          let (p, q) = (and-eq-true_iff (eqb (d t) (d' t)) _).0 (not-false _ (none a t k l ne)) in
          omega (
            arith,
            eqb-true (ways lo n s t) (ways hi n s t) q,
            ways-fall a t k l e ne (eqb-true (d t) (d' t) p) (ways-stay (d t) quiet),
          )
