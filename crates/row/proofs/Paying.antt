-- The loop that pushes shares back: what holds between two turns. Assumes nothing.
use Prim.Native.Nat.{ℕ, suc, ◌+◌, ◌*◌, ◌<◌, ◌≤◌}
use mathlib.Core.Path.{◌≡◌, refl, sym, ap, ◌∙◌, subst}
use mathlib.Core.List.{List, [], ◌∷◌, ◌++◌}
use native.Mathlib.Omega.{arith}
use lib.ListN.{length, get_or, set, length-set, length-append, get_or-append}
use Rattle.std.proofs.lemmas.List.{get_or_push}
use Rattle.routes.specs.Route.{Costs}
use Rattle.routes.specs.Equations.{quotient}
use Rattle.row.proofs.Owing.{Pushes, Step, owing-ends, owing-next, owing-starts, owing-step}
use Rattle.row.specs.Paid.{Added, Owing, Paid, Waits}

-- between two turns, whatever settled row it is: the stops of `rest` wait, with which the order begins
pub record Paying (k scale limit : ℕ) (ways pred order share₀ rest share : List ℕ) : Type 0 where
  pub most : length rest ≤ k
  pub begins : (i : ℕ) → i < length rest → get_or rest i 0 ≡ get_or order i 0
  pub long : length share ≡ length share₀
  pub state : (W : Costs) (n s : ℕ) → Owing W n s k scale limit ways pred order → length share₀ ≡ n → Pushes W n s k scale limit order (length rest) share

module _ (k scale limit : ℕ) (ways pred order share₀ : List ℕ) (asked : Waits k scale limit ways pred order share₀) where
  pub paying-starts : Paying k scale limit ways pred order share₀ order share₀
  paying-starts =
      record {
        most = omega (arith, asked.owing.queue);
        begins = λ i l. refl;
        long = refl;
        state = λ W n s w e. rw asked.owing.queue (owing-starts W n s k scale limit ways pred order w share₀ asked.zeros);
      }

  -- the stops are as many as the ways
  same_size : (W : Costs) (n s : ℕ) → Owing W n s k scale limit ways pred order → length share₀ ≡ n
  same_size W n s w = asked.long ∙ sym asked.owing.counted ∙ w.counted

  pub paying-ends : {rest share : List ℕ} → length rest ≡ 0 → Paying k scale limit ways pred order share₀ rest share → Paid k scale limit ways pred order share
  paying-ends {share = share} e c W n s w = owing-ends W n s k scale limit ways pred order w share (rw e at (c.state W n s w (same_size W n s w)))

  -- a turn for the last stop v of `rest`
  module _ (v : ℕ) (rest rest' share : List ℕ) (taken : rest ≡ rest' ++ v ∷ []) (c : Paying k scale limit ways pred order share₀ rest share) where
    more : length rest ≡ suc (length rest')
    more = rw taken (omega (arith, length-append rest' (v ∷ [])))

    below : length rest' < k
    below = omega (arith, c.most, more)

    here : get_or order (length rest') 0 ≡ v
    here = sym (c.begins (length rest') (omega (arith, more))) ∙ rw taken (get_or_push rest' v 0 (length rest') refl)

    before : (W : Costs) (n s : ℕ) → Owing W n s k scale limit ways pred order → length share₀ ≡ n → Pushes W n s k scale limit order (suc (length rest')) share
    before W n s w e = rw more at (c.state W n s w e)

    pub paying-step : Step limit scale v ways pred share
    paying-step = rw here at
        (owing-step asked.costs asked.size asked.source k scale limit ways pred order asked.owing (length rest') below share
        (c.long ∙ asked.long) (before _ _ _ asked.owing asked.long))

    pub paying-goes : (alone psi : ℕ) (share' : List ℕ) → alone ≡ quotient limit scale (get_or ways v 0) → psi ≡ alone + get_or share v 0
        → length share' ≡ length share → Added (get_or pred v 0) psi share share'
        → Paying k scale limit ways pred order share₀ rest' (set share' v (get_or ways v 0 * get_or share v 0))
    paying-goes alone psi share' own whole kept added =
        record {
          most = omega (arith, below);
          begins = λ i l. sym (rw taken (get_or-append rest' (v ∷ []) 0 i l)) ∙ c.begins i (omega (arith, more));
          long = length-set share' _ _ ∙ kept ∙ c.long;
          state = λ W n s w e. subst (λ x. Pushes W n s k scale limit order (length rest') (set share' x (get_or ways x 0 * get_or share x 0))) here
              (owing-next W n s k scale limit ways pred order w (length rest') below share (c.long ∙ e) (before W n s w e) share' kept
              (rw here (subst (λ x. Added (get_or pred v 0) x share share') (whole ∙ ap (λ x. x + get_or share v 0) own) added)));
        }
