use Rattle.std.proofs.Common.{ℕ, rules, arith, ◌≡◌, true, false, eqb, get_or, ap, ◌∙◌}
use borrow.Author.Tests.{tests}
use lib.ListN.{length-replicate}
use Rattle.std.proofs.lemmas.Iterator.{cases_from_all, YieldsList-from_slice, YieldsList-from_zip}
use Rattle.routes.specs.Route.{all_to}
use Rattle.routes.proofs.Sums.{all-cong}
use Rattle.cells.proofs.Sums.{summed_at}
use Rattle.tables.proofs.Audited.{pairs-tested}
use Rattle.tables.proofs.right.scores_pass.Goals as goal

pub returns : goal.returns
returns c =
    let a = c.args in
    let sum = c.sum_scores.new.sum in
    pairs-tested a.score.now sum _ (omega (arith, c.sum_scores.auto.sum, length-replicate {A = ℕ} 64 0, c.requires.score_len, c.requires.shares.most))
    (cases_from_all c.all.new.self _ _ (λ (p : ℕ × ℕ). eqb p.0 p.1 ≡ true) (λ (p : ℕ × ℕ). eqb p.0 p.1 ≡ false) c.all.ensures.ran (YieldsList-from_zip {s = c.zip.result} (YieldsList-from_slice a.score.now (cc)) (YieldsList-from_slice sum (cc))) (λ x q k. search (rules, tests)) (λ x q k. search (rules, tests)))
    ∙ ap (λ k. all_to k (λ v. eqb (get_or a.score.now v 0) (get_or sum v 0))) c.requires.score_len
    ∙ all-cong a.n (λ v l. ap (eqb (get_or a.score.now v 0)) (summed_at a.n a.share.now a.n _ c.sum_scores.ensures v l))
