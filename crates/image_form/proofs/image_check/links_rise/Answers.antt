-- `links_rise`: the records are links in order.
use Rattle.std.proofs.Common.{ℕ, Bool, rules, arith, ◌≡◌, true, false, refl}
use Rattle.std.proofs.lemmas.Iterator.{cases_from_all, YieldsList-from_range}
use Rattle.book.specs.Hall.{valid_record}
use Rattle.image_form.proofs.Tested.{range-tested}
use Rattle.image_form.proofs.image_check.links_rise.Goals as goal

pub returns : goal.returns
returns c =
    let n = c.args.links in
    let own : ℕ → Bool = valid_record c.args.n c.args.image.now in
    range-tested n own _ (cases_from_all _ _ _ (λ u. own u ≡ true) (λ u. own u ≡ false) c.all.ensures.ran (YieldsList-from_range 0 n n refl (omega arith)) (λ x q k. search rules) (λ x q k. search rules))
