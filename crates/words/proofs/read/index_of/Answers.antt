-- The first place at which a byte is d, or else the length.
use Rattle.std.proofs.Common.{◌≡◌, ◌∙◌, sym, true, false, rules, arith}
use borrow.Author.Tests.{tests}
use lib.Dec.{eqb}
use Rattle.std.proofs.lemmas.Iterator.{YieldsList-from_slice, IsFirst-from_position, index_from_first}
use Rattle.words.specs.Scan.{index_of}
use Rattle.words.proofs.Reading.{index-none, index-here, index-next}
use Rattle.words.proofs.read.index_of.Goals as goal

pub returns : goal.returns
returns c =
    let d = c.args.d in
    let first =
    IsFirst-from_position _ _ c.position.result (λ x. eqb x d ≡ true) (λ x. eqb x d ≡ false) c.position.ensures.ran (YieldsList-from_slice c.args.text.now c.iter.ensures.rest)
    (λ x q k. search (rules, tests)) (λ x q k. search (rules, tests))
    in
    c.unwrap_or.ensures ∙ sym (index_from_first (index_of d) _ _ (index-none d) (index-here d) (λ x xs e. index-next d x xs e ∙ omega arith) c.args.text.now c.position.result first)
