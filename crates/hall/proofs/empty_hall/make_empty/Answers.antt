use mathlib.Core.Path.{◌∙◌}
use Rattle.book.proofs.Sizes.{stops, lengths}
use Rattle.hall.proofs.NoLinks.{emptied}
use Rattle.hall.proofs.empty_hall.make_empty.Goals as goal

pub diagonal-requires : goal.diagonal-requires
diagonal-requires c =
    let l = lengths _ _ c.requires.lengths in
    ((stops _ c.requires.size).1, c.fill-2.ensures.len ∙ l.times, c.fill-3.ensures.len ∙ l.counts)

pub returns-clause-tables : goal.returns-clause-tables
returns-clause-tables c =
    let l = lengths _ _ c.requires.lengths in
    let d = c.diagonal.ensures in
    emptied _ _ l (c.fill.ensures.after (λ y e. e)) (c.fill-2.ensures.after (λ y e. e)) (c.fill-3.ensures.after (λ y e. e)) (c.fill-4.ensures.after (λ y e. e)) d.0 d.1 (c.fill-5.ensures.after (λ y e. e))
