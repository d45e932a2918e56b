use Rattle.touch.proofs.Masks.{chosen-useful}
use Rattle.touch.proofs.choose_links.Goals as goal

pub returns-else-all : goal.returns-else-all
returns-else-all c = let l = c.args.link in
    let i = l.inside in
    rw (c.if-all.false, c.only.ensures) (chosen-useful l.n l.u l.v c.args.cost.now c.args.time.now _ i.0 i.1 i.2 (c.requires.v_nonzero c.if-all.false) c.useful_links.ensures)
