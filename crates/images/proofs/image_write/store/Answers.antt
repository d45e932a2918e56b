-- `store` counts first, and writes only where the image fits.
use Rattle.std.proofs.Common.{rules, arith, ◌≡◌, ◌∙◌}
use Rattle.book.specs.Hall.{entry}
use Rattle.book.specs.Written.{links_to}
use Rattle.book.proofs.Writer.{links-most}
use Rattle.images.proofs.Writer.{links-all, store-short, store-whole}
use Rattle.images.proofs.image_write.store.Goals as goal

pub returns-then-buffer-length : goal.returns-then-buffer-length
returns-then-buffer-length c = search (rules, store-short)

pub put_rows-at-requires : goal.put_rows-at-requires
put_rows-at-requires c =
    let (most, square, valid) = c.requires in
    let a = c.args in
    let total : c.count-links.result ≡ links_to a.n (entry a.n a.cost.now) a.n 0 = c.count-links.ensures.0 ∙ links-all a.n a.cost.now square in
    record { most = most; square = square; valid = valid; fits = omega (arith, total, c.if-buffer-length.false) }

pub put_trailer-requires : goal.put_trailer-requires
put_trailer-requires c =
    let a = c.args in
    let total : c.count-links.result ≡ links_to a.n (entry a.n a.cost.now) a.n 0 = c.count-links.ensures.0 ∙ links-all a.n a.cost.now c.requires.1 in
    omega (arith, total, links-most a.n (entry a.n a.cost.now) c.requires.0, c.if-buffer-length.false, c.put_rows-at.ensures.place, c.put_rows-at.auto.buffer)

pub returns : goal.returns
returns c = search (rules, store-whole)
