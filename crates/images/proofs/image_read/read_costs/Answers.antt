-- `read_costs` sets the costs of the records, one after another.
use Rattle.std.proofs.Common.{rules, arith, ◌≡◌, ◌+◌, ◌*◌, ◌-◌, ◌/◌, sym, ◌∙◌, ap, ap₂, length}
use Rattle.routes.specs.Route.{sum_to}
use Rattle.book.proofs.Tables.{length-table}
use Rattle.book.proofs.Records.{pick, costs-none}
use Rattle.book.proofs.Images.{image-true, costs-image}
use Rattle.images.proofs.Reader.{read_more}
use Rattle.images.proofs.image_read.read_costs.Goals as goal

pub overflow_sub-links : goal.overflow_sub-links
overflow_sub-links c = omega (arith, (image-true _ _ c.requires.1).size)

pub loop-i-init : goal.loop-i-init
loop-i-init c = search (rules, costs-none)

pub start-requires : goal.start-requires
start-requires c = omega (arith, c.requires.0, ((image-true _ _ c.requires.1).links c.loop-i.i c.loop-i-test.true).starts)

pub bounds-cost-place : goal.bounds-cost-place
bounds-cost-place c =
    let t = c.loop-i in
    let n = c.args.n in
    let image = c.args.image.now in
    let link = (image-true n image c.requires.1).links t.i c.loop-i-test.true in
    omega (arith, ap length t.invariant.1, length-table n (λ s x. sum_to t.i (pick image s x)), c.start.ensures.ends, link.ends, c.u8_at-to.ensures.0)

pub loop-i-preserved : goal.loop-i-preserved
loop-i-preserved c =
    let t = c.loop-i in
    let n = c.args.n in
    let start = c.start.ensures.place ∙ ap (λ s. s * n) c.u8_at-from.ensures.0 in
    (omega arith, read_more (image-true _ _ c.requires.1) c.loop-i-test.true t.invariant.1 (ap₂ ◌+◌ start c.u8_at-to.ensures.0) c.u16_at.ensures.0)

pub returns : goal.returns
returns c =
    let t = c.loop-i in
    let image = image-true _ _ c.requires.1 in
    let end : t.i ≡ (length c.args.image.now - 8) / 4 = omega arith in
    rw end at t.invariant.1 ∙ sym (costs-image _ _ _ image)
