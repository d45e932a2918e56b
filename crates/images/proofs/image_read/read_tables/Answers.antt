-- `image_read::read_tables`: test 9, and the tables.
use Rattle.std.proofs.Common.{sym, ◌∙◌, ap, length, replicate}
use native.Mathlib.Nat.{le_of_eq}
use mathlib.Core.Bool.{not}
use Rattle.routes.proofs.Booleans.{failed, held}
use Rattle.book.specs.Hall.{valid_costs}
use Rattle.book.proofs.Sizes.{stops, lengths}
use Rattle.book.proofs.Images.{length-read, read-valid}
use Rattle.images.proofs.Reader.{read-broken, read-shares, read-accepted}
use Rattle.images.proofs.image_read.read_tables.Goals as goal

pub returns-then-not-is_image-clause-done : goal.returns-then-not-is_image-clause-done
returns-then-not-is_image-clause-done c = read-broken _ _ _ _ _ _ _ _ c.requires (failed c.is_image.ensures (ap not c.if-not-is_image.true))

pub read_costs-requires : goal.read_costs-requires
read_costs-requires c = (
  (stops _ c.requires.size).1,
  held c.is_image.ensures (ap not c.if-not-is_image.false),
  c.fill.ensures.after (λ y e. e) ∙ ap (λ k. replicate k 0) (lengths _ _ c.requires.lengths).costs,
)

pub fill_all-requires : goal.fill_all-requires
fill_all-requires c =
    let (some, most) = stops _ c.requires.size in
    let l = lengths _ _ c.requires.lengths in
    let costs = c.read_costs.ensures in
    let valid = ap (valid_costs c.args.n) costs ∙ read-valid _ _ (held c.is_image.ensures (ap not c.if-not-is_image.false)) in
    record {
      n_nonzero = (some, most, ap length costs ∙ length-read _ _, valid);
      passing_len = (l.passings, c.requires.passable);
      square = record { times = l.times; counts = l.counts; shares = l.shares };
    }

pub sum_scores-requires : goal.sum_scores-requires
sum_scores-requires c = record {
  shares = read-shares _ _ _ _ _ _ _ _ c.requires (held c.is_image.ensures (ap not c.if-not-is_image.false)) c.read_costs.ensures (rw (c.present.ensures.0, c.present.ensures.1) at c.fill_all.ensures);
  n_in_bounds = le_of_eq (sym (lengths _ _ c.requires.lengths).scores);
}

pub returns-clause-done : goal.returns-clause-done
returns-clause-done c = read-accepted _ _ _ _ _ _ _ _ c.requires (held c.is_image.ensures (ap not c.if-not-is_image.false)) c.read_costs.ensures (rw (c.present.ensures.0, c.present.ensures.1) at c.fill_all.ensures) c.sum_scores.ensures
