use borrow.Author.Rules.{rules}
use mathlib.Core.Path.{sym, ap, ◌∙◌}
use mathlib.Core.Bool.{not}
use Rattle.routes.proofs.Booleans.{both, failed, held}
use Rattle.routes.proofs.Sums.{is_false}
use Rattle.book.proofs.Sizes.{lengths}
use Rattle.tables.proofs.Masked.{job-useful}
use Rattle.tables.proofs.Audited.{right-invalid, right-cheap, right-rows, passed-shares, passed-right}
use Rattle.tables.proofs.right.right.Goals as goal

pub valid-requires : goal.valid-requires
valid-requires c = (c.requires.n_nonzero.1, (lengths _ _ c.requires.n_nonzero.2).costs)

pub returns-then-not-valid : goal.returns-then-not-valid
returns-then-not-valid c = search (rules, failed, right-invalid)

pub no_shortcut-requires : goal.no_shortcut-requires
no_shortcut-requires c = let l = lengths _ _ c.requires.n_nonzero.2 in l.costs ∙ sym l.times

pub returns-then-not-no_shortcut : goal.returns-then-not-no_shortcut
returns-then-not-no_shortcut c = let p = c.requires in
    let valid = held c.valid.ensures (ap not c.if-not-valid.false) in
    sym (is_false _ (λ e. both (right-cheap _ _ _ _ _ _ _ _ _ p.n_nonzero.1 (lengths _ _ p.n_nonzero.2) valid p.passing_value e) (failed c.no_shortcut.ensures (ap not c.if-not-no_shortcut.true))))

pub useful_links-requires : goal.useful_links-requires
useful_links-requires c = let l = lengths _ _ c.requires.n_nonzero.2 in (c.requires.n_nonzero.1, l.costs, l.times)

pub invariant_of-network : goal.invariant_of-network
invariant_of-network c = let p = c.requires in
    let l = lengths _ _ p.n_nonzero.2 in
    let valid = held c.valid.ensures (ap not c.if-not-valid.false) in
    record { linked = job-useful (record { most = p.n_nonzero.1; square = l.costs; long = l.passings; valid = valid; passable = p.passing_value }) _ _ c.useful_links.ensures }

pub rows_pass-requires : goal.rows_pass-requires
rows_pass-requires c = let l = lengths _ _ c.requires.n_nonzero.2 in record { times = l.times; counts = l.counts; shares = l.shares }

pub returns-then-not-rows_pass : goal.returns-then-not-rows_pass
returns-then-not-rows_pass c = let p = c.requires in
    let valid = held c.valid.ensures (ap not c.if-not-valid.false) in
    sym (is_false _ (λ e. both (right-rows _ _ _ _ _ _ _ _ _ p.n_nonzero.1 (lengths _ _ p.n_nonzero.2) valid p.passing_value _ c.useful_links.ensures e) (failed c.rows_pass.ensures (ap not c.if-not-rows_pass.true))))

pub scores_pass-requires : goal.scores_pass-requires
scores_pass-requires c = let p = c.requires in
    let l = lengths _ _ p.n_nonzero.2 in
    let valid = held c.valid.ensures (ap not c.if-not-valid.false) in
    let cheap = held c.no_shortcut.ensures (ap not c.if-not-no_shortcut.false) in
    let rows = held c.rows_pass.ensures (ap not c.if-not-rows_pass.false) in
    record { shares = passed-shares _ _ _ _ _ _ _ _ _ p.n_nonzero.1 l valid p.passing_value _ c.useful_links.ensures cheap rows c.args.measure.measured.fine; score_len = l.scores }

pub returns : goal.returns
returns c = let p = c.requires in
    let l = lengths _ _ p.n_nonzero.2 in
    let valid = held c.valid.ensures (ap not c.if-not-valid.false) in
    let cheap = held c.no_shortcut.ensures (ap not c.if-not-no_shortcut.false) in
    let rows = held c.rows_pass.ensures (ap not c.if-not-rows_pass.false) in
    c.scores_pass.ensures ∙ passed-right _ _ _ _ _ _ _ _ _ p.n_nonzero.1 l valid p.passing_value _ c.useful_links.ensures cheap rows
