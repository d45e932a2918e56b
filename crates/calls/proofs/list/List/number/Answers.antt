-- A number of its own edits.
use Rattle.std.proofs.Common.{rules, ◌≡◌, ◌*◌, ◌≤◌, ltb, true}
use Rattle.calls.proofs.list.List.number.Goals as goal

pub returns-then-i-numbers_of : goal.returns-then-i-numbers_of
returns-then-i-numbers_of c =
    let fits : c.args.self.now.length ≤ 34 = search rules in
    let own = c.numbers_of.ensures.0 fits in
    let within : ltb c.args.i (4 * c.args.self.now.length) ≡ true = search (rules, own) in
    λ other. rw within (c.number_at.ensures other)
