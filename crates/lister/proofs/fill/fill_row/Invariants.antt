use Rattle.std.proofs.Common.{◌≡◌, ◌*◌, drop}
use Rattle.lister.proofs.fill.fill_row.Given as goal

abbrev pub invariant-loop-t : goal.invariant-loop-t
invariant-loop-t l =
    let all = l.hall.n * l.hall.n in
    record {
      time : drop all l.time ≡ drop all l.initial.time;
      ways : drop all l.ways ≡ drop all l.initial.ways;
      share : drop all l.share ≡ drop all l.initial.share;
    }
