use Rattle.std.proofs.Common.{◌≡◌, ◌*◌, drop}
use Rattle.lister.proofs.tables.Given as goal

abbrev pub invariant-loop-s : goal.invariant-loop-s
invariant-loop-s l =
    let all = l.hall.n * l.hall.n in
    record {
      time : drop all l.time ≡ drop all l.initial.time;
      ways : drop all l.ways ≡ drop all l.initial.ways;
      share : drop all l.share ≡ drop all l.initial.share;
    }
