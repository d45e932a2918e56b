use Rattle.lister.specs.Wrote.{WroteOn}
use Rattle.lister.proofs.quickest.List.put_route.Given as goal

abbrev pub invariant-loop-v : goal.invariant-loop-v
invariant-loop-v l = WroteOn l.initial.self.at l.self.at l.initial.self.buffer l.self.buffer
