-- `put` copies the text over as many bytes behind what is written.
use Rattle.std.proofs.Common.{refl}
use Rattle.print.proofs.Printing.{copied}
use Rattle.print.proofs.Output.put.Goals as goal

pub returns : goal.returns
returns c =
    record {
      printed = record {
        behind = refl;
        written = rw c.copy_from_slice.ensures.after (copied c.args.text.now c.args.self.now.out.now c.args.self.now.written c.requires);
        inside = c.requires;
      };
      same = refl;
    }
