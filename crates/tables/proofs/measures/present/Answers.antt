use Rattle.tables.proofs.Measured.{hall-measure}
use Rattle.tables.proofs.measures.present.Goals as goal

pub invariant_of-result : goal.invariant_of-result
invariant_of-result c = record { measured = hall-measure }
