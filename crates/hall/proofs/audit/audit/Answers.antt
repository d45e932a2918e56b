use Rattle.hall.proofs.Tests.{audit-done}
use Rattle.hall.proofs.audit.audit.Goals as goal

pub returns : goal.returns
returns c = audit-done _ _ (rw (c.present.ensures.0, c.present.ensures.1) at c.audit_by.ensures)
