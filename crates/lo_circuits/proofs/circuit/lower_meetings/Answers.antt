use Rattle.std.proofs.Common.{[]}
use Rattle.lo_base.specs.Partway.{on_err}
use Rattle.lo_circuits.proofs.circuit.lower_meetings.Goals as goal

pub returns-in_err-all-clause-stopped : goal.returns-in_err-all-clause-stopped
returns-in_err-all-clause-stopped g c = on_err c.from_residual.result (g.met.E.Emit.whole _ _ [] _ (g.met.E.Emit.nothing _) tt)
