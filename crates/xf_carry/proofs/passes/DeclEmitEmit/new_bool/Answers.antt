use Rattle.xf_carry.proofs.Fronts.{err_both, ok_both}
use Rattle.xf_carry.proofs.Steps.{boolean_grew, boolean_began}
use Rattle.xf_carry.proofs.passes.DeclEmitEmit.new_bool.Goals as goal

pub returns-clause-ok : goal.returns-clause-ok
returns-clause-ok g c =
    let e = c.write_next.ensures in
    ok_both c.write_next.result (boolean_grew g.W.Sink.holds g.W.Sink.faults c.args.self.now c.write_next.new.self c.truth_values.result c.truth_values.ensures e.named e.faults) e.counted e.ok

pub returns-clause-stopped : goal.returns-clause-stopped
returns-clause-stopped g c =
    let e = c.write_next.ensures in
    err_both c.write_next.result (boolean_began g.W.Sink.holds g.W.Sink.faults c.args.self.now c.write_next.new.self c.truth_values.result c.truth_values.ensures e.named e.faults) e.uncounted e.front
