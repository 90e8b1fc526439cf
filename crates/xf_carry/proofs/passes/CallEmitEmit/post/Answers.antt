use Rattle.xf_carry.proofs.Fronts.{err_maps}
use Rattle.xf_carry.proofs.Steps.{posted_began}
use Rattle.xf_carry.proofs.passes.CallEmitEmit.post.Goals as goal

pub returns-clause-stopped : goal.returns-clause-stopped
returns-clause-stopped g c =
    let e = c.write_call.ensures in
    err_maps c.write_call.result (posted_began g.W.Sink.holds g.W.Sink.faults c.args.self.now c.write_call.new.self c.args.call e.named e.faults e.count) e.front
