use Rattle.std.proofs.Common.{◌++◌, ℕ, ap}
use Rattle.lo_circuits.specs.Circuit.{low_some, low_counted}
use Rattle.lo_circuits.proofs.CodeLemmas.{begins_same, on_error}
use Rattle.lo_circuits.proofs.circuit.lower_seen.Goals as goal

pub returns-clause-stopped : goal.returns-clause-stopped
returns-clause-stopped g c =
    let same = ap (λ (k : ℕ). low_some c.args.seen.now ++ low_counted k c.args.nodes.now c.args.moves.now c.args.seen.now) c.in_ok-lower_some.ensures.count in
    on_error c.lower_counted.result (λ began. g.met.E.Emit.then_began _ _ _ _ _ _ c.in_ok-lower_some.ensures.ok began (begins_same _ _ same)) c.lower_counted.ensures.stopped
