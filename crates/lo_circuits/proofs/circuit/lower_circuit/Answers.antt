use Rattle.std.proofs.Common.{rules}
use Rattle.lo_circuits.specs.Circuit.{low_circuit}
use Rattle.lo_circuits.proofs.circuit.lower_circuit.Goals as goal

pub returns-clause-count : goal.returns-clause-count
returns-clause-count g c =
    let grew : g.E.Emit.grew c.args.out.now c.lower_places.new.out (low_circuit (g.E.Emit.count c.args.out.now) c.args.list.now c.args.start c.args.size) = search rules in
    g.met.E.Emit.counted _ _ _ grew
