use Rattle.std.proofs.Common.{◌++◌, ℕ, ap₂}
use Rattle.lo_emit.specs.declared.term.Term.{Term}
use Rattle.lo_circuits.specs.Circuit.{first_index, low_walk}
use Rattle.lo_circuits.proofs.CodeLemmas.{begins_same, on_error}
use Rattle.lo_circuits.proofs.circuit.lower_first.Goals as goal

pub returns-clause-stopped : goal.returns-clause-stopped
returns-clause-stopped g c =
    let items = (first_index (g.E.Emit.count c.args.out.now) c.args.nodes.now c.args.bits.now).items in
    let same = ap₂ (λ (k : ℕ) (t : Term). items ++ low_walk k c.args.nodes.now c.args.moves.now t) c.in_ok-first.ensures.count c.in_ok-first.ensures.value in
    on_error c.lower_walk.result (λ began. g.met.E.Emit.then_began _ _ _ _ _ _ c.in_ok-first.ensures.ok began (begins_same _ _ same)) c.lower_walk.ensures.stopped
