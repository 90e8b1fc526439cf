use Rattle.std.proofs.Common.{length}
use Rattle.xs_model.proofs.FormLemmas.{below_of_items}
use Rattle.xs_model.specs.Names.{words}
use Rattle.xs_circuits.proofs.write.write_circuit.Goals as goal

pub write_body-requires-clause-declared : goal.write_body-requires-clause-declared
write_body-requires-clause-declared c = below_of_items (length (words c.args.decls.now)) c.args.list.now c.requires.formed.fields.0
