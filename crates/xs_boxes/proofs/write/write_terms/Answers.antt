use Rattle.std.proofs.Common.{arith, length, pos}
use Rattle.xs_model.specs.Names.{words}
use Rattle.xs_model.specs.declared.term.Term.TheVariants.{Int}
use Rattle.xs_boxes.proofs.TextLemmas.{item_at}
use Rattle.xs_boxes.proofs.write.write_terms.Goals as goal

pub write_term-requires-clause-declared : goal.write_term-requires-clause-declared
write_term-requires-clause-declared c = item_at (length (words c.args.decls.now)) c.args.terms.now c.loop-term.term-index (Int (pos 0)) c.requires.declared (omega arith)
