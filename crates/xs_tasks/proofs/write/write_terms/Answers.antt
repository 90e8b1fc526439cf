use Rattle.std.proofs.Common.{◌++◌, List, ℕ, codes, map, ap, ◌∙◌, append_assoc, arith, length, pos}
use Rattle.std.specs.List.{flat_map}
use Rattle.xs_model.specs.Names.{words}
use Rattle.xs_model.specs.declared.term.Term.TheVariants.{Int}
use Rattle.xs_tasks.specs.Written.{term_word}
use Rattle.xs_tasks.proofs.TextLemmas.{item_at}
use Rattle.xs_tasks.proofs.write.write_terms.Goals as goal

pub loop-term-init : goal.loop-term-init
loop-term-init c =
    let rest = flat_map (λ (w : List ℕ). w ++ codes " ") (map (term_word (words c.args.decls.now)) c.args.terms.now) in
    ap (λ xs. xs ++ rest) c.in_ok-extend_from_slice.ensures.items ∙ append_assoc c.args.out.now.items (codes " ") rest

pub write_term-requires-clause-declared : goal.write_term-requires-clause-declared
write_term-requires-clause-declared c = item_at (length (words c.args.decls.now)) c.args.terms.now c.loop-term.term-index (Int (pos 0)) c.requires.declared (omega arith)
