use Rattle.std.proofs.Common.{◌≡◌, ◌++◌, [], drop, map}
use Rattle.xs_expr.specs.Text.{joined_from}
use Rattle.xs_model.specs.Names.{words}
use Rattle.xs_boxes.specs.Written.{term_word}
use Rattle.xs_boxes.proofs.write.write_terms.Given as goal

abbrev pub invariant-loop-term : goal.invariant-loop-term
invariant-loop-term l = l.out.items ++ joined_from l.before (map (term_word (words l.decls)) (drop l.term-index l.terms)) ≡ l.initial.out.items ++ joined_from [] (map (term_word (words l.decls)) l.terms)
