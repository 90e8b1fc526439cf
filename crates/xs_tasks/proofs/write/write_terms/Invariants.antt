use Rattle.std.proofs.Common.{◌≡◌, ◌++◌, codes, drop, map}
use Rattle.std.specs.List.{flat_map}
use Rattle.xs_model.specs.Names.{words}
use Rattle.xs_tasks.specs.Written.{terms_text, term_word}
use Rattle.xs_tasks.proofs.write.write_terms.Given as goal

abbrev pub invariant-loop-term : goal.invariant-loop-term
invariant-loop-term l = l.out.items ++ flat_map (λ w. w ++ codes " ") (map (term_word (words l.decls)) (drop l.term-index l.terms)) ≡ l.fn.out.items ++ terms_text (words l.decls) l.terms
