use Rattle.std.proofs.Common.{sym, subst, ◌∙◌}
use Rattle.xs_model.specs.Fields.{item_of}
use Rattle.xs_model.specs.Formed.{IsFormedItem}
use Rattle.xs_model.specs.Outline.{variables_in}
use Rattle.xs_model.specs.declared.term.Term.{Term}
use Rattle.xs_conditions.proofs.FormedLemmas.{one_term_formed}
use Rattle.xs_conditions.proofs.single.scan_term.Goals as goal

pub returns-clause-formed : goal.returns-clause-formed
returns-clause-formed c = λ none.
    let os = c.args.names.now in
    subst (λ (t : Term). IsFormedItem (variables_in os) (item_of t)) (sym (c.in_ok-reading.ensures.value none)) (one_term_formed os c.args.text.now (sym c.in_ok-reading.ensures.missed ∙ none))
