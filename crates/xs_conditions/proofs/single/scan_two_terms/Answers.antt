use Rattle.std.proofs.Common.{sym, subst, ◌∙◌}
use Rattle.xs_model.specs.Fields.{item_of}
use Rattle.xs_model.specs.Formed.{IsFormedItem}
use Rattle.xs_model.specs.Outline.{variables_in}
use Rattle.xs_model.specs.declared.term.Term.{Term}
use Rattle.xs_conditions.proofs.FormedLemmas.{two_terms_formed}
use Rattle.xs_conditions.proofs.single.scan_two_terms.Goals as goal

pub returns-clause-first : goal.returns-clause-first
returns-clause-first c = λ none.
    let os = c.args.names.now in
    subst (λ (t : Term × Term). IsFormedItem (variables_in os) (item_of t.0)) (sym (c.in_ok-reading.ensures.value none)) (two_terms_formed os c.args.text.now (sym c.in_ok-reading.ensures.missed ∙ none)).0

pub returns-clause-second : goal.returns-clause-second
returns-clause-second c = λ none.
    let os = c.args.names.now in
    subst (λ (t : Term × Term). IsFormedItem (variables_in os) (item_of t.1)) (sym (c.in_ok-reading.ensures.value none)) (two_terms_formed os c.args.text.now (sym c.in_ok-reading.ensures.missed ∙ none)).1
