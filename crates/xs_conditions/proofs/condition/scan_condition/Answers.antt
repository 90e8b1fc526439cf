use Rattle.std.proofs.Common.{◌≤◌, length, sym, ap, subst, ◌∙◌}
use Rattle.std.specs.List.{AllByRecursion}
use Rattle.xs_model.specs.Fields.{cond_items}
use Rattle.xs_model.specs.Fitting.{IsCond}
use Rattle.xs_model.specs.Formed.{IsFormedItem}
use Rattle.xs_model.specs.Outline.{variables_in}
use Rattle.xs_model.specs.declared.term.Cond.{Cond}
use Rattle.xs_conditions.specs.Conditions.{condition_of, split_in, split_meets}
use Rattle.xs_conditions.proofs.FormedLemmas.{cond_formed, split_fits}
use Rattle.xs_conditions.proofs.MissedLemmas.{counted, counted_few, counted_none}
use Rattle.xs_conditions.proofs.condition.scan_condition.Goals as goal

pub returns-clause-missed : goal.returns-clause-missed
returns-clause-missed c =
    let os = c.args.names.now in
    let text = c.args.text.now in
    c.with_count-missed.ensures
    ∙ counted (split_meets os (split_in text)) c.in_ok-reading.reading.missed (length (cond_items (condition_of os text))) c.count_items.result c.args.left
    c.in_ok-reading.ensures.missed (split_fits os (split_in text)) (λ none. c.count_items.ensures ∙ ap (λ (x : Cond). length (cond_items x)) (c.in_ok-reading.ensures.value none))

pub returns-clause-formed : goal.returns-clause-formed
returns-clause-formed c = λ none.
    let os = c.args.names.now in
    let clean = counted_none c.in_ok-reading.reading.missed c.count_items.result c.args.left (sym c.with_count-missed.ensures ∙ none) in
    subst (λ (x : Cond). AllByRecursion (IsFormedItem (variables_in os)) (cond_items x)) (sym (c.in_ok-reading.ensures.value clean)) (cond_formed os c.args.text.now (sym c.in_ok-reading.ensures.missed ∙ clean)).items

pub returns-clause-fitting : goal.returns-clause-fitting
returns-clause-fitting c = λ none.
    let clean = counted_none c.in_ok-reading.reading.missed c.count_items.result c.args.left (sym c.with_count-missed.ensures ∙ none) in
    subst IsCond (sym (c.in_ok-reading.ensures.value clean)) (cond_formed c.args.names.now c.args.text.now (sym c.in_ok-reading.ensures.missed ∙ clean)).cond

pub returns-clause-few : goal.returns-clause-few
returns-clause-few c = λ none. subst (λ n. n ≤ c.args.left) c.count_items.ensures (counted_few c.in_ok-reading.reading.missed c.count_items.result c.args.left (sym c.with_count-missed.ensures ∙ none))
