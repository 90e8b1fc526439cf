use Rattle.std.proofs.Common.{◌≡◌, ℕ, ℤ, List, [], sym, subst}
use Rattle.xs_fields.specs.Cells.{vars_of}
use Rattle.xs_model.specs.Accepted.{IsFormed}
use Rattle.xs_model.specs.Outline.{variables_in}
use Rattle.xs_model.specs.declared.instance.Constraint.TheVariants.{AllDifferent}
use Rattle.xs_relate.proofs.ReadLemmas.{list_formed}
use Rattle.xs_relate.proofs.different.scan_list.Goals as goal

pub returns-clause-formed : goal.returns-clause-formed
returns-clause-formed c = λ none.
    let os = c.args.names.now in
    let text = c.args.text.now in
    let list = c.in_ok-list.list.value in
    let is : list ≡ vars_of os text = c.in_ok-list.ensures.value none in
    subst (λ (es : List ℤ). IsFormed (variables_in os) (AllDifferent list es)) (sym c.new-except.ensures)
    (subst (λ (vs : List ℕ). IsFormed (variables_in os) (AllDifferent vs [])) (sym is) (list_formed os text))
