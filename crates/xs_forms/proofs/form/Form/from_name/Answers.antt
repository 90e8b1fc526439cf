use Rattle.std.proofs.Common.{◌≡◌, subst, sym, ◌∙◌, ap}
use Rattle.std.specs.Prelude.{IfSome}
use Rattle.xs_forms.specs.Forms.{all_forms, by_name, form_name}
use Rattle.xs_forms.proofs.FormNames.{by_name-form_name, look_up-named}
use Rattle.xs_forms.proofs.form.Form.from_name.Goals as goal

pub returns-clause-named : goal.returns-clause-named
returns-clause-named c = subst (λ r. IfSome r (λ f. form_name f ≡ c.args.name.now)) (sym c.find.ensures) (look_up-named all_forms c.args.name.now)

pub returns-clause-every : goal.returns-clause-every
returns-clause-every c = λ f e. c.find.ensures ∙ ap by_name (sym e) ∙ by_name-form_name f
