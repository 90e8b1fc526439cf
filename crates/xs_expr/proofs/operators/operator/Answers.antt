use Rattle.std.proofs.Common.{◌≡◌, subst, sym, ◌∙◌, ap}
use Rattle.std.specs.Prelude.{IfSome}
use Rattle.xs_expr.specs.Operators.{all, by_name}
use Rattle.xs_expr.specs.Text.{name_of}
use Rattle.xs_expr.proofs.Named.{by_name-name_of, look_up-named}
use Rattle.xs_expr.proofs.operators.operator.Goals as goal

pub returns-clause-named : goal.returns-clause-named
returns-clause-named c = subst (λ r. IfSome r (λ op. name_of op ≡ c.args.name.now)) (sym c.find.ensures) (look_up-named all c.args.name.now)

pub returns-clause-every : goal.returns-clause-every
returns-clause-every c = λ op e. c.find.ensures ∙ ap by_name (sym e) ∙ by_name-name_of op
