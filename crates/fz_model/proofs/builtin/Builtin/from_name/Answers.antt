use Rattle.std.proofs.Common.{◌≡◌, subst, sym, ◌∙◌, ap}
use Rattle.std.specs.Prelude.{IfSome}
use Rattle.fz_model.specs.Builtins.{all, by_name, name_of}
use Rattle.fz_model.proofs.Names.{by_name-name_of, look_up-named}
use Rattle.fz_model.proofs.builtin.Builtin.from_name.Goals as goal

pub returns-clause-named : goal.returns-clause-named
returns-clause-named c = subst (λ r. IfSome r (λ b. name_of b ≡ c.args.name.now)) (sym c.find.ensures) (look_up-named all c.args.name.now)

pub returns-clause-every : goal.returns-clause-every
returns-clause-every c = λ b e. c.find.ensures ∙ ap by_name (sym e) ∙ by_name-name_of b
