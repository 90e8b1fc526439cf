use Rattle.std.proofs.Common.{◌∙◌}
use Rattle.xs_model.specs.Outline.{names_in}
use Rattle.xs_var.proofs.NameLemmas.{declared_is}
use Rattle.xs_var.proofs.var.is_declared.Goals as goal

pub returns : goal.returns
returns c = c.is_some.ensures ∙ declared_is c.position.result (names_in c.args.names.now) c.args.name.now c.position.ensures.found c.position.ensures.only
