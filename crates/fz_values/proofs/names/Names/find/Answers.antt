use Rattle.std.proofs.Common.{◌∙◌, ap}
use Rattle.fz_values.specs.Names.{look_up}
use Rattle.fz_values.proofs.NameLemmas.{found}
use Rattle.fz_values.proofs.names.Names.find.Goals as goal

pub returns : goal.returns
returns c = c.get.ensures.value ∙ (found (λ k. k.items) c.self.inside.entries.entries c.args.name.now ∙ ap (λ es. look_up es c.args.name.now) c.self.view_is)
