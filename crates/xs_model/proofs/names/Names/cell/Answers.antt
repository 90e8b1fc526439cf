use Rattle.std.proofs.Common.{◌∙◌, ap, get_or, None}
use Rattle.xs_model.specs.Outline.{cell_numbers}
use Rattle.xs_model.proofs.NamesLemmas.{numbers_are}
use Rattle.xs_model.proofs.names.Names.cell.Goals as goal

pub returns : goal.returns
returns c = c.number.ensures ∙ ap (λ ns. get_or ns c.args.place None) (numbers_are c.self.inside.table c.self.inside.next c.args.at c.entry.result.now c.self.invariant c.entry.ensures ∙ ap (λ os. cell_numbers os c.args.at) c.self.view_is)
