use Rattle.std.proofs.Common.{◌<◌, ◌^◌, ◌∙◌, sym, ap, subst, length}
use Rattle.std.specs.List.{AllByRecursion}
use Rattle.xs_model.specs.Outline.{sizes_at}
use Rattle.xs_model.specs.Sound.{IsSize, cell_count}
use Rattle.xs_model.specs.Table.{outlines}
use Rattle.xs_model.proofs.NamesLemmas.{sizes_are, sound_sizes, few_cells}
use Rattle.xs_model.proofs.names.Names.sizes.Goals as goal

pub returns-clause-value : goal.returns-clause-value
returns-clause-value c = c.sizes.ensures ∙ (sizes_are c.self.inside.table c.args.at c.entry.result.now c.entry.ensures ∙ ap (λ os. sizes_at os c.args.at) c.self.view_is)

pub returns-clause-sound : goal.returns-clause-sound
returns-clause-sound c =
    let e = c.sizes.ensures ∙ sizes_are c.self.inside.table c.args.at c.entry.result.now c.entry.ensures in
    let l = subst (λ os. c.args.at < length os) (sym c.self.view_is) c.requires in
    subst (AllByRecursion IsSize) (sym e) (sound_sizes (outlines c.self.inside.table) c.args.at l c.self.invariant.sound)

pub returns-clause-few : goal.returns-clause-few
returns-clause-few c =
    let e = c.sizes.ensures ∙ sizes_are c.self.inside.table c.args.at c.entry.result.now c.entry.ensures in
    let l = subst (λ os. c.args.at < length os) (sym c.self.view_is) c.requires in
    subst (λ ns. cell_count ns < 2 ^ 64) (sym e) (few_cells (outlines c.self.inside.table) c.args.at l c.self.invariant.sound c.self.invariant.few)
