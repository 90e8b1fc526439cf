use Rattle.std.proofs.Common.{◌∙◌, true, Ok, ap, sym}
use Rattle.xs_file.specs.Sections.{Progress, constraints_outcome, told_fault}
use Rattle.xs_model.specs.Outline.{outlines_of}
use Rattle.xs_file.proofs.RunLemmas.{section_declared, section_read}
use Rattle.xs_file.proofs.sections.read_constraints.Goals as goal

pub returns-in-Some-clause-outcome : goal.returns-in-Some-clause-outcome
returns-in-Some-clause-outcome c =
    let names = c.requires ∙ ap (λ (h : Progress). outlines_of h.declared.decls) (sym c.new.ensures) in
    ap (λ (h : Progress). constraints_outcome true h c.args.node.now) (sym c.new.ensures)
    ∙ section_read c.new.result c.walk_section.new.known c.in_ok-fault.fault c.args.node.now c.args.names.now names c.in_ok-fault.ensures
    ∙ ap (λ f. told_fault f c.walk_section.new.known.state) c.in-Some.is

pub returns-in-None-clause-outcome : goal.returns-in-None-clause-outcome
returns-in-None-clause-outcome c =
    let names = c.requires ∙ ap (λ (h : Progress). outlines_of h.declared.decls) (sym c.new.ensures) in
    ap (λ (h : Progress). constraints_outcome true h c.args.node.now) (sym c.new.ensures)
    ∙ section_read c.new.result c.walk_section.new.known c.in_ok-fault.fault c.args.node.now c.args.names.now names c.in_ok-fault.ensures
    ∙ ap (λ f. told_fault f c.walk_section.new.known.state) c.in-None.is
    ∙ ap (λ (h : Progress). Ok h) (sym c.into_held.ensures)

pub returns-in-None-clause-declared : goal.returns-in-None-clause-declared
returns-in-None-clause-declared c =
    let told = section_declared c.new.result c.walk_section.new.known c.in_ok-fault.fault c.args.node.now c.args.names.now c.in_ok-fault.ensures in
    ap (λ (h : Progress). h.declared) c.into_held.ensures ∙ told ∙ ap (λ (h : Progress). h.declared) c.new.ensures
