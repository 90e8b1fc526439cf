use Rattle.std.proofs.Common.{List, true, subst, map, sym}
use Rattle.xf_markup.specs.declared.tree.Node.{Node}
use Rattle.xs_file.specs.Sections.{Progress, objective_unit}
use Rattle.xs_var.specs.Elements.{children_of}
use Rattle.xs_var.specs.Taken.{IsRead}
use Rattle.xs_var.specs.Units.{outcome}
use Rattle.xs_file.proofs.GoalLemmas.{only_child}
use Rattle.xs_file.proofs.sections.read_only.Goals as goal

pub returns-in-Some-clause-outcome : goal.returns-in-Some-clause-outcome
returns-in-Some-clause-outcome c =
    subst (λ (ns : List Node). IsRead {A = Progress} (λ h. h) c.read_objective.result (outcome c.args.held (map (objective_unit true) ns)))
    (only_child c.in-Some.objective.now (children_of c.in-Some.field-0-1.now) (children_of c.args.pieces.now) c.in-Some.ensures.value c.requires)
    c.read_objective.ensures.outcome
