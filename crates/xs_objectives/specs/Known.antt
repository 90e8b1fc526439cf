-- Which elements, attributes and words of an objective are known (XCSP3-core, "Objectives").
use Rattle.std.specs.Prelude.{Bool, false, ◌&&◌, [], ◌∷◌, Option, None, Some, codes}
use Rattle.std.specs.List.{list_all}
use Rattle.xf_markup.specs.declared.tree.Node.{Node}
use Rattle.xs_objectives.specs.Measures.{is_child_of, measure_of}
use Rattle.xs_objectives.specs.declared.measure.Measure.{Measure}
use Rattle.xs_var.specs.Elements.{children_of, has_only, is_one_of, value_in}
use Rattle.xs_var.specs.Variable.{has_no_child}

-- a child that the type has; no element stands in it
abbrev pub is_child_known : Measure → Node → Bool
is_child_known m c = is_child_of m c.name && (has_only (codes "class" ∷ codes "note" ∷ []) c.attrs && has_no_child c.pieces)

-- a type, and its children
abbrev pub are_children_known : Option Measure → Node → Bool
are_children_known None n = false
are_children_known (Some m) n = list_all (is_child_known m) (children_of n.pieces)

-- `minimize` or `maximize`, with its attributes, its type and its children
abbrev pub is_objective_known : Node → Bool
is_objective_known n =
    is_one_of (codes "minimize" ∷ codes "maximize" ∷ []) n.name
    && (has_only (codes "id" ∷ codes "type" ∷ codes "class" ∷ codes "note" ∷ []) n.attrs && are_children_known (measure_of (value_in (codes "type") n.attrs)) n)
