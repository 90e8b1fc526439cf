-- What a constraint on tasks is lowered to, by its form (XCSP3-core, "Constraint cumulative").
use Rattle.std.specs.Prelude.{ℕ, Bool, true, false, List, []}
use Rattle.lo_base.specs.Item.{Item}
use Rattle.lo_tasks.specs.Cumulative.{low_cumulative}
use Rattle.xf_num.specs.Span.{Bounds}
use Rattle.xs_model.specs.declared.instance.Constraint.{Constraint}
use Rattle.xs_model.specs.declared.instance.Constraint.TheVariants.{Cumulative}

abbrev pub is_cumulative : Constraint → Bool
is_cumulative (Cumulative origins lengths heights ends cond) = true
is_cumulative c = false

abbrev pub low_form : List Bounds → ℕ → Constraint → List Item
low_form ss n (Cumulative origins lengths heights ends cond) = low_cumulative ss n origins lengths heights ends cond
low_form ss n c = []
