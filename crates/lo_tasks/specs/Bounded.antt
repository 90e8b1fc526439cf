-- Terms whose bounds are small.
use Rattle.std.specs.Prelude.{List, length}
use Rattle.fz_model.specs.Limits.{IsSmall}
use Rattle.lo_tasks.specs.declared.task.Task.{Task}
use Rattle.xf_num.specs.Span.{Bounds}
use Rattle.xs_model.specs.declared.term.Term.{Term}
use Rattle.xs_model.specs.Fields.{item_of}
use Rattle.xs_model.specs.Formed.{IsFormedItem}
use Rattle.xs_model.specs.Magnitude.{term_bounds}

-- a small integer, or one of the variables of these bounds, where they are small
pub record IsBounded (ss : List Bounds) (t : Term) : Type 0 where
  pub inside : IsFormedItem (length ss) (item_of t)
  pub small : IsSmall (term_bounds ss t)

-- the height of a task is so
abbrev pub HasBoundedHeight : List Bounds → Task → Type 0
HasBoundedHeight ss task = IsBounded ss task.height
