-- The model that an instance is lowered to, and that it states the instance's problem.
use Rattle.std.specs.Prelude.{ℕ, ◌+◌, ◌*◌, ◌≤◌, List, [], ◌++◌, length, map, sum}
use Rattle.xf_problem.specs.Problem.{Extends, ExtendsOnce}
use Rattle.xs_model.specs.declared.instance.Instance.{Instance}
use Rattle.xs_model.specs.Names.{words}
use Rattle.xs_model.specs.Instance as xcsp
use Rattle.xs_model.specs.Accepted.{IsSound, IsAccepted}
use Rattle.xs_model.specs.Spans.{spans_of}
use Rattle.fz_model.specs.declared.model.FzVar.{FzVar}
use Rattle.fz_model.specs.declared.model.Goal.TheVariants.{Satisfy}
use Rattle.fz_model.specs.declared.model.Model.{Model}
use Rattle.fz_model.specs.Size.{size_of}
use Rattle.fz_model.specs.Solved as flat
use Rattle.fz_model.specs.Sound as flatzinc
use Rattle.lo_names.specs.Spelling.{spelled}
use Rattle.lo_names.specs.Shown.{shown_vars}
use Rattle.lo_base.specs.Item.{Item}
use Rattle.lo_base.specs.Lowered.{vars_of, calls_of}
use Rattle.lo_instance.specs.Form.{low_all}
use Rattle.lo_instance.specs.Laws.{square_of}

-- the variables and calls that the instance's constraints are lowered to
abbrev pub low_items : Instance → List Item
low_items i = low_all (spans_of i.decls) (length (words i.decls)) i.constraints

-- named variables, and then what the items make and post
abbrev pub model_of : List FzVar → List Item → Model
model_of named items = record { vars = named ++ vars_of 0 items; outputs = []; calls = calls_of items; goal = Satisfy }

-- the model of an instance: the instance's variables, then auxiliaries
abbrev pub low : Instance → Model
low i = model_of (shown_vars i.decls) (low_items i)

-- the weight of an instance: its variables, and the square of one more than the items of each constraint
abbrev pub weight_of : Instance → ℕ
weight_of i = length (words i.decls) + sum (map square_of i.constraints)

-- the model is no larger than 64 times the weight of the instance
abbrev pub LowSize : Type 0
LowSize = (i : Instance) → IsSound i → size_of (low i) ≤ 64 * weight_of i

-- the instance's variables come first, an assignment solves the instance exactly when it extends to a solution of the
-- model, and neither has an objective
abbrev pub LowExtends : Type 0
LowExtends = (i : Instance) → IsSound i → Extends spelled (xcsp.problem_of i) (flat.problem_of (low i))

-- a solution extends to one solution of the model
abbrev pub LowExtendsOnce : Type 0
LowExtendsOnce = (i : Instance) → IsSound i → ExtendsOnce (xcsp.problem_of i) (flat.problem_of (low i))

-- the model of an accepted instance is a sound model of FlatZinc
abbrev pub LowSound : Type 0
LowSound = (i : Instance) → IsAccepted i → flatzinc.IsSound (low i)
