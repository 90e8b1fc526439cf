-- Which conditions are asked of a text: all, as of one that is read, or all but the limits on what is read, as of one that
-- denotes an instance (a limit binds a reader, and no meaning needs it).
use Rattle.std.specs.Prelude.{ℕ, Bool, true, false, ◌||◌, nat_le, nat_lt, List, length, map, Option, None, Some, if◌then◌else◌, Result, Ok, Err}
use Rattle.std.specs.Result.{result_err}
use Rattle.xf_num.specs.Span.{Bounds}
use Rattle.xf_text.specs.declared.fault.Kind.{Kind}
use Rattle.xf_text.specs.declared.fault.Kind.TheVariants.{Logic, Range}
use Rattle.xs_fields.specs.declared.condition.Condition.{Condition}
use Rattle.xs_model.specs.Accepted.{most_constraints}
use Rattle.xs_model.specs.Bounds.{bounds, is_truth}
use Rattle.xs_model.specs.Fields.{body_fields}
use Rattle.xs_model.specs.Magnitude.{are_tasks, mag, mag_of}
use Rattle.xs_model.specs.Sound.{magnitudes}
use Rattle.xs_model.specs.declared.instance.Body.{Body}
use Rattle.xs_model.specs.declared.instance.Body.TheVariants as body
use Rattle.xs_model.specs.declared.instance.Constraint.{Constraint}
use Rattle.xs_model.specs.declared.instance.Constraint.TheVariants.{Intension, Cumulative}
use Rattle.xs_objectives.specs.Law.{is_limit}
use Rattle.xs_template.specs.Template.{as_written, within_words}
use Rattle.xs_units.specs.Units.{Unit, Holds, Makes}
use Rattle.xs_var.specs.Units.{UnitOf}

-- whether a condition is met, where limits are asked or not
abbrev pub asked : Bool → (Condition → Bool) → Condition → Bool
asked true meets k = meets k
asked false meets k = is_limit k || meets k

-- units of which no limit is asked
abbrev pub unlimited : {K : Type 0} → UnitOf K → UnitOf K
unlimited u = record { place = u.place; meets = λ s. asked false (u.meets s); judged = u.judged; behind = u.behind }

abbrev pub unlimited_unit : Unit → Unit
unlimited_unit (Holds place meets) = Holds place (asked false meets)
unlimited_unit (Makes place meets words made) = Makes place (λ before. asked false (meets before)) words made

abbrev pub asked_each : {K : Type 0} → Bool → List (UnitOf K) → List (UnitOf K)
asked_each true us = us
asked_each false us = map unlimited us

abbrev pub asked_units : Bool → List Unit → List Unit
asked_units true us = us
asked_units false us = map unlimited_unit us

-- how places of words are told: within the limit on words, which tells no more of them apart than can be read
abbrev pub told_by : Bool → ℕ → ℕ
told_by true n = within_words n
told_by false n = as_written n

-- whether one more constraint is within the limit
abbrev pub has_room : Bool → List Constraint → Bool
has_room true cs = nat_lt (length cs) most_constraints
has_room false cs = true

-- the fault of an expression that is to hold: of its first node at fault, else that it is no truth value
abbrev pub truth_fault : Result Bounds Kind → Option Kind
truth_fault (Ok b) = if is_truth b then None else Some Logic
truth_fault (Err k) = Some k

-- the fault of a constraint within the bounds of its variables: of its expression, or of the lengths and heights of its tasks
abbrev pub fault_in_bounds : List Bounds → Constraint → Option Kind
fault_in_bounds ss (Intension e) = truth_fault (bounds ss e)
fault_in_bounds ss (Cumulative origins lengths heights ends cond) = if are_tasks ss lengths heights then None else Some Logic
fault_in_bounds ss c = None

abbrev pub goal_in_bounds : List Bounds → Body → Option Kind
goal_in_bounds ss (body.Value e) = result_err (bounds ss e)
goal_in_bounds ss b = None

-- the fault of a magnitude
abbrev pub fault_of_magnitude : ℕ → Option Kind
fault_of_magnitude m = if nat_le m magnitudes then None else Some Range

abbrev pub first_fault : Option Kind → Option Kind → Option Kind
first_fault None b = b
first_fault (Some k) b = Some k

-- the fault of a constraint: within the bounds, and where limits are asked of the magnitude of the whole
abbrev pub fault_of : Bool → List Bounds → Constraint → Option Kind
fault_of true ss c = first_fault (fault_in_bounds ss c) (fault_of_magnitude (mag ss c))
fault_of false ss c = fault_in_bounds ss c

abbrev pub goal_fault : Bool → List Bounds → Body → Option Kind
goal_fault true ss b = first_fault (goal_in_bounds ss b) (fault_of_magnitude (mag_of ss (body_fields b)))
goal_fault false ss b = goal_in_bounds ss b
