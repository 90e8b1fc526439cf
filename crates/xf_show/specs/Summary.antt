-- The summaries of instances and of models: lines of the program's own, with the forms in the order of XCSP3-core,
-- "Constraints", and the builtins in that of their table.
use Rattle.std.specs.Prelude.{ℕ, nat_eq, List, [], ◌++◌, length, codes, count_by, bytes_eq, Option, Some, None, if◌then◌else◌}
use Rattle.std.specs.Fmt.{decimal}
use Rattle.std.specs.List.{flat_map}
use Rattle.fz_model.specs.Builtins as builtins
use Rattle.fz_model.specs.declared.builtin.Builtin.{Builtin}
use Rattle.fz_model.specs.declared.model.Call.{Call}
use Rattle.fz_model.specs.declared.model.Goal.{Goal}
use Rattle.fz_model.specs.declared.model.Goal.TheVariants as goal
use Rattle.fz_model.specs.declared.model.Model.{Model}
use Rattle.xs_forms.specs.Forms.{all_forms, form_name, form_of}
use Rattle.xs_forms.specs.declared.form.Form.{Form}
use Rattle.xs_model.specs.Names.{words}
use Rattle.xs_model.specs.declared.instance.Constraint.{Constraint}
use Rattle.xs_model.specs.declared.instance.Direction.{Direction}
use Rattle.xs_model.specs.declared.instance.Direction.TheVariants.{Minimize, Maximize}
use Rattle.xs_model.specs.declared.instance.Instance.{Instance}
use Rattle.xs_model.specs.declared.instance.Objective.{Objective}

-- a name and its count
abbrev pub count_line : List ℕ → ℕ → List ℕ
count_line name n = name ++ (codes " " ++ (decimal n ++ codes "\n"))

-- only where it occurs
abbrev pub occurring : List ℕ → ℕ → List ℕ
occurring name n = if nat_eq n 0 then [] else count_line name n

-- the format, how many variables and constraints there are, and the goal
abbrev pub head : List ℕ → ℕ → ℕ → List ℕ → List ℕ
head format variables constraints goal =
    format ++ (codes "\n" ++ (count_line (codes "variables") variables ++ (count_line (codes "constraints") constraints ++ (codes "goal " ++ (goal ++ codes "\n")))))

abbrev pub direction_name : Direction → List ℕ
direction_name Minimize = codes "minimize"
direction_name Maximize = codes "maximize"

abbrev pub goal_name : Option Objective → List ℕ
goal_name None = codes "satisfy"
goal_name (Some o) = direction_name o.direction

-- how many of the constraints are of the form
abbrev pub form_count : Form → List Constraint → ℕ
form_count f cs = count_by (λ c. bytes_eq (form_name (form_of c)) (form_name f)) cs

abbrev pub form_line : List Constraint → Form → List ℕ
form_line cs f = occurring (form_name f) (form_count f cs)

abbrev pub instance_head : Instance → List ℕ
instance_head i = head (codes "xcsp3") (length (words i.decls)) (length i.constraints) (goal_name i.objective)

abbrev pub instance_summary : Instance → List ℕ
instance_summary i = instance_head i ++ flat_map (form_line i.constraints) all_forms

abbrev pub model_goal_name : Goal → List ℕ
model_goal_name goal.Satisfy = codes "satisfy"
model_goal_name (goal.Minimize v) = codes "minimize"
model_goal_name (goal.Maximize v) = codes "maximize"

-- how many of the calls are of the builtin
abbrev pub builtin_count : Builtin → List Call → ℕ
builtin_count b cs = count_by (λ c. bytes_eq (builtins.name_of c.builtin) (builtins.name_of b)) cs

abbrev pub builtin_line : List Call → Builtin → List ℕ
builtin_line cs b = occurring (builtins.name_of b) (builtin_count b cs)

abbrev pub model_head : Model → List ℕ
model_head m = head (codes "flatzinc") (length m.vars) (length m.calls) (model_goal_name m.goal)

abbrev pub model_summary : Model → List ℕ
model_summary m = model_head m ++ flat_map (builtin_line m.calls) builtins.all
