-- The units of an instance (XCSP3-core, "Skeleton"), in document order: `instance`, `variables` with its declarations,
-- `constraints` with its blocks, groups, slides and constraints, and `objectives`; `annotations` is dropped.
use Rattle.std.specs.Prelude.{◌≡◌, ℕ, ◌+◌, ◌-◌, Bool, true, false, ◌&&◌, not, nat_le, List, [], ◌∷◌, ◌++◌, length, map, sum, Option, None, Some, if◌then◌else◌, Result, Ok, Err, codes}
use Rattle.std.specs.Str.{bytes_eq}
use Rattle.xf_markup.specs.declared.tree.Node.{Node}
use Rattle.xf_text.specs.declared.fault.Fault.{Fault}
use Rattle.xf_num.specs.declared.memory.NoMemory.{NoMemory}
use Rattle.xf_text.specs.declared.fault.Kind.{Kind}
use Rattle.xf_text.specs.declared.fault.Kind.TheVariants.{Many}
use Rattle.xs_fields.specs.Conditions.{first_missed, kind_of}
use Rattle.xs_file.specs.Asked.{asked, asked_each, asked_units, fault_of, goal_fault, has_room, told_by}
use Rattle.xs_fields.specs.declared.condition.Condition.{Condition}
use Rattle.xs_model.specs.Outline.{outlines_of}
use Rattle.xs_model.specs.Spans.{spans_of}
use Rattle.xs_model.specs.Accepted.{goal_items, items_of}
use Rattle.xs_model.specs.Sound.{most_items}
use Rattle.xs_model.specs.declared.instance.Constraint.{Constraint}
use Rattle.xs_model.specs.declared.instance.Instance.{Instance}
use Rattle.xs_model.specs.declared.concrete.Concrete.{Concrete}
use Rattle.xs_model.specs.declared.instance.Objective.{Objective}
use Rattle.xs_constraints.specs.Forms as forms
use Rattle.xs_objectives.specs.Known.{is_objective_known}
use Rattle.xs_objectives.specs.Objective as goal
use Rattle.xs_template.specs.Concrete.{made_of, unchanged}
use Rattle.xs_units.specs.Units.{Ran, run, section_units}
use Rattle.xs_var.specs.Container.{are_children_known}
use Rattle.xs_var.specs.Elements.{children_of, has_only, is_one_of, text_in, value_in}
use Rattle.xs_var.specs.Units.{UnitOf, fault_or, outcome, unjudged}
use Rattle.xs_var.specs.VarUnit.{Declared}
use Rattle.xs_var.specs.Variable.{is_blank, known_meets, spelling_meets}
use Rattle.xs_vars.specs.Declarations.{nothing, units_of}

-- `CSP`, `COP`, or no type
abbrev pub is_problem_type : Option (List ℕ) → Bool
is_problem_type None = true
is_problem_type (Some text) = is_one_of (codes "CSP" ∷ codes "COP" ∷ []) text

abbrev pub names_of : List Node → List (List ℕ)
names_of ns = map (λ n. n.name) ns

abbrev pub are_distinct : List (List ℕ) → Bool
are_distinct [] = true
are_distinct (name ∷ names) = not (is_one_of names name) && are_distinct names

-- `variables` first, and none twice
abbrev pub are_sections : List (List ℕ) → Bool
are_sections [] = false
are_sections (name ∷ names) = bytes_eq name (codes "variables") && are_distinct (name ∷ names)

abbrev pub section_names : List (List ℕ)
section_names = codes "variables" ∷ codes "constraints" ∷ codes "objectives" ∷ codes "annotations" ∷ []

abbrev pub is_instance_known : Node → Bool
is_instance_known n =
    bytes_eq n.name (codes "instance")
    && (has_only (codes "format" ∷ codes "type" ∷ codes "class" ∷ codes "note" ∷ []) n.attrs
    && (is_problem_type (value_in (codes "type") n.attrs) && are_children_known section_names n.pieces))

-- what `instance` meets by itself
abbrev pub instance_meets : Node → Condition → Bool
instance_meets n k = known_meets (is_instance_known n) k && spelling_meets (is_blank (text_in n.pieces) && are_sections (names_of (children_of n.pieces))) k

-- what is read before a unit behind `variables`
pub record Progress : Type 0 where
  pub declared : Declared
  pub constraints : List Constraint
  pub objective : Option Objective

-- how many items may still come
abbrev pub left_of : Progress → ℕ
left_of s = most_items - ((s.declared.values + sum (map items_of s.constraints)) + goal_items s.objective)

-- what the form of a constraint meets; a form that is not known meets nothing
abbrev pub form_meets : Progress → Concrete → Condition → Bool
form_meets s c k = forms.form_meets (outlines_of s.declared.decls) (left_of s) c k

-- the constraint behind what is read
abbrev pub constraint_behind : Progress → Concrete → Constraint
constraint_behind s c = forms.form_of (outlines_of s.declared.decls) c

abbrev pub with_constraint : Progress → Constraint → Progress
with_constraint s c = record { declared = s.declared; constraints = s.constraints ++ c ∷ []; objective = s.objective }

abbrev pub added_on : Progress → Bool → Option Kind → Constraint → Result Progress Kind
added_on s false fault c = Err Many
added_on s true (Some kind) c = Err kind
added_on s true None c = Ok (with_constraint s c)

-- a constraint is appended, where its judgement by the bounds of the variables finds no fault. `limits` says whether the limits
-- on what is read are asked. Of a file of the greatest length
-- come fewer constraints than the limit on their number: at most one for each element, and one for each window of a slide, and
-- windows are no more than words
abbrev pub added : Bool → Progress → Constraint → Result Progress Kind
added limits s c = added_on s (has_room limits s.constraints) (fault_of limits (spans_of s.declared.decls) c) c

abbrev pub taken_on : Bool → Progress → Option Condition → Constraint → Result Progress Kind
taken_on limits s (Some k) c = Err (kind_of k)
taken_on limits s None c = added limits s c

-- a constraint is read and appended, or the kind of its fault
abbrev pub taken : Bool → Progress → Concrete → Result Progress Kind
taken limits s c = taken_on limits s (first_missed (asked limits (form_meets s c))) (constraint_behind s c)

-- what comes of a step: the next state, or the kind of a fault, which changes nothing
abbrev pub IsStep : Result Progress Kind → Progress → Progress → Result (Option Kind) NoMemory → Type 0
IsStep told old new (Ok None) = told ≡ Ok new
IsStep told old new (Ok (Some kind)) = (told ≡ Err kind) × (new ≡ old)
IsStep told old new (Err e) = Unit {0}

-- what `objectives` meets by itself: at most one objective
abbrev pub objectives_meet : Node → Condition → Bool
objectives_meet n k = known_meets (has_only (codes "class" ∷ codes "note" ∷ []) n.attrs) k && spelling_meets (is_blank (text_in n.pieces) && nat_le (length (children_of n.pieces)) 1) k

-- what an objective meets: none is known so far
abbrev pub objective_meets : Progress → Node → Condition → Bool
objective_meets s n k = known_meets false k

-- the objective behind what is read
abbrev pub objective_behind : Progress → Node → Objective
objective_behind s n = goal.objective_of (outlines_of s.declared.decls) (made_of unchanged n.place n)

abbrev pub with_objective : Progress → Objective → Progress
with_objective s o = record { declared = s.declared; constraints = s.constraints; objective = Some o }

abbrev pub objective_unit : Bool → Node → UnitOf Progress
objective_unit limits n = record {
  place = n.place;
  meets = λ s. asked limits (objective_meets s n);
  judged = λ s. goal_fault limits (spans_of s.declared.decls) (objective_behind s n).body;
  behind = λ s. with_objective s (objective_behind s n);
}

abbrev pub container_unit : (Node → Condition → Bool) → Node → UnitOf Progress
container_unit meet n = record { place = n.place; meets = λ s. meet n; judged = unjudged; behind = λ s. s }

abbrev pub told_fault : Option Fault → Progress → Result Progress Fault
told_fault None s = Ok s
told_fault (Some fault) s = Err fault

abbrev pub told_ran : Ran Progress → Result Progress Fault
told_ran r = told_fault r.fault r.known.state

-- the constraints of `constraints`, unit after unit
abbrev pub constraints_outcome : Bool → Progress → Node → Result Progress Fault
constraints_outcome limits s n =
    told_ran (run (taken limits) (asked_units limits (section_units (told_by limits) (outlines_of s.declared.decls) n)) (record { words = 0; state = s }))

-- the units of `objectives`
abbrev pub objectives_units : Bool → Node → List (UnitOf Progress)
objectives_units limits n = container_unit objectives_meet n ∷ map (objective_unit limits) (children_of n.pieces)

-- what is read behind a section
abbrev pub section_outcome : Bool → Progress → Node → Result Progress Fault
section_outcome limits s n =
    if bytes_eq n.name (codes "constraints") then constraints_outcome limits s n
    else if bytes_eq n.name (codes "objectives") then outcome s (objectives_units limits n)
    else Ok s

-- what is read behind some sections
abbrev pub sections_behind : Bool → Result Progress Fault → List Node → Result Progress Fault
sections_behind limits r [] = r
sections_behind limits (Err fault) (n ∷ ns) = Err fault
sections_behind limits (Ok s) (n ∷ ns) = sections_behind limits (section_outcome limits s n) ns

abbrev pub begun : Declared → Progress
begun d = record { declared = d; constraints = []; objective = None }

-- the sections behind what is declared
abbrev pub behind_declared : Bool → Result Declared Fault → List Node → Result Progress Fault
behind_declared limits (Err fault) rest = Err fault
behind_declared limits (Ok d) rest = sections_behind limits (Ok (begun d)) rest

-- `variables`, and the sections behind it
abbrev pub sections_outcome : Bool → List Node → Result Progress Fault
sections_outcome limits [] = Ok (begun nothing)
sections_outcome limits (v ∷ rest) = behind_declared limits (outcome nothing (asked_each limits (units_of v))) rest

-- what is read of an instance, or the fault of the first unit that misses a condition
abbrev pub instance_outcome : Bool → Node → Result Progress Fault
instance_outcome limits n = fault_or (first_missed (instance_meets n)) n.place (sections_outcome limits (children_of n.pieces))

abbrev pub instance_of : Progress → Instance
instance_of s = record { decls = s.declared.decls; constraints = s.constraints; objective = s.objective }
