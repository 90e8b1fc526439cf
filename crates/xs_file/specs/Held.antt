-- What is held of an instance while it is read.
use Rattle.std.specs.Prelude.{◌≡◌, ℕ, ◌+◌, ◌<◌, ◌≤◌, ◌^◌, List, Option, length, map, sum, None}
use Rattle.std.specs.List.{AllByRecursion}
use Rattle.xf_num.specs.Span.{Bounds}
use Rattle.xs_file.specs.Sections.{Progress}
use Rattle.xs_model.specs.declared.instance.Constraint.{Constraint}
use Rattle.xs_model.specs.declared.instance.Objective.{Objective}
use Rattle.xs_model.specs.Names.{words}
use Rattle.xs_model.specs.Spans.{spans_of}
use Rattle.xs_model.specs.Accepted.{IsMeasured, IsMeasuredGoal, IsSoundConstraint, IsSoundGoal, goal_items, items_of, most_constraints}
use Rattle.xs_model.specs.Sound.{most_items}
use Rattle.xs_var.specs.VarUnit.{Declared}
use Rattle.xs_vars.specs.Declarations.{IsSoundDeclared}

abbrev pub progress_of : Declared → List Constraint → Option Objective → Progress
progress_of d cs o = record { declared = d; constraints = cs; objective = o }

-- declarations as they are read: sound, of fewer than 2^32 variables
pub record IsWhole (d : Declared) : Type 0 where
  pub sound : IsSoundDeclared d
  pub few : length (words d.decls) < 2 ^ 32

-- these declarations and the bounds of their variables, sound constraints and an objective over these, and the items of
-- all, within the limits
pub record IsHeld (d : Declared) (ss : List Bounds) (cs : List Constraint) (o : Option Objective) (counted : ℕ) : Type 0 where
  pub whole : IsWhole d
  pub items : counted ≡ (d.values + sum (map items_of cs)) + goal_items o
  pub few_items : counted ≤ most_items
  pub spans : ss ≡ spans_of d.decls
  pub constraints : AllByRecursion (IsSoundConstraint (spans_of d.decls)) cs
  pub measured : AllByRecursion (IsMeasured (spans_of d.decls)) cs
  pub few_constraints : length cs ≤ most_constraints
  pub goal : IsSoundGoal (spans_of d.decls) o
  pub measured_goal : IsMeasuredGoal (spans_of d.decls) o
  -- no objective is read so far
  pub none : o ≡ None
