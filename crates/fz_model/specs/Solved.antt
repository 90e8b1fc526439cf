-- The problem that a model states.
use Rattle.std.specs.Prelude.{◌≡◌, ℤ, List, [], ◌∷◌, map, Option, None, Some}
use Rattle.std.specs.List.{AllByRecursion}
use Rattle.xf_num.specs.Domain.{IsMember}
use Rattle.xf_problem.specs.Problem as problem
use Rattle.xf_problem.specs.Problem.{Problem}
use Rattle.fz_model.specs.declared.model.Arg.{Arg}
use Rattle.fz_model.specs.declared.model.FzVar.{FzVar}
use Rattle.fz_model.specs.declared.model.Goal.{Goal}
use Rattle.fz_model.specs.declared.model.Goal.TheVariants.{Satisfy, Minimize, Maximize}
use Rattle.fz_model.specs.declared.model.Model.{Model}
use Rattle.fz_model.specs.Meaning.{at, number, CallHolds}

-- there is one value for each variable, in its domain
abbrev pub AreMembers : List FzVar → List ℤ → Type 0
AreMembers [] [] = Unit {0}
AreMembers [] (z ∷ zs) = ⊥
AreMembers (v ∷ vs) [] = ⊥
AreMembers (v ∷ vs) (z ∷ zs) = IsMember v.domain z × AreMembers vs zs

-- the value is that of what a variable is declared to equal
abbrev pub IsEqual : List ℤ → Option Arg → ℤ → Type 0
IsEqual b None z = Unit {0}
IsEqual b (Some a) z = z ≡ number b a

-- each of these variables has the value of what it is declared to equal, where all variables have the values b
abbrev pub AreEqual : List ℤ → List FzVar → List ℤ → Type 0
AreEqual b [] zs = Unit {0}
AreEqual b (v ∷ vs) [] = Unit {0}
AreEqual b (v ∷ vs) (z ∷ zs) = IsEqual b v.equal z × AreEqual b vs zs

-- b is a solution of the model
pub record Solves (m : Model) (b : List ℤ) : Type 0 where
  pub members : AreMembers m.vars b
  pub equals : AreEqual b m.vars b
  pub calls : AllByRecursion (CallHolds b) m.calls

abbrev pub goal_of : Goal → Option problem.Goal
goal_of Satisfy = None
goal_of (Minimize v) = Some (record { direction = problem.Minimize; value = λ b. at b v })
goal_of (Maximize v) = Some (record { direction = problem.Maximize; value = λ b. at b v })

abbrev pub problem_of : Model → Problem
problem_of m = record { names = map (λ (v : FzVar). v.name) m.vars; IsSolution = Solves m; goal = goal_of m.goal }
