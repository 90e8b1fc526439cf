-- A problem, whatever the format, and what it is that one problem extends another.
-- An assignment is a list with one integer per variable, in the order of the variables.
use Rattle.std.specs.Prelude.{◌≡◌, ◌↔◌, ℕ, ℤ, List, ◌++◌, length, map, take, Option, None, Some}

pub data Direction : Type 0 where
  Minimize : Direction
  Maximize : Direction

-- the value that is to be least or greatest
pub record Goal : Type 0 where
  pub direction : Direction
  pub value : List ℤ → ℤ

pub record Problem : Type 1 where
  pub names : List (List ℕ)
  pub IsSolution : List ℤ → Type 0
  pub goal : Option Goal

-- one integer for each variable
abbrev pub IsAssignment : Problem → List ℤ → Type 0
IsAssignment p a = length a ≡ length p.names

-- the first variables of q are those of p, in order, named by the spelling
abbrev pub FirstVariables : (List ℕ → List ℕ) → Problem → Problem → Type 0
FirstVariables spelling p q = take (length p.names) q.names ≡ map spelling p.names

-- an assignment solves p exactly when further values make it a solution of q
abbrev pub SameSolutions : Problem → Problem → Type 0
SameSolutions p q = (a : List ℤ) → IsAssignment p a → (p.IsSolution a ↔ ((c : List ℤ) × q.IsSolution (a ++ c)))

-- no objective, or the same direction and the same value at each solution of q
abbrev pub AgreeOn : Problem → Problem → Option Goal → Option Goal → Type 0
AgreeOn p q None None = Unit {0}
AgreeOn p q None (Some h) = ⊥
AgreeOn p q (Some g) None = ⊥
AgreeOn p q (Some g) (Some h) = (g.direction ≡ h.direction) × ((a c : List ℤ) → IsAssignment p a → q.IsSolution (a ++ c) → h.value (a ++ c) ≡ g.value a)

abbrev pub SameGoal : Problem → Problem → Type 0
SameGoal p q = AgreeOn p q p.goal q.goal

-- q extends p: its first variables are those of p, it has the same solutions on them and the same objective
pub record Extends (spelling : List ℕ → List ℕ) (p q : Problem) : Type 0 where
  pub first : FirstVariables spelling p q
  pub solutions : SameSolutions p q
  pub goal : SameGoal p q

-- the further values of a solution are the only ones
pub record ExtendsOnce (p q : Problem) : Type 0 where
  pub once : (a c d : List ℤ) → IsAssignment p a → q.IsSolution (a ++ c) → q.IsSolution (a ++ d) → c ≡ d
