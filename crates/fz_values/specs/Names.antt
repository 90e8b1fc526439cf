-- What names stand for.
use Rattle.std.specs.Prelude.{ℕ, nat_eq, List, [], ◌∷◌, Option, None, Some, if◌then◌else◌}
use Rattle.std.specs.Cmp.Lexicographic.{pointwise}
use Rattle.fz_values.specs.declared.meaning.Meaning.{Meaning}

-- declared names, each with what it stands for
abbrev pub Names : Type 0
Names = List (List ℕ × Meaning)

-- what a name stands for, if it is declared
abbrev pub look_up : List (List ℕ × Meaning) → List ℕ → Option Meaning
look_up [] name = None
look_up (e ∷ es) name = if pointwise nat_eq name e.0 then Some e.1 else look_up es name
