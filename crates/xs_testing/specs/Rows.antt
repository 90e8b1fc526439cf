-- Variables and places of the rows of a matrix.
use Rattle.std.specs.Prelude.{ℕ, ◌<◌, List, length}
use Rattle.std.specs.List.{AllByRecursion}

-- all variables are below n
abbrev pub AreBelow : ℕ → List ℕ → Type 0
AreBelow n vs = AllByRecursion (λ v. v < n) vs

-- place j is one of a row
abbrev pub HasPlace : ℕ → List ℕ → Type 0
HasPlace j vs = j < length vs
