-- A direct word denotes one variable, wherever it stands: what is found of it is what it denotes in a list.
use Rattle.std.specs.Prelude.{◌≡◌, ◌≢◌, ℕ, List, [], ◌∷◌, None, AllPairs}
use Rattle.std.specs.List.{AllByRecursion}
use Rattle.xs_model.specs.Denotes.{Denotes}
use Rattle.xs_model.specs.Outline.{IsSoundOutline, Outline, names_in}
use Rattle.xs_model.specs.Table.{IsAddressable}
use Rattle.xs_fields.specs.Cells.{variable_meets, variables_of}
use Rattle.xs_fields.specs.Conditions.{first_missed}

-- the names of sound declarations that differ
pub record AreNames (os : List Outline) : Type 0 where
  pub sound : AllByRecursion IsSoundOutline os
  pub few : AllByRecursion IsAddressable os
  pub distinct : AllPairs (λ a b. a ≢ b) (names_in os)

pub record OneDenotation : Type 0 where
  pub met : (os : List Outline) → AreNames os → (w : List ℕ) (k : ℕ) → Denotes os w k → first_missed (variable_meets os w) ≡ None
  pub same : (os : List Outline) → AreNames os → (w : List ℕ) (k : ℕ) → Denotes os w k → variables_of os w ≡ k ∷ []
