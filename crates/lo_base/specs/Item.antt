-- What a lowering appends, in the order in which it does.
use Rattle.std.specs.Prelude.{ℕ, ◌+◌, ℤ, List, [], ◌∷◌}
use Rattle.fz_model.specs.declared.model.Call.{Call}

-- a new integer variable with its range, a new Boolean, or a call
pub data Item : Type 0 where
  Ranged : (lo hi : ℤ) → Item
  Boolean : Item
  Posted : (call : Call) → Item

-- how many variables an item makes
abbrev pub makes : Item → ℕ
makes (Ranged lo hi) = 1
makes Boolean = 1
makes (Posted call) = 0

-- how many variables the items make
abbrev pub made : List Item → ℕ
made [] = 0
made (x ∷ xs) = makes x + made xs
