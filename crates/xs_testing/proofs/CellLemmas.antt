-- The value at a place of a row.
use Rattle.std.proofs.Common.{◌≡◌, ℕ, zero, suc, ◌<◌, ℤ, List, [], ◌∷◌, length, get_or, refl, arith}
use Rattle.std.specs.List.{AllByRecursion}
use Rattle.xs_model.specs.Instance.{values}
use Rattle.xs_model.specs.Value.{at}

pub cell_is : (a : List ℤ) (row : List ℕ) (j d : ℕ) → j < length row → at a (get_or row j d) ≡ at (values a row) j
cell_is a [] j d lt = absurd (omega arith)
cell_is a (v ∷ row) zero d lt = refl
cell_is a (v ∷ row) (suc j) d lt = cell_is a row j d (omega arith)

pub below_cell : (n : ℕ) (row : List ℕ) (j d : ℕ) → AllByRecursion (λ v. v < n) row → j < length row → get_or row j d < n
below_cell n [] j d h lt = absurd (omega arith)
below_cell n (v ∷ row) zero d h lt = h.0
below_cell n (v ∷ row) (suc j) d h lt = below_cell n row j d h.1 (omega arith)
