-- The indices of the cell at a place of an array, and that these are the indices in row-major order.
use Rattle.std.specs.Prelude.{ℕ, ◌/◌, ◌%◌, ℤ, List, [], ◌∷◌}
use Rattle.xs_model.specs.Sound.{cell_count}

-- one index per dimension: the place in base of the cells that an index covers
abbrev pub indices_at : List ℤ → ℕ → List ℕ
indices_at [] k = []
indices_at (n ∷ ns) k = (k / cell_count ns) ∷ indices_at ns (k % cell_count ns)
