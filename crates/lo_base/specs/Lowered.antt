-- The variables and the calls of a list of items (MiniZinc Handbook, "FlatZinc": variable and constraint items).
use Rattle.std.specs.Prelude.{ℕ, ◌+◌, pos, Bool, true, false, None, List, [], ◌∷◌, ◌++◌, codes}
use Rattle.std.specs.Fmt.{decimal}
use Rattle.xf_num.specs.Span.{Bounds}
use Rattle.fz_model.specs.declared.model.Call.{Call}
use Rattle.fz_model.specs.declared.model.FzVar.{FzVar}
use Rattle.lo_base.specs.Item.{Item, Ranged, Boolean, Posted}

-- the auxiliary with this number
abbrev pub auxiliary : ℕ → Bool → Bounds → FzVar
auxiliary k boolean span = record { name = codes "a_" ++ decimal k; boolean = boolean; domain = span ∷ []; equal = None; shown = false }

-- the variables that the items make, the first auxiliary of which has the number k
abbrev pub vars_of : ℕ → List Item → List FzVar
vars_of k [] = []
vars_of k (Ranged lo hi ∷ xs) = auxiliary k false (record { lo = lo; hi = hi }) ∷ vars_of (k + 1) xs
vars_of k (Boolean ∷ xs) = auxiliary k true (record { lo = pos 0; hi = pos 1 }) ∷ vars_of (k + 1) xs
vars_of k (Posted call ∷ xs) = vars_of k xs

-- the calls that the items post
abbrev pub calls_of : List Item → List Call
calls_of [] = []
calls_of (Ranged lo hi ∷ xs) = calls_of xs
calls_of (Boolean ∷ xs) = calls_of xs
calls_of (Posted call ∷ xs) = call ∷ calls_of xs
