-- When items are well formed behind variables of some kinds (MiniZinc Handbook, "FlatZinc": the types of variables and of
-- the arguments of builtins).
use Rattle.std.specs.Prelude.{◌≡◌, ℕ, ◌<◌, ℤ, ◌≤ℤ◌, Bool, true, false, List, [], ◌∷◌, ◌++◌, length, slice_get, Some}
use Rattle.fz_model.specs.Fixing.{IsBit}
use Rattle.fz_model.specs.Meaning.{at}
use Rattle.fz_model.specs.Limits.{IsSmall}
use Rattle.fz_model.specs.Sound.{IsCall}
use Rattle.lo_base.specs.Item.{Item, Ranged, Boolean, Posted}
use Rattle.lo_base.specs.Solved.{Meets}
use Rattle.lo_base.specs.Stepwise.{AreBits}

-- of each variable that the items make, whether it is Boolean
abbrev pub kinds_of : List Item → List Bool
kinds_of [] = []
kinds_of (Ranged lo hi ∷ xs) = false ∷ kinds_of xs
kinds_of (Boolean ∷ xs) = true ∷ kinds_of xs
kinds_of (Posted call ∷ xs) = kinds_of xs

-- Behind variables of which the list says whether they are Boolean: each new domain is a range of small integers that is
-- not empty, and each call has arguments of the right number and kinds, of the variables so far, and small integers.
abbrev pub AreFormed : List Bool → List Item → Type 0
AreFormed booleans [] = Unit {0}
AreFormed booleans (Ranged lo hi ∷ xs) = (lo ≤ℤ hi) × IsSmall (record { lo = lo; hi = hi }) × AreFormed (booleans ++ false ∷ []) xs
AreFormed booleans (Boolean ∷ xs) = AreFormed (booleans ++ true ∷ []) xs
AreFormed booleans (Posted call ∷ xs) = IsCall booleans call × AreFormed booleans xs

-- variables of the first list are of the same kinds in the second
abbrev pub Keeps : List Bool → List Bool → Type 0
Keeps booleans more = (v : ℕ) (t : Bool) → slice_get booleans v ≡ Some t → slice_get more v ≡ Some t

-- the variables before m are integers
abbrev pub AreIntegers : ℕ → List Bool → Type 0
AreIntegers m booleans = (v : ℕ) → v < m → slice_get booleans v ≡ Some false

-- the Boolean variables have values 0 or 1
abbrev pub HasBits : List Bool → List ℤ → Type 0
HasBits booleans b = (v : ℕ) → slice_get booleans v ≡ Some true → IsBit (at b v)

-- the law: where the Boolean variables before have values 0 or 1, values that meet well-formed items have 0 or 1 for each
-- argument that has to be a truth value
abbrev pub FormedBits : Type 0
FormedBits = (booleans : List Bool) (xs : List Item) (b : List ℤ) → AreFormed booleans xs → HasBits booleans b → Meets (length booleans) xs b → AreBits xs b
