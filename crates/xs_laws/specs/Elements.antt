-- A member of a list or a matrix by its index (XCSP3-core, "element"), by its place among all members.
use Rattle.std.specs.Prelude.{◌≡◌, ◌↔◌, ℕ, ℤ, pos, negsuc, ◌+ℤ◌, ◌-ℤ◌, ◌*ℤ◌, List, [], ◌∷◌, ◌++◌, length, slice_index_or, true}
use Rattle.std.specs.List.{AllByRecursion, list_any}
use Rattle.xs_model.specs.declared.term.Cond.{Cond}
use Rattle.xs_model.specs.Conditions.{Meets}
use Rattle.xs_model.specs.Counting.{weighted_sum, HasMemberAt, HasCellAt}
use Rattle.xs_model.specs.Lists.{SomeOf}
use Rattle.xs_model.specs.Value.{at}
use Rattle.xs_laws.specs.Indices.{IsIndex, place_of}
use Rattle.xs_laws.specs.Meeting.{meets}

-- i is an index of the list, and the member at its place is as P says
abbrev pub HasPlaceAt : (ℤ → Type 0) → ℤ → ℤ → List ℤ → Type 0
HasPlaceAt P start i xs = IsIndex start (length xs) i × P (at xs (place_of start i))

-- the law: this is that the list has such a member at i
abbrev pub ElementLaw : Type 0
ElementLaw = (a : List ℤ) (cond : Cond) (start i : ℤ) (xs : List ℤ) → HasMemberAt (Meets a cond) start i xs ↔ HasPlaceAt (Meets a cond) start i xs

-- k is the index, counted from 1, of what has the index i, counted from start
abbrev pub IsFromOne : ℤ → ℤ → ℤ → Type 0
IsFromOne start i k = weighted_sum (pos 1 ∷ negsuc 0 ∷ []) (i ∷ k ∷ []) ≡ (start -ℤ pos 1)

-- the law: a member is the same by an index counted from 1
abbrev pub FromOneLaw : Type 0
FromOneLaw = (a : List ℤ) (cond : Cond) (start i k : ℤ) (xs : List ℤ) → IsFromOne start i k → HasMemberAt (Meets a cond) start i xs ↔ HasMemberAt (Meets a cond) (pos 1) k xs

-- the law: some member meets a condition where a test finds it
abbrev pub SomeElementLaw : Type 0
SomeElementLaw = (a : List ℤ) (cond : Cond) (xs : List ℤ) → SomeOf (Meets a cond) xs ↔ (list_any (meets a cond) xs ≡ true)

-- the row at the place of an index
abbrev pub row_at : ℤ → ℤ → List (List ℤ) → List ℤ
row_at row_start i rows = slice_index_or rows (place_of row_start i) []

-- i is an index of a row, j one of that row's members, and the member at their places is as P says
abbrev pub HasCellPlaceAt : (ℤ → Type 0) → ℤ → ℤ → ℤ → ℤ → List (List ℤ) → Type 0
HasCellPlaceAt P row_start col_start i j rows = IsIndex row_start (length rows) i × HasPlaceAt P col_start j (row_at row_start i rows)

-- the law: this is that a matrix has such a member, whatever the lengths of its rows
abbrev pub CellPlaceLaw : Type 0
CellPlaceLaw = (a : List ℤ) (cond : Cond) (row_start col_start i j : ℤ) (rows : List (List ℤ))
    → HasCellAt (Meets a cond) row_start col_start i j rows ↔ HasCellPlaceAt (Meets a cond) row_start col_start i j rows

-- the rows one after the other
abbrev pub flatten : List (List ℤ) → List ℤ
flatten [] = []
flatten (row ∷ rows) = row ++ flatten rows

-- the index among all members, counted from 1, of the member of row i and column j in rows of length m
abbrev pub flat_index : ℤ → ℤ → ℕ → ℤ → ℤ → ℤ
flat_index row_start col_start m i j = ((pos m *ℤ (i -ℤ row_start)) +ℤ (j -ℤ col_start)) +ℤ pos 1

-- both indices are in range, and the member at the index among all members is as P says
abbrev pub HasFlatCellAt : (ℤ → Type 0) → ℤ → ℤ → ℕ → ℤ → ℤ → List (List ℤ) → Type 0
HasFlatCellAt P row_start col_start m i j rows =
    IsIndex row_start (length rows) i × IsIndex col_start m j × HasMemberAt P (pos 1) (flat_index row_start col_start m i j) (flatten rows)

-- the law: this is that a matrix has such a member, where its rows have the length m
abbrev pub CellLaw : Type 0
CellLaw = (a : List ℤ) (cond : Cond) (row_start col_start : ℤ) (m : ℕ) (i j : ℤ) (rows : List (List ℤ)) → AllByRecursion (λ row. length row ≡ m) rows
    → HasCellAt (Meets a cond) row_start col_start i j rows ↔ HasFlatCellAt (Meets a cond) row_start col_start m i j rows

-- k is that index, by one linear equation
abbrev pub IsFlatIndex : ℤ → ℤ → ℕ → ℤ → ℤ → ℤ → Type 0
IsFlatIndex row_start col_start m i j k = weighted_sum (pos m ∷ pos 1 ∷ negsuc 0 ∷ []) (i ∷ j ∷ k ∷ []) ≡ (((pos m *ℤ row_start) +ℤ col_start) -ℤ pos 1)

-- the law
abbrev pub FlatIndexLaw : Type 0
FlatIndexLaw = (row_start col_start : ℤ) (m : ℕ) (i j k : ℤ) → IsFlatIndex row_start col_start m i j k ↔ (k ≡ flat_index row_start col_start m i j)

-- p and q are the indices of row and column, counted from 1, and k is that of the member, by three linear equations
abbrev pub IsFlatIndexBy : ℤ → ℤ → ℕ → ℤ → ℤ → ℤ → ℤ → ℤ → Type 0
IsFlatIndexBy row_start col_start m i j p q k =
    IsFromOne row_start i p × IsFromOne col_start j q × (weighted_sum (pos m ∷ pos 1 ∷ negsuc 0 ∷ []) (p ∷ q ∷ k ∷ []) ≡ pos m)

-- the law
abbrev pub FlatIndexByLaw : Type 0
FlatIndexByLaw = (row_start col_start : ℤ) (m : ℕ) (i j p q k : ℤ)
    → IsFlatIndexBy row_start col_start m i j p q k ↔ ((p ≡ ((i -ℤ row_start) +ℤ pos 1)) × (q ≡ ((j -ℤ col_start) +ℤ pos 1)) × (k ≡ flat_index row_start col_start m i j))
