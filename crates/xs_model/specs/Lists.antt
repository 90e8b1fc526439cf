-- Words on lists that the meanings of several forms use.
use Rattle.std.specs.Prelude.{ℕ, ℤ, Bool, List, [], ◌∷◌, length, map, count_by, ⊤, ◌⊎◌}
use Rattle.std.specs.List.{list_any, range_with_len}
use Rattle.std.specs.Ordering.{int_eq}
use Rattle.xs_model.specs.Value.{at}

-- P holds of some of them
abbrev pub SomeOf : {X : Type 0} → (X → Type 0) → List X → Type 0
SomeOf P [] = ⊥
SomeOf P (x ∷ xs) = P x ⊎ SomeOf P xs

-- R holds of each and the next
abbrev pub Consecutive : {X : Type 0} → (X → X → Type 0) → List X → Type 0
Consecutive R [] = ⊤
Consecutive R (x ∷ []) = ⊤
Consecutive R (x ∷ y ∷ xs) = R x y × Consecutive R (y ∷ xs)

-- x is one of vs
abbrev pub is_among : List ℤ → ℤ → Bool
is_among vs x = list_any (int_eq x) vs

-- how many of xs are v
abbrev pub how_often : ℤ → List ℤ → ℕ
how_often v xs = count_by (int_eq v) xs

-- how long the rows of a matrix are
abbrev pub width : {X : Type 0} → List (List X) → ℕ
width [] = 0
width (r ∷ rs) = length r

-- the members at place j of each row
abbrev pub column : List (List ℤ) → ℕ → List ℤ
column rows j = map (λ r. at r j) rows

abbrev pub columns : List (List ℤ) → List (List ℤ)
columns rows = map (column rows) (range_with_len 0 (width rows))
