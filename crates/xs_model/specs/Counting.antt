-- Forms that count and connect values (XCSP3-core, "sum", "count", "nValues", "cardinality", "element", "channel"), on
-- lists of values. A condition is a predicate on a number.
use Rattle.std.specs.Prelude.{◌≡◌, ◌↔◌, ℕ, ◌<◌, ℤ, pos, ◌+ℤ◌, ◌*ℤ◌, List, [], ◌∷◌, length, Bool, true, not, ◌⊎◌, filter, count_by, slice_index_or}
use Rattle.std.specs.List.{AllByRecursion, AllZip}
use Rattle.std.specs.Ordering.{int_eq}
use Rattle.xs_model.specs.Lists.{is_among, how_often}
use Rattle.xs_model.specs.Value.{at, sum_of}

-- the products, place by place
abbrev pub products : List ℤ → List ℤ → List ℤ
products [] xs = []
products (c ∷ cs) [] = []
products (c ∷ cs) (x ∷ xs) = (c *ℤ x) ∷ products cs xs

abbrev pub weighted_sum : List ℤ → List ℤ → ℤ
weighted_sum cs xs = sum_of (products cs xs)

-- how many places have a value among the given ones
abbrev pub places_among : List ℤ → List ℤ → ℕ
places_among vs xs = count_by (is_among vs) xs

-- the values as a set: each once
abbrev pub distinct : List ℤ → List ℤ
distinct [] = []
distinct (x ∷ xs) = x ∷ filter (λ y. not (int_eq x y)) (distinct xs)

-- the values outside the exceptions
abbrev pub outside : List ℤ → List ℤ → List ℤ
outside except xs = filter (λ x. not (is_among except x)) xs

-- how many distinct values lie outside the exceptions
abbrev pub distinct_count : List ℤ → List ℤ → ℕ
distinct_count except xs = length (distinct (outside except xs))

-- each value occurs as often as is said of it, and where closed, no other value occurs; Says o n: n is as o says
abbrev pub IsCardinality : {O : Type 0} → (O → ℕ → Type 0) → Bool → List ℤ → List O → List ℤ → Type 0
IsCardinality Says closed vs os xs = AllZip (λ v o. Says o (how_often v xs)) vs os × (closed ≡ true → AllByRecursion (λ x. is_among vs x ≡ true) xs)

-- i is an index of the list, counted from start, and its member is as P says
abbrev pub HasMemberAt : (ℤ → Type 0) → ℤ → ℤ → List ℤ → Type 0
HasMemberAt P start i xs = (k : ℕ) × (k < length xs) × (i ≡ (start +ℤ pos k)) × P (at xs k)

-- i is an index of a row, j one of that row's members, and that member is as P says
abbrev pub HasCellAt : (ℤ → Type 0) → ℤ → ℤ → ℤ → ℤ → List (List ℤ) → Type 0
HasCellAt P row_start col_start i j rows = (k : ℕ) × (k < length rows) × (i ≡ (row_start +ℤ pos k)) × HasMemberAt P col_start j (slice_index_or rows k [])

-- the member at place p is the index of place q, where indices are counted from start
abbrev pub PointsTo : ℤ → List ℤ → ℕ → ℕ → Type 0
PointsTo start xs p q = at xs p ≡ (start +ℤ pos q)

-- where one place points to another, that one points to it
abbrev pub IsChannel : ℤ → List ℤ → Type 0
IsChannel start xs = (p q : ℕ) → p < length xs → q < length xs → PointsTo start xs p q → PointsTo start xs q p

-- where a place of the first list points to one of the second, that one points to it; and the other way round, where the
-- lists are equally long
abbrev pub IsChannelOfTwo : ℤ → List ℤ → ℤ → List ℤ → Type 0
IsChannelOfTwo s xs t ys =
    (p q : ℕ) → p < length xs → q < length ys → (PointsTo t xs p q → PointsTo s ys q p) × (length xs ≡ length ys → PointsTo s ys q p → PointsTo t xs p q)

-- every member is 0 or 1, exactly one is 1, and it is that whose index is the value
abbrev pub IsChannelOfValue : ℤ → ℤ → List ℤ → Type 0
IsChannelOfValue start v xs =
    AllByRecursion (λ x. (x ≡ pos 0) ⊎ (x ≡ pos 1)) xs × (how_often (pos 1) xs ≡ 1) × ((p : ℕ) → p < length xs → ((at xs p ≡ pos 1) ↔ (v ≡ (start +ℤ pos p))))
