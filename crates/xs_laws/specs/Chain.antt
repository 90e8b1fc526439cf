-- Lexicographic order (XCSP3-core, "lex") as a chain: at each place before which all are equal, the first value is at
-- most the second.
use Rattle.std.specs.Prelude.{◌≡◌, ◌≢◌, ◌↔◌, ℕ, zero, suc, ◌<◌, ◌≤◌, ℤ, ◌≤ℤ◌, List, [], ◌∷◌, length, Bool, true, false, ◌&&◌, ⊤}
use Rattle.std.specs.List.{AllByRecursion}
use Rattle.std.specs.Ordering.{int_eq}
use Rattle.xs_model.specs.declared.term.Rel.{Rel}
use Rattle.xs_model.specs.Comparing.{InLexOrder, IsLexOrdered, IsLexMatrix}
use Rattle.xs_model.specs.declared.term.Rel.TheVariants.{Lt, Le, Ge, Gt}
use Rattle.xs_model.specs.Conditions.{Related}
use Rattle.xs_model.specs.Lists.{Consecutive, columns}
use Rattle.xs_model.specs.Value.{at}

-- the first j places have the same values
abbrev pub equal_before : List ℤ → List ℤ → ℕ → Bool
equal_before xs ys zero = true
equal_before xs ys (suc j) = equal_before xs ys j && int_eq (at xs j) (at ys j)

abbrev pub IsChain : List ℤ → List ℤ → Type 0
IsChain xs ys = (j : ℕ) → j < length xs → equal_before xs ys j ≡ true → at xs j ≤ℤ at ys j

-- and where they may not be the same, not all places are
abbrev pub IsChained : Rel → List ℤ → List ℤ → Type 0
IsChained Lt xs ys = IsChain xs ys × (equal_before xs ys (length xs) ≡ false)
IsChained Le xs ys = IsChain xs ys
IsChained Ge xs ys = IsChain ys xs
IsChained Gt xs ys = IsChain ys xs × (equal_before ys xs (length ys) ≡ false)

-- the law: this is lexicographic order, for lists of one length
abbrev pub LexLaw : Type 0
LexLaw = (rel : Rel) (xs ys : List ℤ) → length xs ≡ length ys → InLexOrder rel xs ys ↔ IsChained rel xs ys

-- each list and the next are in such a chain
abbrev pub AreChained : Rel → List (List ℤ) → Type 0
AreChained rel lists = Consecutive (IsChained rel) lists

-- the rows are, and the columns are
abbrev pub AreChainedLines : Rel → List (List ℤ) → Type 0
AreChainedLines rel rows = AreChained rel rows × AreChained rel (columns rows)

-- the law: so are lists, and the rows and columns of a matrix
abbrev pub LexListsLaw : Type 0
LexListsLaw = (rel : Rel) (n : ℕ) (lists : List (List ℤ)) → AllByRecursion (λ xs. length xs ≡ n) lists
    → (IsLexOrdered rel lists ↔ AreChained rel lists) × (IsLexMatrix rel lists ↔ AreChainedLines rel lists)

-- the chain by recursion; t: all places before are equal; where they may not be the same, in the end that is false
abbrev pub IsChainFrom : Bool → Bool → List ℤ → List ℤ → Type 0
IsChainFrom strict t [] ys = strict ≡ true → t ≡ false
IsChainFrom strict t (x ∷ xs) [] = ⊤
IsChainFrom strict t (x ∷ xs) (y ∷ ys) = (t ≡ true → x ≤ℤ y) × IsChainFrom strict (t && int_eq x y) xs ys

abbrev pub IsLexChain : Rel → List ℤ → List ℤ → Type 0
IsLexChain Lt xs ys = IsChainFrom true true xs ys
IsLexChain Le xs ys = IsChainFrom false true xs ys
IsLexChain Ge xs ys = IsChainFrom false true ys xs
IsLexChain Gt xs ys = IsChainFrom true true ys xs

-- the law: this is lexicographic order, for lists of one length
abbrev pub LexChainLaw : Type 0
LexChainLaw = (rel : Rel) (xs ys : List ℤ) → length xs ≡ length ys → InLexOrder rel xs ys ↔ IsLexChain rel xs ys

-- each list and the next are in such a chain
abbrev pub AreLexChains : Rel → List (List ℤ) → Type 0
AreLexChains rel lists = Consecutive (IsLexChain rel) lists

-- the rows are, then the columns are
abbrev pub AreLexChainLines : Rel → List (List ℤ) → Type 0
AreLexChainLines rel rows = AreLexChains rel rows × AreLexChains rel (columns rows)

-- the law: so are lists, and the rows and columns of a matrix
abbrev pub LexChainsLaw : Type 0
LexChainsLaw = (rel : Rel) (n : ℕ) (lists : List (List ℤ)) → AllByRecursion (λ xs. length xs ≡ n) lists
    → (IsLexOrdered rel lists ↔ AreLexChains rel lists) × (IsLexMatrix rel lists ↔ AreLexChainLines rel lists)

-- the law: lists of one length are in lexicographic order where their values at the first place that differs are, or
-- where none differs, 0 and 0
abbrev pub LexTestLaw : Type 0
LexTestLaw = (rel : Rel) (xs ys : List ℤ) (k : ℕ) → length xs ≡ length ys → k ≤ length xs → equal_before xs ys k ≡ true → (k < length xs → at xs k ≢ at ys k)
    → InLexOrder rel xs ys ↔ Related rel (at xs k) (at ys k)
