-- Tables and ranges (XCSP3-core, "extension") by tests of single values.
use Rattle.std.specs.Prelude.{◌≡◌, ◌↔◌, ℕ, ℤ, List, [], ◌∷◌, length, Option, None, Some, Bool, true, false}
use Rattle.std.specs.List.{AllByRecursion, list_any, list_all}
use Rattle.std.specs.Ordering.{int_eq}
use Rattle.xf_num.specs.Domain.{IsMember}
use Rattle.xf_num.specs.Span.{Bounds}
use Rattle.xs_model.specs.Language.{IsInTable, IsInSpans}
use Rattle.xs_laws.specs.Meeting.{is_within}

-- for each place at which the tuple has an integer whether the value is that
abbrev pub matches : List (Option ℤ) → List ℤ → List Bool
matches [] xs = []
matches (e ∷ es) [] = []
matches (None ∷ es) (x ∷ xs) = matches es xs
matches (Some z ∷ es) (x ∷ xs) = int_eq x z ∷ matches es xs

-- whether the value is that at each such place
abbrev pub is_matched : List ℤ → List (Option ℤ) → Bool
is_matched xs t = list_all (λ b. b) (matches t xs)

-- some tuple of supports is matched; none of conflicts is
abbrev pub IsMatched : Bool → List (List (Option ℤ)) → List ℤ → Type 0
IsMatched true tuples xs = list_any (is_matched xs) tuples ≡ true
IsMatched false tuples xs = AllByRecursion (λ t. is_matched xs t ≡ false) tuples

-- the law: this is what a table of tuples of the list's length says
abbrev pub TableLaw : Type 0
TableLaw = (n : ℕ) (positive : Bool) (tuples : List (List (Option ℤ))) (xs : List ℤ) → AllByRecursion (λ t. length t ≡ n) tuples → length xs ≡ n → IsInTable positive tuples xs ↔ IsMatched positive tuples xs

-- some range of supports holds the value; none of conflicts does
abbrev pub IsHeld : Bool → List Bounds → ℤ → Type 0
IsHeld true ranges x = list_any (λ b. is_within b x) ranges ≡ true
IsHeld false ranges x = AllByRecursion (λ b. is_within b x ≡ false) ranges

-- the law: ranges say this of ranges with the same members, as merged ones
abbrev pub RangesLaw : Type 0
RangesLaw = (positive : Bool) (ranges merged : List Bounds) (x : ℤ) → ((v : ℤ) → IsMember merged v ↔ IsMember ranges v) → IsInSpans positive ranges x ↔ IsHeld positive merged x

-- the law: no range at all holds no value as supports, and every one as conflicts
abbrev pub NoRangesLaw : Type 0
NoRangesLaw = (x : ℤ) → (IsInSpans true [] x → ⊥) × IsInSpans false [] x
