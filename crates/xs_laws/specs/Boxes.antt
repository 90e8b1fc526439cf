-- Boxes that do not overlap (XCSP3-core, "noOverlap"), by clauses of tests.
use Rattle.std.specs.Prelude.{◌≡◌, ◌↔◌, ℕ, ℤ, pos, negsuc, ◌+ℤ◌, int_le, List, [], ◌∷◌, ◌++◌, filter, Bool, true, false, not, ◌||◌}
use Rattle.std.specs.List.{list_any}
use Rattle.std.specs.Ordering.{int_eq}
use Rattle.xs_model.specs.declared.term.Term.{Term}
use Rattle.xs_model.specs.declared.term.Term.TheVariants.{Int, Var}
use Rattle.xs_model.specs.Counting.{weighted_sum}
use Rattle.xs_model.specs.Instance.{values, term_values, rows_of, term_rows}
use Rattle.xs_model.specs.Schedule.{IsNoOverlap}
use Rattle.xs_model.specs.Value.{at}
use Rattle.xs_laws.specs.Neighbours.{Pairwise}

-- for each dimension whether one box ends where the other begins or before, and the other way round
abbrev pub separations : List ℤ → List ℤ → List ℤ → List ℤ → List Bool
separations (o ∷ os) (l ∷ ls) (p ∷ ps) (m ∷ ms) = int_le (o +ℤ l) p ∷ int_le (p +ℤ m) o ∷ separations os ls ps ms
separations os ls ps ms = []

-- the law: the end of a box is at most the origin of another where a linear inequality holds
abbrev pub SeparationLaw : Type 0
SeparationLaw = (o l p : ℤ) → int_le (weighted_sum (pos 1 ∷ pos 1 ∷ negsuc 0 ∷ []) (o ∷ l ∷ p ∷ [])) (pos 0) ≡ int_le (o +ℤ l) p

-- a box of variables and terms: its origin and its length in each dimension
pub record TermBox : Type 0 where
  pub origin : List ℕ
  pub lengths : List Term

abbrev pub term_boxes : List (List ℕ) → List (List Term) → List TermBox
term_boxes [] ls = []
term_boxes (o ∷ os) [] = []
term_boxes (o ∷ os) (l ∷ ls) = record { origin = o; lengths = l } ∷ term_boxes os ls

-- some length is the integer 0
abbrev pub has_zero : List Term → Bool
has_zero [] = false
has_zero (Int z ∷ ts) = int_eq z (pos 0) || has_zero ts
has_zero (Var v ∷ ts) = has_zero ts

-- where zeros are ignored, the boxes without the integer 0 as a length
abbrev pub kept_boxes : Bool → List TermBox → List TermBox
kept_boxes true bs = filter (λ b. not (has_zero b.lengths)) bs
kept_boxes false bs = bs

-- where zeros are ignored, for each length that is a variable whether it is 0
abbrev pub zeros : Bool → List ℤ → List Term → List Bool
zeros false a ts = []
zeros true a [] = []
zeros true a (Int z ∷ ts) = zeros true a ts
zeros true a (Var v ∷ ts) = int_eq (at a v) (pos 0) ∷ zeros true a ts

-- what two boxes do not overlap by: a dimension in which they are apart, or a length that is 0
abbrev pub reasons : Bool → List ℤ → TermBox → TermBox → List Bool
reasons zero_ignored a b c =
    separations (values a b.origin) (term_values a b.lengths) (values a c.origin) (term_values a c.lengths) ++ (zeros zero_ignored a b.lengths ++ zeros zero_ignored a c.lengths)

-- each two boxes that are kept have such a reason
abbrev pub AreBoxesApart : Bool → List ℤ → List (List ℕ) → List (List Term) → Type 0
AreBoxesApart zero_ignored a origins lengths =
    Pairwise (λ b c. list_any (λ t. t) (reasons zero_ignored a b c) ≡ true) (kept_boxes zero_ignored (term_boxes origins lengths))

-- the law: then boxes do not overlap
abbrev pub NoOverlapLaw : Type 0
NoOverlapLaw = (zero_ignored : Bool) (a : List ℤ) (origins : List (List ℕ)) (lengths : List (List Term))
    → IsNoOverlap zero_ignored (rows_of a origins) (term_rows a lengths) ↔ AreBoxesApart zero_ignored a origins lengths
