-- How often values occur (XCSP3-core, "cardinality"), by sums of truth values.
use Rattle.std.specs.Prelude.{◌≡◌, ◌↔◌, ℤ, List, Bool, true}
use Rattle.std.specs.List.{AllByRecursion, AllZip}
use Rattle.std.specs.Ordering.{int_eq}
use Rattle.xf_num.specs.Span.{IsWithin}
use Rattle.xs_model.specs.declared.term.Occurrence.{Occurrence}
use Rattle.xs_model.specs.declared.term.Occurrence.TheVariants.{Term, Span}
use Rattle.xs_model.specs.Conditions.{value_of}
use Rattle.xs_model.specs.Counting.{IsCardinality}
use Rattle.xs_model.specs.Instance.{OccursAs}
use Rattle.xs_model.specs.Lists.{is_among}
use Rattle.xs_model.specs.Value.{sum_of}
use Rattle.xs_laws.specs.Firsts.{bits_of}

-- a number is as the occurrence says, under an assignment
abbrev pub IsAsSaid : List ℤ → Occurrence → ℤ → Type 0
IsAsSaid a (Term t) n = n ≡ value_of a t
IsAsSaid a (Span b) n = IsWithin b n

-- where closed, each member is among the values; and for each value the sum, over the members, of 1 where it is that is
-- as is said
abbrev pub AreSumsAsSaid : List ℤ → Bool → List ℤ → List Occurrence → List ℤ → Type 0
AreSumsAsSaid a closed vs os xs = (closed ≡ true → AllByRecursion (λ x. is_among vs x ≡ true) xs) × AllZip (λ v o. IsAsSaid a o (sum_of (bits_of (λ x. int_eq x v) xs))) vs os

-- the law: this is that values occur as often as is said
abbrev pub CardinalityLaw : Type 0
CardinalityLaw = (a : List ℤ) (closed : Bool) (vs : List ℤ) (os : List Occurrence) (xs : List ℤ) → IsCardinality (OccursAs a) closed vs os xs ↔ AreSumsAsSaid a closed vs os xs
