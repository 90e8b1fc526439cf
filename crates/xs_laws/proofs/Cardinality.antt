-- Occurrences as sums.
use Rattle.std.proofs.Common.{ℤ, List, [], ◌∷◌, sym, subst}
use Rattle.std.specs.List.{AllZip}
use Rattle.std.specs.Ordering.{int_eq}
use Rattle.xs_model.specs.declared.term.Occurrence.{Occurrence}
use Rattle.xs_model.specs.declared.term.Occurrence.TheVariants.{Term, Span}
use Rattle.xs_model.specs.Instance.{OccursAs}
use Rattle.xs_model.specs.Lists.{how_often}
use Rattle.xs_model.specs.Value.{sum_of}
use Rattle.xs_laws.specs.Firsts.{bits_of}
use Rattle.xs_laws.specs.Cardinality.{IsAsSaid, CardinalityLaw}
use Rattle.xs_laws.proofs.Distinct.{occurrences_sum}

module _ (a xs : List ℤ) where
  to_sum : (v : ℤ) (o : Occurrence) → OccursAs a o (how_often v xs) → IsAsSaid a o (sum_of (bits_of (λ x. int_eq x v) xs))
  to_sum v (Term t) h = subst (IsAsSaid a (Term t)) (occurrences_sum v xs) h
  to_sum v (Span b) h = subst (IsAsSaid a (Span b)) (occurrences_sum v xs) h

  of_sum : (v : ℤ) (o : Occurrence) → IsAsSaid a o (sum_of (bits_of (λ x. int_eq x v) xs)) → OccursAs a o (how_often v xs)
  of_sum v (Term t) h = subst (IsAsSaid a (Term t)) (sym (occurrences_sum v xs)) h
  of_sum v (Span b) h = subst (IsAsSaid a (Span b)) (sym (occurrences_sum v xs)) h

  to_sums : (vs : List ℤ) (os : List Occurrence) → AllZip (λ v o. OccursAs a o (how_often v xs)) vs os → AllZip (λ v o. IsAsSaid a o (sum_of (bits_of (λ x. int_eq x v) xs))) vs os
  to_sums [] [] h = tt
  to_sums [] (o ∷ os) h = absurd h
  to_sums (v ∷ vs) [] h = absurd h
  to_sums (v ∷ vs) (o ∷ os) h = (to_sum v o h.0, to_sums vs os h.1)

  of_sums : (vs : List ℤ) (os : List Occurrence) → AllZip (λ v o. IsAsSaid a o (sum_of (bits_of (λ x. int_eq x v) xs))) vs os → AllZip (λ v o. OccursAs a o (how_often v xs)) vs os
  of_sums [] [] h = tt
  of_sums [] (o ∷ os) h = absurd h
  of_sums (v ∷ vs) [] h = absurd h
  of_sums (v ∷ vs) (o ∷ os) h = (of_sum v o h.0, of_sums vs os h.1)

pub cardinality_is_sums : CardinalityLaw
cardinality_is_sums a closed vs os xs = (λ h. (h.1, to_sums a xs vs os h.0), λ h. (of_sums a xs vs os h.1, h.0))
