-- The meanings of the forms that count and connect values at small lists.
use Rattle.std.proofs.Common.{◌≡◌, ℕ, zero, suc, ◌<◌, pos, negsuc, ◌+ℤ◌, refl, true, false, List, [], ◌∷◌, length, slice_index_or, arith, None, Some, inl, inr}
use Rattle.std.proofs.lemmas.Int.{ints}
use Rattle.xs_model.specs.declared.instance.Constraint.{Constraint}
use Rattle.xs_model.specs.declared.instance.Constraint.TheVariants.{Sum, Count, NValues, Cardinality, Minimum, Maximum, Element, ElementMatrix, Channel, ChannelTwo, ChannelValue}
use Rattle.xs_model.specs.declared.term.Cond.{Cond}
use Rattle.xs_model.specs.declared.term.Cond.TheVariants.{Lt, Le, Ge, Gt, Ne, Eq, InSpan, OutSpan, InSet, OutSet}
use Rattle.xs_model.specs.declared.term.Occurrence.TheVariants as occurrence
use Rattle.xs_model.specs.declared.term.Term.TheVariants.{Int, Var}
use Rattle.xs_model.specs.Counting.{PointsTo, HasMemberAt, distinct, places_among, weighted_sum}
use Rattle.xs_model.specs.Instance.{Holds}

each_once : distinct (pos 2 ∷ pos 0 ∷ pos 2 ∷ negsuc 0 ∷ pos 0 ∷ []) ≡ pos 2 ∷ pos 0 ∷ negsuc 0 ∷ []
each_once = refl

counted : places_among (pos 1 ∷ pos 2 ∷ pos 1 ∷ []) (pos 1 ∷ pos 3 ∷ pos 2 ∷ pos 1 ∷ []) ≡ 3
counted = refl

summed : weighted_sum (pos 2 ∷ negsuc 0 ∷ []) (pos 3 ∷ pos 4 ∷ []) ≡ pos 2
summed = refl

-- sum: 2 x - 3 y
abbrev sum_of_two : Cond → Constraint
sum_of_two cond = Sum (0 ∷ 1 ∷ []) (Int (pos 2) ∷ Int (negsuc 2) ∷ []) cond

sum_at_most : Holds (sum_of_two (Le (Int (negsuc 0)))) (pos 1 ∷ pos 1 ∷ [])
sum_at_most = omega (arith, ints)

sum_not_less : Holds (sum_of_two (Lt (Int (negsuc 0)))) (pos 1 ∷ pos 1 ∷ []) → ⊥
sum_not_less h = omega (arith, ints, h)

sum_is_variable : Holds (sum_of_two (Eq (Var 2))) (pos 5 ∷ pos 3 ∷ pos 1 ∷ [])
sum_is_variable = refl

sum_within : Holds (sum_of_two (InSpan (record { lo = pos 0; hi = pos 4 }))) (pos 2 ∷ pos 0 ∷ [])
sum_within = record { from = omega (arith, ints); to = omega (arith, ints) }

sum_is_a_member : Holds (sum_of_two (OutSet (pos 1 ∷ pos 4 ∷ []))) (pos 2 ∷ pos 0 ∷ []) → ⊥
sum_is_a_member h = let r : true ≡ false = h in cc

coefficient_is_variable : Holds (Sum (0 ∷ []) (Var 1 ∷ []) (Eq (Int (pos 6)))) (pos 3 ∷ pos 2 ∷ [])
coefficient_is_variable = refl

empty_sum : Holds (Sum [] [] (Le (Int (negsuc 0)))) [] → ⊥
empty_sum h = omega (arith, ints, h)

-- count: places, not values
counts_places : Holds (Count (0 ∷ 1 ∷ 2 ∷ []) (Int (pos 1) ∷ Int (pos 1) ∷ []) (Eq (Int (pos 2)))) (pos 1 ∷ pos 1 ∷ pos 3 ∷ [])
counts_places = refl

counts_two_values : Holds (Count (0 ∷ 1 ∷ 2 ∷ []) (Int (pos 1) ∷ Int (pos 3) ∷ []) (Ne (Int (pos 3)))) (pos 1 ∷ pos 1 ∷ pos 3 ∷ []) → ⊥
counts_two_values h = h refl

counts_a_variable : Holds (Count (0 ∷ 1 ∷ []) (Var 2 ∷ []) (Ge (Int (pos 1)))) (pos 1 ∷ pos 4 ∷ pos 4 ∷ [])
counts_a_variable = omega (arith, ints)

counts_none : Holds (Count (0 ∷ 1 ∷ []) (Var 2 ∷ []) (Gt (Int (pos 0)))) (pos 1 ∷ pos 4 ∷ pos 5 ∷ []) → ⊥
counts_none h = omega (arith, ints, h)

counts_in_no_list : Holds (Count [] (Int (pos 1) ∷ []) (Eq (Int (pos 0)))) []
counts_in_no_list = refl

-- nValues: outside 0 and 1
abbrev values_outside : Cond → Constraint
values_outside cond = NValues (0 ∷ 1 ∷ 2 ∷ []) (pos 0 ∷ pos 1 ∷ []) cond

none_outside : Holds (values_outside (Eq (Int (pos 0)))) (pos 0 ∷ pos 1 ∷ pos 0 ∷ [])
none_outside = refl

one_outside : Holds (values_outside (Eq (Int (pos 0)))) (pos 0 ∷ pos 2 ∷ pos 0 ∷ []) → ⊥
one_outside h = omega (arith, ints, h)

twice_the_same : Holds (NValues (0 ∷ 1 ∷ 2 ∷ []) [] (Eq (Int (pos 2)))) (pos 5 ∷ pos 4 ∷ pos 5 ∷ [])
twice_the_same = refl

too_many_values : Holds (NValues (0 ∷ 1 ∷ 2 ∷ []) [] (Le (Int (pos 2)))) (pos 5 ∷ pos 4 ∷ pos 3 ∷ []) → ⊥
too_many_values h = omega (arith, ints, h)

no_values : Holds (NValues [] [] (Eq (Int (pos 0)))) []
no_values = refl

-- cardinality: the value 1 occurs twice, 2 at most once, and no other occurs
abbrev twice_one : Constraint
twice_one = Cardinality (0 ∷ 1 ∷ []) (pos 1 ∷ pos 2 ∷ []) (occurrence.Term (Int (pos 2)) ∷ occurrence.Span (record { lo = pos 0; hi = pos 1 }) ∷ []) true

counts : Holds twice_one (pos 1 ∷ pos 1 ∷ [])
counts = ((refl, (record { from = omega (arith, ints); to = omega (arith, ints) }, tt)), λ e. (refl, (refl, tt)))

only_once : Holds twice_one (pos 1 ∷ pos 2 ∷ []) → ⊥
only_once h = omega (arith, ints, h.0.0)

another_value : Holds (Cardinality (0 ∷ 1 ∷ []) (pos 1 ∷ []) (occurrence.Term (Int (pos 1)) ∷ []) true) (pos 1 ∷ pos 3 ∷ []) → ⊥
another_value h = let other : false ≡ true = (h.1 refl).1.0 in cc

another_value_open : Holds (Cardinality (0 ∷ 1 ∷ []) (pos 1 ∷ []) (occurrence.Term (Int (pos 1)) ∷ []) false) (pos 1 ∷ pos 3 ∷ [])
another_value_open = ((refl, tt), λ e. let r : false ≡ true = e in cc)

as_often_as_a_variable : Holds (Cardinality (0 ∷ 1 ∷ []) (pos 1 ∷ []) (occurrence.Term (Var 2) ∷ []) false) (pos 1 ∷ pos 3 ∷ pos 2 ∷ []) → ⊥
as_often_as_a_variable h = omega (arith, ints, h.0.0)

above_the_span : Holds (Cardinality (0 ∷ 1 ∷ []) (pos 1 ∷ []) (occurrence.Span (record { lo = pos 0; hi = pos 1 }) ∷ []) false) (pos 1 ∷ pos 1 ∷ []) → ⊥
above_the_span h = omega (arith, ints, h.0.0.to)

nothing_occurs : Holds (Cardinality [] (pos 1 ∷ []) (occurrence.Term (Int (pos 0)) ∷ []) true) []
nothing_occurs = ((refl, tt), λ e. tt)

-- minimum and maximum
abbrev three : List ℕ
three = 0 ∷ 1 ∷ 2 ∷ []

least_is : Holds (Minimum three (Eq (Int (negsuc 1)))) (pos 3 ∷ negsuc 1 ∷ pos 0 ∷ [])
least_is = refl

least_is_last : Holds (Minimum three (Lt (Int (pos 1)))) (pos 3 ∷ pos 2 ∷ pos 0 ∷ [])
least_is_last = omega (arith, ints)

least_is_not : Holds (Minimum three (Ne (Int (pos 0)))) (pos 3 ∷ pos 2 ∷ pos 0 ∷ []) → ⊥
least_is_not h = h refl

least_of_one : Holds (Minimum (0 ∷ []) (Eq (Var 1))) (pos 3 ∷ pos 3 ∷ [])
least_of_one = refl

least_outside : Holds (Minimum three (OutSpan (record { lo = pos 0; hi = pos 1 }))) (pos 3 ∷ pos 1 ∷ pos 2 ∷ []) → ⊥
least_outside h = h (record { from = omega (arith, ints); to = omega (arith, ints) })

greatest_is : Holds (Maximum three (Eq (Int (pos 3)))) (pos 3 ∷ negsuc 1 ∷ pos 0 ∷ [])
greatest_is = refl

greatest_of_negatives : Holds (Maximum three (Eq (Int (negsuc 0)))) (negsuc 3 ∷ negsuc 1 ∷ negsuc 0 ∷ [])
greatest_of_negatives = refl

greatest_is_not_less : Holds (Maximum three (Lt (Var 0))) (pos 3 ∷ pos 2 ∷ pos 0 ∷ []) → ⊥
greatest_is_not_less h = omega (arith, ints, h)

greatest_is_a_member : Holds (Maximum three (InSet (pos 7 ∷ pos 3 ∷ []))) (pos 1 ∷ pos 3 ∷ pos 2 ∷ [])
greatest_is_a_member = refl

greatest_of_no_set : Holds (Maximum three (InSet [])) (pos 1 ∷ pos 3 ∷ pos 2 ∷ []) → ⊥
greatest_of_no_set h = let r : false ≡ true = h in cc

-- element: without an index some member is as the condition says
some_member : Holds (Element (Var 0 ∷ Int (pos 4) ∷ []) (pos 0) None (Eq (Int (pos 4)))) (pos 9 ∷ [])
some_member = inr (inl refl)

no_member : Holds (Element (Var 0 ∷ Int (pos 4) ∷ []) (pos 0) None (Eq (Int (pos 5)))) (pos 9 ∷ []) → ⊥
no_member h = elim h [ inl e ↦ omega (arith, ints, e) | inr r ↦ elim r [ inl e ↦ omega (arith, ints, e) | inr q ↦ q ] ]

no_list : Holds (Element [] (pos 0) None (Ne (Int (pos 4)))) [] → ⊥
no_list h = h

-- indices from 1 on
abbrev from_one : Constraint
from_one = Element (Int (pos 7) ∷ Int (pos 8) ∷ []) (pos 1) (Some (Var 0)) (Eq (Var 1))

second_member : Holds from_one (pos 2 ∷ pos 8 ∷ [])
second_member = (1, omega arith, refl, refl)

before_start : Holds from_one (pos 0 ∷ pos 7 ∷ []) → ⊥
before_start h = omega (arith, ints, h.2)

past_the_end : Holds from_one (pos 3 ∷ pos 0 ∷ []) → ⊥
past_the_end h = omega (arith, ints, h.1, h.2)

no_index_of_nothing : Holds (Element [] (pos 0) (Some (Int (pos 0))) (Ge (Int (pos 0)))) [] → ⊥
no_index_of_nothing h = omega (arith, h.1)

-- element, matrix: the cell of row 0 and column 2 is none, though place 2 in row-major order is one; that of row 1 and
-- column 0 is 3
abbrev grid : Constraint
grid = ElementMatrix ((Var 0 ∷ Var 1 ∷ []) ∷ (Var 2 ∷ Var 3 ∷ []) ∷ []) (pos 0) (pos 0) (Var 4) (Var 5) (Eq (Var 6))

cell : Holds grid (pos 1 ∷ pos 2 ∷ pos 3 ∷ pos 4 ∷ pos 1 ∷ pos 0 ∷ pos 3 ∷ [])
cell = (1, omega arith, refl, (0, omega arith, refl, refl))

last_cell : Holds grid (pos 1 ∷ pos 2 ∷ pos 3 ∷ pos 4 ∷ pos 1 ∷ pos 1 ∷ pos 4 ∷ [])
last_cell = (1, omega arith, refl, (1, omega arith, refl, refl))

no_cell : Holds grid (pos 1 ∷ pos 2 ∷ pos 3 ∷ pos 4 ∷ pos 0 ∷ pos 2 ∷ pos 3 ∷ []) → ⊥
no_cell h = row h.0 h.1 h.2 h.3
  where
    place : (n q : ℕ) → n ≡ 2 → q < n → pos 2 ≡ (pos 0 +ℤ pos q) → ⊥
    place n q two lt e = omega (arith, ints, two, lt, e)

    row : (k : ℕ) → k < 2 → pos 0 ≡ (pos 0 +ℤ pos k) → HasMemberAt (λ x. x ≡ pos 3) (pos 0) (pos 2) (slice_index_or ((pos 1 ∷ pos 2 ∷ []) ∷ (pos 3 ∷ pos 4 ∷ []) ∷ []) k []) → ⊥
    row zero lt e m = place 2 m.0 refl m.1 m.2
    row (suc k) lt e m = omega (arith, ints, e)

no_row : Holds grid (pos 1 ∷ pos 2 ∷ pos 3 ∷ pos 4 ∷ pos 2 ∷ pos 0 ∷ pos 1 ∷ []) → ⊥
no_row h = omega (arith, ints, h.1, h.2)

-- the rows counted from 5 and the columns from 1
abbrev shifted : Constraint
shifted = ElementMatrix ((Int (pos 7) ∷ Int (pos 8) ∷ []) ∷ []) (pos 5) (pos 1) (Int (pos 5)) (Var 0) (Gt (Int (pos 7)))

shifted_cell : Holds shifted (pos 2 ∷ [])
shifted_cell = (0, omega arith, refl, (1, omega arith, refl, omega (arith, ints)))

shifted_before : Holds shifted (pos 0 ∷ []) → ⊥
shifted_before h = omega (arith, ints, h.3.2)

-- channel, one list: place 0 points to place 1, which points to place 2
abbrev channel : Constraint
channel = Channel (0 ∷ 1 ∷ 2 ∷ []) (pos 0)

one_way : Holds channel (pos 1 ∷ pos 2 ∷ pos 0 ∷ []) → ⊥
one_way h = let back = h 0 1 (omega arith) (omega arith) refl in omega (arith, ints, back)

-- 0 and 1 point to each other, 2 to itself
exchanged : Holds channel (pos 1 ∷ pos 0 ∷ pos 2 ∷ [])
exchanged = each
  where
    each : (p q : ℕ) → p < 3 → q < 3 → PointsTo (pos 0) (pos 1 ∷ pos 0 ∷ pos 2 ∷ []) p q → PointsTo (pos 0) (pos 1 ∷ pos 0 ∷ pos 2 ∷ []) q p
    each zero zero lt less e = absurd (omega (arith, ints, e))
    each zero (suc zero) lt less e = refl
    each zero (suc (suc zero)) lt less e = absurd (omega (arith, ints, e))
    each (suc zero) zero lt less e = refl
    each (suc zero) (suc zero) lt less e = absurd (omega (arith, ints, e))
    each (suc zero) (suc (suc zero)) lt less e = absurd (omega (arith, ints, e))
    each (suc (suc zero)) zero lt less e = absurd (omega (arith, ints, e))
    each (suc (suc zero)) (suc zero) lt less e = absurd (omega (arith, ints, e))
    each (suc (suc zero)) (suc (suc zero)) lt less e = refl
    each (suc (suc (suc p))) q lt less e = absurd (omega (arith, lt))
    each p (suc (suc (suc q))) lt less e = absurd (omega (arith, less))

-- values that are no index point to nothing
out_of_range : Holds (Channel (0 ∷ 1 ∷ []) (pos 0)) (pos 7 ∷ negsuc 0 ∷ [])
out_of_range = each
  where
    each : (p q : ℕ) → p < 2 → q < 2 → PointsTo (pos 0) (pos 7 ∷ negsuc 0 ∷ []) p q → PointsTo (pos 0) (pos 7 ∷ negsuc 0 ∷ []) q p
    each zero q lt less e = absurd (omega (arith, ints, less, e))
    each (suc zero) q lt less e = absurd (omega (arith, ints, less, e))
    each (suc (suc p)) q lt less e = absurd (omega (arith, lt))

from_one_on : Holds (Channel (0 ∷ 1 ∷ []) (pos 1)) (pos 2 ∷ pos 2 ∷ []) → ⊥
from_one_on h = let back = h 0 1 (omega arith) (omega arith) refl in omega (arith, ints, back)

no_channel : Holds (Channel [] (pos 0)) []
no_channel = λ p q lt less e. absurd (omega (arith, lt))

-- channel, two lists: of unequal length only the first has to be answered
longer_second : Holds (ChannelTwo (0 ∷ []) (pos 0) (1 ∷ 2 ∷ []) (pos 5)) (pos 6 ∷ pos 0 ∷ pos 0 ∷ [])
longer_second = λ p q lt less. (λ e. answered p q lt less e, λ same. cc)
  where
    answered : (p q : ℕ) → p < 1 → q < 2 → PointsTo (pos 5) (pos 6 ∷ []) p q → PointsTo (pos 0) (pos 0 ∷ pos 0 ∷ []) q p
    answered zero zero lt less e = refl
    answered zero (suc zero) lt less e = refl
    answered zero (suc (suc q)) lt less e = absurd (omega (arith, less))
    answered (suc p) q lt less e = absurd (omega (arith, lt))

not_answered : Holds (ChannelTwo (0 ∷ []) (pos 0) (1 ∷ 2 ∷ []) (pos 5)) (pos 6 ∷ pos 0 ∷ pos 1 ∷ []) → ⊥
not_answered h = let back = (h 0 1 (omega arith) (omega arith)).0 refl in omega (arith, ints, back)

-- of equal length both have to
second_not_answered : Holds (ChannelTwo (0 ∷ []) (pos 0) (1 ∷ []) (pos 0)) (pos 9 ∷ pos 0 ∷ []) → ⊥
second_not_answered h = let forth = (h 0 0 (omega arith) (omega arith)).1 refl refl in omega (arith, ints, forth)

both_answered : Holds (ChannelTwo (0 ∷ []) (pos 0) (1 ∷ []) (pos 5)) (pos 5 ∷ pos 0 ∷ [])
both_answered = λ p q lt less. each p q lt less
  where
    each : (p q : ℕ) → p < 1 → q < 1 → (PointsTo (pos 5) (pos 5 ∷ []) p q → PointsTo (pos 0) (pos 0 ∷ []) q p) × (length (pos 5 ∷ []) ≡ length (pos 0 ∷ []) → PointsTo (pos 0) (pos 0 ∷ []) q p → PointsTo (pos 5) (pos 5 ∷ []) p q)
    each zero zero lt less = (λ e. refl, λ same e. refl)
    each zero (suc q) lt less = absurd (omega (arith, less))
    each (suc p) q lt less = absurd (omega (arith, lt))

no_first_list : Holds (ChannelTwo [] (pos 0) (0 ∷ []) (pos 0)) (pos 0 ∷ [])
no_first_list = λ p q lt less. absurd (omega (arith, lt))

-- channel, value: exactly one member is 1, that of the value
abbrev chosen : Constraint
chosen = ChannelValue (0 ∷ 1 ∷ []) (pos 0) (Var 2)

chosen_second : Holds chosen (pos 0 ∷ pos 1 ∷ pos 1 ∷ [])
chosen_second = ((inl refl, (inr refl, tt)), refl, each)
  where
    each : (p : ℕ) → p < 2 → ((slice_index_or (pos 0 ∷ pos 1 ∷ []) p (pos 0) ≡ pos 1) → (pos 1 ≡ (pos 0 +ℤ pos p))) × ((pos 1 ≡ (pos 0 +ℤ pos p)) → (slice_index_or (pos 0 ∷ pos 1 ∷ []) p (pos 0) ≡ pos 1))
    each zero lt = (λ e. absurd (omega (arith, ints, e)), λ e. absurd (omega (arith, ints, e)))
    each (suc zero) lt = (λ e. refl, λ e. refl)
    each (suc (suc p)) lt = absurd (omega (arith, lt))

none_chosen : Holds chosen (pos 0 ∷ pos 0 ∷ pos 7 ∷ []) → ⊥
none_chosen h = omega (arith, h.1)

both_chosen : Holds chosen (pos 1 ∷ pos 1 ∷ pos 0 ∷ []) → ⊥
both_chosen h = omega (arith, h.1)

chosen_another : Holds chosen (pos 1 ∷ pos 0 ∷ pos 1 ∷ []) → ⊥
chosen_another h = omega (arith, ints, (h.2 0 (omega arith)).0 refl)

no_truth_value : Holds chosen (pos 2 ∷ pos 1 ∷ pos 1 ∷ []) → ⊥
no_truth_value h = elim h.0.0 [ inl e ↦ omega (arith, ints, e) | inr e ↦ omega (arith, ints, e) ]

nothing_to_choose : Holds (ChannelValue [] (pos 0) (Int (pos 0))) [] → ⊥
nothing_to_choose h = omega (arith, h.1)
