-- Small cases, so that the definitions are seen to say what they should.
use Rattle.std.proofs.Common.{◌≡◌, pos, negsuc, true, false, [], ◌∷◌, Some, None, refl}
use Rattle.std.specs.List.{list_any}
use Rattle.std.specs.Ordering.{int_eq}
use Rattle.xs_model.specs.declared.term.Term.TheVariants.{Int, Var}
use Rattle.xs_laws.specs.Indices.{is_index, place_of}
use Rattle.xs_laws.specs.Neighbours.{differences}
use Rattle.xs_laws.specs.Ascending.{new_places}
use Rattle.xs_laws.specs.Elements.{flatten, flat_index, IsFlatIndex, IsFlatIndexBy}
use Rattle.xs_laws.specs.Boxes.{term_boxes, kept_boxes, reasons}
use Rattle.xs_laws.specs.Tables.{is_matched}
use Rattle.xs_laws.specs.Peaks.{running, is_peaked}
use Rattle.xs_laws.specs.Examples.{Loads, Distinct}

pub loads : Loads
loads = (refl, refl)

pub distinct_values : Distinct
distinct_values = (refl, refl)

-- of -3 0 0 4 4 7, where 0 is excepted, three places have a new value
new_values : new_places (pos 0 ∷ []) (negsuc 2 ∷ pos 0 ∷ pos 0 ∷ pos 4 ∷ pos 4 ∷ pos 7 ∷ []) ≡ 3
new_values = refl

-- the index -1 of a list of two that is counted from -2 is that of the place 1; 0 is no index of it
second_place : place_of (negsuc 1) (negsuc 0) ≡ 1
second_place = refl

no_index : is_index (negsuc 1) 2 (pos 0) ≡ false
no_index = refl

-- in rows of three, counted from 0 and from 1, the member at (1, 3) is the sixth
sixth : flat_index (pos 0) (pos 1) 3 (pos 1) (pos 3) ≡ pos 6
sixth = refl

sixth_linear : IsFlatIndex (pos 0) (pos 1) 3 (pos 1) (pos 3) (pos 6)
sixth_linear = refl

sixth_by : IsFlatIndexBy (pos 0) (pos 1) 3 (pos 1) (pos 3) (pos 2) (pos 3) (pos 6)
sixth_by = (refl, refl, refl)

in_a_row : flatten ((pos 1 ∷ pos 2 ∷ []) ∷ (pos 3 ∷ pos 4 ∷ []) ∷ []) ≡ pos 1 ∷ pos 2 ∷ pos 3 ∷ pos 4 ∷ []
in_a_row = refl

-- two lists that differ at their second place alone
second_differs : differences (pos 1 ∷ pos 2 ∷ []) (pos 1 ∷ pos 3 ∷ []) ≡ false ∷ true ∷ []
second_differs = refl

-- a star agrees with 1, and a 0 would not
star : is_matched (pos 0 ∷ pos 1 ∷ pos 1 ∷ []) (Some (pos 0) ∷ None ∷ Some (pos 1) ∷ []) ≡ true
star = refl

no_star : is_matched (pos 0 ∷ pos 1 ∷ pos 1 ∷ []) (Some (pos 0) ∷ Some (pos 0) ∷ Some (pos 1) ∷ []) ≡ false
no_star = refl

-- boxes on a line: from 0 with the length 2, and from the value 1 of the variable 0 with that of the variable 1: where
-- that length is 0 they do not overlap by it, and where it is 3 they do; a box with the integer 0 is not kept
overlap : list_any (λ t. t) (reasons true (pos 1 ∷ pos 3 ∷ pos 0 ∷ []) (record { origin = 2 ∷ []; lengths = Int (pos 2) ∷ [] }) (record { origin = 0 ∷ []; lengths = Var 1 ∷ [] })) ≡ false
overlap = refl

empty_box : list_any (λ t. t) (reasons true (pos 1 ∷ pos 0 ∷ pos 0 ∷ []) (record { origin = 2 ∷ []; lengths = Int (pos 2) ∷ [] }) (record { origin = 0 ∷ []; lengths = Var 1 ∷ [] })) ≡ true
empty_box = refl

empty_box_counts : list_any (λ t. t) (reasons false (pos 1 ∷ pos 0 ∷ pos 0 ∷ []) (record { origin = 2 ∷ []; lengths = Int (pos 2) ∷ [] }) (record { origin = 0 ∷ []; lengths = Var 1 ∷ [] })) ≡ false
empty_box_counts = refl

not_kept : kept_boxes true (term_boxes ((0 ∷ []) ∷ (1 ∷ []) ∷ []) ((Int (pos 0) ∷ []) ∷ (Var 2 ∷ []) ∷ [])) ≡ record { origin = 1 ∷ []; lengths = Var 2 ∷ [] } ∷ []
not_kept = refl

-- two tasks, from 0 to 3 and from 3 to 4, with the heights 5 and 2: at 3 the second runs alone
at_three : running (pos 3) (pos 0 ∷ pos 3 ∷ []) (pos 3 ∷ pos 4 ∷ []) ≡ pos 0 ∷ pos 1 ∷ []
at_three = refl

within_five : is_peaked (λ x. int_eq x (pos 5)) (pos 0 ∷ []) (pos 3 ∷ []) (pos 5 ∷ []) ≡ false
within_five = refl
