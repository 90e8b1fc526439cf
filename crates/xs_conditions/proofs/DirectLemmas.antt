-- A direct word that misses nothing denotes a declared variable.
use Rattle.std.proofs.Common.{◌≡◌, ℕ, ℤ, ◌<◌, ◌≤◌, ◌==◌, Bool, true, false, not, ◌&&◌, cond, if◌then◌else◌, nat_le, nat_lt, List, [], ◌∷◌, ◌++◌, length, drop, Option, None, Some, Ok, Err, Result, refl, ap, sym, ◌∙◌, arith}
use Rattle.std.specs.Char.{is_ascii_digit}
use Rattle.std.specs.List.{AllByRecursion, flat_map, list_all}
use Rattle.std.specs.Option.{option_map}
use Rattle.std.specs.Result.{is_ok}
use Rattle.std.specs.Str.Parse.{signed_digits_value, without_leading_sign}
use Rattle.std.proofs.lemmas.List.Folds.{list_all-append}
use borrow.Author.Tests.{eqb-true, leb-true, ltb-true, ne_eqb}
use Rattle.xs_fields.specs.Cells.{are_inside, covered_places, declared_at, reached, reached_at, unless_none, variables_at, variables_in as variables_told}
use Rattle.xs_fields.specs.Conditions.{all_meet, first_missed, judged, meets}
use Rattle.xs_fields.specs.Integers.{integer_of, is_integer, is_small}
use Rattle.xs_fields.specs.Sizes.{brackets_of, inner_of, integer_in, size_meets, size_of}
use Rattle.xs_fields.specs.Variables.{bracket_in, bracket_inside, bracket_list, bracket_of, brackets_from, is_direct, is_index, is_small_bracket, word_of}
use Rattle.xs_fields.specs.Words.{is_byte, parts}
use Rattle.xs_fields.specs.declared.condition.Condition.{Condition}
use Rattle.xs_fields.specs.declared.condition.Condition.TheVariants.{Magnitude, Naming, Spelling}
use Rattle.xs_fields.specs.declared.variable.Bracket.{Bracket}
use Rattle.xs_fields.specs.declared.variable.Bracket.TheVariants.{At}
use Rattle.xs_fields.specs.declared.variable.Word.{Word}
use Rattle.xs_fields.proofs.DirectLemmas.{lacks, parts-whole}
use Rattle.xs_fields.proofs.FirstLemmas.{met_at}
use Rattle.xs_fields.proofs.IntegerLemmas.{and_left, and_right}
use Rattle.xs_model.specs.Outline.{Outline, sizes_at, variables_in}
use Rattle.xs_conditions.specs.Single.{direct_meets, direct_of, first_of}
use Rattle.xs_conditions.proofs.BelowLemmas.{reached_below}
use Rattle.xs_conditions.proofs.MissedLemmas.{both}

-- an integer has no dot
no_dot : (c : ℕ) → ¬ (c ≡ 46) → not (is_byte 46 c) ≡ true
no_dot c h = ap not (ne_eqb c 46 h)

digits_lack : (ds : List ℕ) → list_all is_ascii_digit ds ≡ true → lacks 46 ds ≡ true
digits_lack [] h = refl
digits_lack (c ∷ cs) h =
    let low : 48 ≤ c = leb-true _ _ (and_left (nat_le 48 c) (nat_le c 57) (and_left (is_ascii_digit c) (list_all is_ascii_digit cs) h)) in
    both (not (is_byte 46 c)) (lacks 46 cs) (no_dot c (λ e. omega (arith, e, low))) (digits_lack cs (and_right (is_ascii_digit c) (list_all is_ascii_digit cs) h))

integer_lacks : (t : List ℕ) → is_integer t ≡ true → lacks 46 t ≡ true
integer_lacks [] h = cc
integer_lacks (b ∷ bs) h = minus (b == 45) refl (and_right _ _ h)
  where
    signed : ¬ (b ≡ 46) → list_all is_ascii_digit bs ≡ true → lacks 46 (b ∷ bs) ≡ true
    signed e g = both (not (is_byte 46 b)) (lacks 46 bs) (no_dot b e) (digits_lack bs g)

    plus : (s : Bool) → (b == 43) ≡ s → list_all is_ascii_digit (drop (cond s 1 0) (b ∷ bs)) ≡ true → lacks 46 (b ∷ bs) ≡ true
    plus true e g = let is : b ≡ 43 = eqb-true b 43 e in signed (λ f. omega (arith, is, f)) g
    plus false e g = digits_lack (b ∷ bs) g

    minus : (s : Bool) → (b == 45) ≡ s → list_all is_ascii_digit (cond s (drop 1 (b ∷ bs)) (drop (cond (b == 43) 1 0) (b ∷ bs))) ≡ true → lacks 46 (b ∷ bs) ≡ true
    minus true e g = let is : b ≡ 45 = eqb-true b 45 e in signed (λ f. omega (arith, is, f)) g
    minus false e g = plus (b == 43) refl g

-- a bracket in which an integer stands is one index
one_index : (t : List ℕ) (z : ℤ) → integer_of t ≡ Some z → bracket_in (parts (is_byte 46) t) ≡ Some (At z)
one_index t z h = by (is_integer t) refl h
  where
    inside : (s : List ℕ) → integer_of s ≡ Some z → bracket_in (s ∷ []) ≡ Some (At z)
    inside [] g = cc
    inside (b ∷ bs) g = ap (option_map At) g

    by : (v : Bool) → is_integer t ≡ v → (if v then Some (signed_digits_value 10 t) else None) ≡ Some z → bracket_in (parts (is_byte 46) t) ≡ Some (At z)
    by true e g = ap bracket_in (parts-whole 46 t (integer_lacks t e)) ∙ inside t h
    by false e g = cc

listed_index : (z : ℤ) → list_all is_index (bracket_list (judged is_small_bracket (Some (At z)))) ≡ true
listed_index z = by (is_small z)
  where
    by : (v : Bool) → list_all is_index (bracket_list (if v then Ok (At z) else Err Magnitude)) ≡ true
    by true = refl
    by false = refl

part_index : (p : List ℕ) → size_meets p Spelling ≡ true → list_all is_index (brackets_from p) ≡ true
part_index p h = by (inner_of p) refl
  where
    some : (o : Option ℤ) → meets is_small o Spelling ≡ true → (z : ℤ) × (o ≡ Some z)
    some None g = cc
    some (Some z) g = (z, refl)

    by : (o : Option (List ℕ)) → inner_of p ≡ o → list_all is_index (brackets_from p) ≡ true
    by None e = cc (ap (λ x. meets is_small (integer_in x) Spelling) (sym e) ∙ h)
    by (Some t) e =
        let z = some (integer_of t) (ap (λ x. meets is_small (integer_in x) Spelling) (sym e) ∙ h) in
        ap (λ o. list_all is_index (bracket_list (judged is_small_bracket o))) (ap bracket_inside e ∙ one_index t z.0 z.1) ∙ listed_index z.0

parts_index : (ps : List (List ℕ)) → all_meet size_meets ps Spelling ≡ true → list_all is_index (flat_map brackets_from ps) ≡ true
parts_index [] h = refl
parts_index (p ∷ ps) h =
    list_all-append is_index (brackets_from p) (flat_map brackets_from ps)
    ∙ both (list_all is_index (brackets_from p)) (list_all is_index (flat_map brackets_from ps)) (part_index p (and_left _ _ h)) (parts_index ps (and_right (size_meets p Spelling) (all_meet size_meets ps Spelling) h))

-- the first variable of a direct word
abbrev AllBelow : ℕ → List ℕ → Type 0
AllBelow most vs = AllByRecursion (λ v. v < most) vs

chosen : (most : ℕ) (d : Bool) (vs : List ℕ) → d ≡ true → is_ok (unless_none d vs) ≡ true → AllBelow most (variables_told (unless_none d vs)) → first_of (variables_told (unless_none d vs)) < most
chosen most true [] e h all = cc
chosen most true (v ∷ vs) e h all = all.0
chosen most false vs e h all = cc

reached_first : (os : List Outline) (word : Word) (at : Option ℕ) → is_direct word ≡ true → is_ok (reached_at os word at) ≡ true → AllBelow (variables_in os) (variables_told (reached_at os word at)) → first_of (variables_told (reached_at os word at)) < variables_in os
reached_first os word None d h all = cc
reached_first os word (Some at) d h all = by (are_inside (sizes_at os at) word.brackets) h all
  where
    vs : List ℕ
    vs = variables_at os at (covered_places (sizes_at os at) word.brackets)

    by : (v : Bool) → is_ok (if v then unless_none (is_direct word) vs else Err Naming) ≡ true → AllBelow (variables_in os) (variables_told (if v then unless_none (is_direct word) vs else Err Naming)) → first_of (variables_told (if v then unless_none (is_direct word) vs else Err Naming)) < variables_in os
    by true g a = chosen (variables_in os) (is_direct word) vs d g a
    by false g a = cc

pub direct_below : (os : List Outline) (w : List ℕ) → first_missed (direct_meets os w) ≡ None → direct_of os w < variables_in os
direct_below os w h =
    let met = met_at (direct_meets os w) h in
    let direct : is_direct (word_of w) ≡ true = parts_index (brackets_of w) (and_right _ _ (and_left _ _ (met Spelling))) in
    let named : is_ok (reached os (word_of w)) ≡ true = and_right _ _ (met Naming) in
    let at = declared_at os (word_of w).name in
    reached_first os (word_of w) at direct named (reached_below os (word_of w) at)
