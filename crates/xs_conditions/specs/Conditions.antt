-- Conditions `(operator,operand)` (XCSP3-core, "Semantics of conditions"): an operator of `lt le ge gt ne eq` with an integer
-- or a variable, or `in` or `notin` with a range `a..b` or a set `{a,b,..}`. No whitespace stands inside.
use Rattle.std.specs.Prelude.{ℕ, ℤ, pos, Bool, true, false, ◌&&◌, List, [], ◌∷◌, length, Option, None, Some, Result, if◌then◌else◌, codes}
use Rattle.std.specs.List.{flat_map}
use Rattle.std.specs.Str.{bytes_eq}
use Rattle.xf_num.specs.Span.{Bounds}
use Rattle.xs_fields.specs.Conditions.{all_meet, judged, meets}
use Rattle.xs_fields.specs.Integers.{integer_of, is_small}
use Rattle.xs_fields.specs.Lists.{count_meets}
use Rattle.xs_fields.specs.Sizes.{value_list}
use Rattle.xs_fields.specs.Words.{is_byte, parts}
use Rattle.xs_fields.specs.declared.condition.Condition.{Condition}
use Rattle.xs_model.specs.Fields.{cond_items}
use Rattle.xs_model.specs.Outline.{Outline}
use Rattle.xs_model.specs.declared.term.Cond.{Cond}
use Rattle.xs_model.specs.declared.term.Cond.TheVariants as cond
use Rattle.xs_model.specs.declared.term.Term.{Term}
use Rattle.xs_model.specs.declared.term.Term.TheVariants.{Int}
use Rattle.xs_conditions.specs.Ranges.{bounds_in, range_in, range_meets}
use Rattle.xs_conditions.specs.Single.{single_meets, single_of}
use Rattle.xs_conditions.specs.Spelling.{between_of, halves_of, spelt_meets, word_in}
use Rattle.xs_conditions.specs.declared.operator.Relation.{Relation}
use Rattle.xs_conditions.specs.declared.operator.Relation.TheVariants.{Lt, Le, Ge, Gt, Ne, Eq}

-- the relations
abbrev pub relation_of : List ℕ → Option Relation
relation_of op =
    if bytes_eq op (codes "lt") then Some Lt else if bytes_eq op (codes "le") then Some Le else if bytes_eq op (codes "ge") then Some Ge else if bytes_eq op (codes "gt") then Some Gt else if bytes_eq op (codes "ne") then Some Ne else if bytes_eq op (codes "eq") then Some Eq else None

-- whether a member is asked, or none
abbrev pub membership_of : List ℕ → Option Bool
membership_of op = if bytes_eq op (codes "in") then Some true else if bytes_eq op (codes "notin") then Some false else None

abbrev pub related : Relation → Term → Cond
related Lt t = cond.Lt t
related Le t = cond.Le t
related Ge t = cond.Ge t
related Gt t = cond.Gt t
related Ne t = cond.Ne t
related Eq t = cond.Eq t

abbrev pub spanned : Bool → Bounds → Cond
spanned true b = cond.InSpan b
spanned false b = cond.OutSpan b

abbrev pub listed : Bool → List ℤ → Cond
listed true zs = cond.InSet zs
listed false zs = cond.OutSet zs

-- the integers between the commas of a set; an empty set has none
abbrev pub members_in : List ℕ → List (List ℕ)
members_in [] = []
members_in (b ∷ bs) = parts (is_byte 44) (b ∷ bs)

abbrev pub member_meets : List ℕ → Condition → Bool
member_meets word = meets is_small (integer_of word)

abbrev pub member_of : List ℕ → List ℤ
member_of word = value_list (judged is_small (integer_of word))

-- a set or a range
abbrev pub among_meets : Option (List ℕ) → List ℕ → Condition → Bool
among_meets (Some inner) operand k = all_meet member_meets (members_in inner) k
among_meets None operand k = range_meets operand k

abbrev pub among_of : Bool → Option (List ℕ) → List ℕ → Cond
among_of inside (Some inner) operand = listed inside (flat_map member_of (members_in inner))
among_of inside None operand = spanned inside (bounds_in (range_in operand))

abbrev pub set_in : List ℕ → Option (List ℕ)
set_in operand = between_of 123 125 operand

-- an operand behind its operator
abbrev pub operand_meets : List Outline → Option Relation → Option Bool → List ℕ → Condition → Bool
operand_meets os (Some relation) inside operand k = single_meets os operand k
operand_meets os None (Some inside) operand k = among_meets (set_in operand) operand k
operand_meets os None None operand k = spelt_meets false k

abbrev pub operand_of : List Outline → Option Relation → Option Bool → List ℕ → Cond
operand_of os (Some relation) inside operand = related relation (single_of os operand)
operand_of os None (Some inside) operand = among_of inside (set_in operand) operand
operand_of os None None operand = cond.Eq (Int (pos 0))

-- the operator and the operand between the parentheses
abbrev pub split_between : Option (List ℕ) → Option (List ℕ × List ℕ)
split_between None = None
split_between (Some inner) = halves_of 44 inner

abbrev pub split_word : Option (List ℕ) → Option (List ℕ × List ℕ)
split_word None = None
split_word (Some word) = split_between (between_of 40 41 word)

abbrev pub split_in : List ℕ → Option (List ℕ × List ℕ)
split_in text = split_word (word_in text)

abbrev pub split_meets : List Outline → Option (List ℕ × List ℕ) → Condition → Bool
split_meets os None k = spelt_meets false k
split_meets os (Some s) k = operand_meets os (relation_of s.0) (membership_of s.0) s.1 k

abbrev pub split_of : List Outline → Option (List ℕ × List ℕ) → Cond
split_of os None = cond.Eq (Int (pos 0))
split_of os (Some s) = operand_of os (relation_of s.0) (membership_of s.0) s.1

-- the condition that a text spells
abbrev pub condition_of : List Outline → List ℕ → Cond
condition_of os text = split_of os (split_in text)

-- what the text of a condition meets, where so many items may still come: an operand is one, a range two, a set as many as it
-- has members
abbrev pub condition_meets : List Outline → List ℕ → ℕ → Condition → Bool
condition_meets os text left k = split_meets os (split_in text) k && count_meets (length (cond_items (condition_of os text))) left k
