-- The variables that a variable word denotes (XCSP3-core, arrays and compact forms: the cells that the brackets
-- cover, in row-major order).
use Rattle.std.specs.Prelude.{ℕ, ◌+◌, ◌*◌, Bool, true, false, ◌<◌, ◌&&◌, bytes_eq, ℤ, pos, ◌-ℤ◌, nat_abs, int_le, int_lt, List, [], ◌∷◌, length, map, slice_index_or, Option, None, Some, if◌then◌else◌, Result, Ok, Err}
use Rattle.std.specs.List.{AllByRecursion, flat_map, filter_map, range_with_len}
use Rattle.std.specs.Option.{option_map}
use Rattle.std.specs.Result.{is_ok}
use Rattle.xs_model.specs.Names.{places_of}
use Rattle.xs_model.specs.Outline.{Outline, cell_numbers, sizes_at}
use Rattle.xs_fields.specs.Conditions.{all_meet}
use Rattle.xs_fields.specs.Lists.{count_meets}
use Rattle.xs_fields.specs.Variables.{word_meets, word_of, is_direct}
use Rattle.xs_fields.specs.Words.{words_of}
use Rattle.xs_fields.specs.declared.condition.Condition.{Condition}
use Rattle.xs_fields.specs.declared.condition.Condition.TheVariants.{Naming}
use Rattle.xs_fields.specs.declared.variable.Bracket.{Bracket}
use Rattle.xs_fields.specs.declared.variable.Bracket.TheVariants.{At, Between, Every}
use Rattle.xs_fields.specs.declared.variable.Word.{Word}

-- the number of the declaration of a name
abbrev pub declared_at : List Outline → List ℕ → Option ℕ
declared_at [] name = None
declared_at (o ∷ os) name = if bytes_eq o.name name then Some 0 else option_map (λ at. at + 1) (declared_at os name)

-- the indices of a bracket lie below the size
abbrev pub is_inside : ℤ → Bracket → Bool
is_inside n (At k) = int_le (pos 0) k && int_lt k n
is_inside n (Between s) = int_le (pos 0) s.lo && int_le s.lo s.hi && int_lt s.hi n
is_inside n Every = true

-- one bracket per dimension, and each lies inside
abbrev pub are_inside : List ℤ → List Bracket → Bool
are_inside [] [] = true
are_inside [] (b ∷ bs) = false
are_inside (n ∷ ns) [] = false
are_inside (n ∷ ns) (b ∷ bs) = is_inside n b && are_inside ns bs

-- the first index that a bracket covers, and how many it covers
abbrev pub first_index : Bracket → ℕ
first_index (At k) = nat_abs k
first_index (Between s) = nat_abs s.lo
first_index Every = 0

abbrev pub index_count : ℤ → Bracket → ℕ
index_count n (At k) = 1
index_count n (Between s) = nat_abs (s.hi -ℤ s.lo) + 1
index_count n Every = places_of n

-- the indices that a bracket covers, ascending
abbrev pub indices : ℤ → Bracket → List ℕ
indices n b = range_with_len (first_index b) (index_count n b)

-- every list of one covered index per dimension, in row-major order: the last index runs fastest
abbrev pub covered : List ℤ → List Bracket → List (List ℕ)
covered [] bs = [] ∷ []
covered (n ∷ ns) [] = []
covered (n ∷ ns) (b ∷ bs) = flat_map (λ i. map (λ t. i ∷ t) (covered ns bs)) (indices n b)

-- the place of a cell in row-major order, where `before` is the place of the indices before these
abbrev pub place_from : ℕ → List ℤ → List ℕ → ℕ
place_from before [] t = before
place_from before (n ∷ ns) [] = before
place_from before (n ∷ ns) (i ∷ is) = place_from (before * places_of n + i) ns is

-- the places of the cells that brackets cover
abbrev pub covered_places : List ℤ → List Bracket → List ℕ
covered_places sizes bs = map (place_from 0 sizes) (covered sizes bs)

-- the variables of the defined ones among these cells of a declaration
abbrev pub variables_at : List Outline → ℕ → List ℕ → List ℕ
variables_at os at places = filter_map (λ p. slice_index_or (cell_numbers os at) p None) places

-- a direct word denotes a variable; a compact word may denote none
abbrev pub unless_none : Bool → List ℕ → Result (List ℕ) Condition
unless_none true [] = Err Naming
unless_none true (v ∷ vs) = Ok (v ∷ vs)
unless_none false vs = Ok vs

abbrev pub reached_at : List Outline → Word → Option ℕ → Result (List ℕ) Condition
reached_at os word None = Err Naming
reached_at os word (Some at) =
    if are_inside (sizes_at os at) word.brackets then unless_none (is_direct word) (variables_at os at (covered_places (sizes_at os at) word.brackets)) else Err Naming

-- the variables that a word denotes; a name that is not declared, brackets that do not fit and a direct word for an
-- undefined cell miss `Naming`
abbrev pub reached : List Outline → Word → Result (List ℕ) Condition
reached os word = reached_at os word (declared_at os word.name)

abbrev pub name_meets : List Outline → List ℕ → Condition → Bool
name_meets os word Naming = is_ok (reached os (word_of word))
name_meets os word k = true

-- what a word of a list of variables meets
abbrev pub variable_meets : List Outline → List ℕ → Condition → Bool
variable_meets os word k = word_meets word k && name_meets os word k

abbrev pub variables_in : Result (List ℕ) Condition → List ℕ
variables_in (Ok vs) = vs
variables_in (Err k) = []

-- the variables that the bytes of a word denote
abbrev pub variables_of : List Outline → List ℕ → List ℕ
variables_of os word = variables_in (reached os (word_of word))

-- the variables that a text denotes
abbrev pub vars_of : List Outline → List ℕ → List ℕ
vars_of os text = flat_map (variables_of os) (words_of text)

abbrev pub variable_words_meet : List Outline → List ℕ → Condition → Bool
variable_words_meet os text = all_meet (variable_meets os) (words_of text)

-- what a list of variables meets
abbrev pub vars_meet : List Outline → List ℕ → ℕ → Condition → Bool
vars_meet os text left k = variable_words_meet os text k && count_meets (length (vars_of os text)) left k

-- the places one dimension further
abbrev pub widened_by : ℤ → Bracket → List ℕ → List ℕ
widened_by n b places = flat_map (λ p. range_with_len (p * places_of n + first_index b) (index_count n b)) places

-- each place leaves room for so many cells in it
abbrev pub HaveRoom : ℕ → ℕ → List ℕ → Type 0
HaveRoom count most places = AllByRecursion (λ p. (p + 1) * count < most) places
