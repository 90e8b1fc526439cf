-- Words and integers of attributes (XCSP3-core: `closed`, `zeroIgnored`, `startIndex`), and the operators of an order
-- (XCSP3-core, "Constraint ordered", "Constraint lex").
use Rattle.std.specs.Prelude.{ℕ, ℤ, pos, Bool, true, ◌||◌, List, Option, None, Some, if◌then◌else◌, is_some, codes}
use Rattle.std.specs.Str.{bytes_eq}
use Rattle.xs_fields.specs.Conditions.{meets}
use Rattle.xs_fields.specs.Integers.{integer_of, is_small}
use Rattle.xs_fields.specs.declared.condition.Condition.{Condition}
use Rattle.xs_fields.specs.declared.condition.Condition.TheVariants.{Known}
use Rattle.xs_model.specs.declared.term.Rel.{Rel}
use Rattle.xs_model.specs.declared.term.Rel.TheVariants.{Lt, Le, Ge, Gt}
use Rattle.xs_conditions.specs.Spelling.{spelt_meets, word_in}

-- the operator that a word is
abbrev pub rel_by : List ℕ → Option Rel
rel_by word = if bytes_eq word (codes "lt") then Some Lt else if bytes_eq word (codes "le") then Some Le else if bytes_eq word (codes "ge") then Some Ge else if bytes_eq word (codes "gt") then Some Gt else None

abbrev pub rel_in : Option (List ℕ) → Option Rel
rel_in None = None
rel_in (Some word) = rel_by word

abbrev pub rel_or : Option Rel → Rel
rel_or None = Lt
rel_or (Some rel) = rel

-- what the text of an operator meets, and the operator
abbrev pub rel_meets : List ℕ → Condition → Bool
rel_meets text k = spelt_meets (is_some (rel_in (word_in text))) k

abbrev pub rel_of : List ℕ → Rel
rel_of text = rel_or (rel_in (word_in text))

-- `true` or `false`
abbrev pub is_flag : Option (List ℕ) → Bool
is_flag None = true
is_flag (Some text) = bytes_eq text (codes "true") || bytes_eq text (codes "false")

-- what a flag meets: another word is not known
abbrev pub flag_meets : Option (List ℕ) → Condition → Bool
flag_meets text Known = is_flag text
flag_meets text k = true

-- the flag, and what stands for an absent one
abbrev pub flag_of : Bool → Option (List ℕ) → Bool
flag_of absent None = absent
flag_of absent (Some text) = bytes_eq text (codes "true")

-- what a start meets: it is one integer, without whitespace
abbrev pub start_meets : Option (List ℕ) → Condition → Bool
start_meets None k = true
start_meets (Some text) k = meets is_small (integer_of text) k

abbrev pub start_in : Option ℤ → ℤ
start_in None = pos 0
start_in (Some z) = z

-- the start, which is 0 where it is absent
abbrev pub start_of : Option (List ℕ) → ℤ
start_of None = pos 0
start_of (Some text) = start_in (integer_of text)

-- what a flag misses that is not `true`
abbrev pub judged_false : List ℕ → Option Condition
judged_false text = if bytes_eq text (codes "false") then None else Some Known
