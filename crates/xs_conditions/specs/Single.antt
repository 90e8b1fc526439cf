-- Single terms (XCSP3-core: the operand of a condition, an index, a value, a size): an integer or a variable.
use Rattle.std.specs.Prelude.{ℕ, Bool, false, ◌&&◌, ℤ, pos, List, [], ◌∷◌, Option, None, Some}
use Rattle.xs_fields.specs.Cells.{name_meets, variables_of}
use Rattle.xs_fields.specs.Conditions.{all_meet, meets}
use Rattle.xs_fields.specs.Integers.{integer_of, is_small}
use Rattle.xs_fields.specs.Sizes.{brackets_of, size_meets}
use Rattle.xs_fields.specs.Variables as variables
use Rattle.xs_fields.specs.declared.condition.Condition.{Condition}
use Rattle.xs_model.specs.Outline.{Outline}
use Rattle.xs_model.specs.declared.term.Term.{Term}
use Rattle.xs_model.specs.declared.term.Term.TheVariants.{Int, Var}
use Rattle.xs_conditions.specs.Spelling.{spelt_meets, word_in, word_meets, words_in}

-- how a direct word is spelt: it is a variable word, and an integer stands in each of its brackets
abbrev pub direct_spelt : List ℕ → Condition → Bool
direct_spelt word k = variables.word_meets word k && all_meet size_meets (brackets_of word) k

-- what a direct word meets: it is spelt so, and denotes a variable
abbrev pub direct_meets : List Outline → List ℕ → Condition → Bool
direct_meets os word k = direct_spelt word k && name_meets os word k

abbrev pub first_of : List ℕ → ℕ
first_of [] = 0
first_of (v ∷ vs) = v

-- the variable that a direct word denotes
abbrev pub direct_of : List Outline → List ℕ → ℕ
direct_of os word = first_of (variables_of os word)

-- what a word meets, of which it is told which integer it spells
abbrev pub single_meets_by : List Outline → List ℕ → Option ℤ → Condition → Bool
single_meets_by os word (Some z) k = meets is_small (Some z) k
single_meets_by os word None k = direct_meets os word k

abbrev pub single_by : List Outline → List ℕ → Option ℤ → Term
single_by os word (Some z) = Int z
single_by os word None = Var (direct_of os word)

-- a word that is a term: an integer or a direct word
abbrev pub single_meets : List Outline → List ℕ → Condition → Bool
single_meets os word k = single_meets_by os word (integer_of word) k

abbrev pub single_of : List Outline → List ℕ → Term
single_of os word = single_by os word (integer_of word)

-- what the text of one term meets, and the term
abbrev pub one_term_meets : List Outline → List ℕ → Condition → Bool
one_term_meets os text k = word_meets (single_meets os) (word_in text) k

abbrev pub one_term_in : List Outline → Option (List ℕ) → Term
one_term_in os None = Int (pos 0)
one_term_in os (Some w) = single_of os w

abbrev pub one_term_of : List Outline → List ℕ → Term
one_term_of os text = one_term_in os (word_in text)

-- what the text of two terms meets, and the terms
abbrev pub both_meet : List Outline → Option (List ℕ × List ℕ) → Condition → Bool
both_meet os None k = spelt_meets false k
both_meet os (Some ws) k = single_meets os ws.0 k && single_meets os ws.1 k

abbrev pub both_of : List Outline → Option (List ℕ × List ℕ) → Term × Term
both_of os None = (Int (pos 0), Int (pos 0))
both_of os (Some ws) = (single_of os ws.0, single_of os ws.1)

abbrev pub two_terms_meet : List Outline → List ℕ → Condition → Bool
two_terms_meet os text k = both_meet os (words_in text) k

abbrev pub two_terms_of : List Outline → List ℕ → Term × Term
two_terms_of os text = both_of os (words_in text)
