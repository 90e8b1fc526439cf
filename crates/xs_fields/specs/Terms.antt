-- Lists of terms (XCSP3-core: a list that mixes integers, the compact form `vxk` and variable words).
use Rattle.std.specs.Prelude.{ℕ, Bool, ◌&&◌, List, length, map, is_some, if◌then◌else◌}
use Rattle.std.specs.List.{flat_map}
use Rattle.xs_model.specs.Outline.{Outline}
use Rattle.xs_model.specs.declared.term.Term.{Term}
use Rattle.xs_model.specs.declared.term.Term.TheVariants.{Int, Var}
use Rattle.xs_fields.specs.Cells.{variable_meets, variables_of}
use Rattle.xs_fields.specs.Conditions.{all_meet}
use Rattle.xs_fields.specs.Lists.{count_meets, members_of, run_meets, run_of}
use Rattle.xs_fields.specs.Words.{words_of}
use Rattle.xs_fields.specs.declared.condition.Condition.{Condition}

-- a word is an integer or `vxk`; every other is a variable word
abbrev pub is_run : List ℕ → Bool
is_run word = is_some (run_of word)

-- what a word of a list of terms meets
abbrev pub term_meets : List Outline → List ℕ → Condition → Bool
term_meets os word k = if is_run word then run_meets word k else variable_meets os word k

-- the terms that a word stands for
abbrev pub word_terms : List Outline → List ℕ → List Term
word_terms os word = if is_run word then map Int (members_of word) else map Var (variables_of os word)

-- the terms that a text denotes
abbrev pub terms_of : List Outline → List ℕ → List Term
terms_of os text = flat_map (word_terms os) (words_of text)

abbrev pub term_words_meet : List Outline → List ℕ → Condition → Bool
term_words_meet os text = all_meet (term_meets os) (words_of text)

-- what a list of terms meets
abbrev pub terms_meet : List Outline → List ℕ → ℕ → Condition → Bool
terms_meet os text left k = term_words_meet os text k && count_meets (length (terms_of os text)) left k
