-- How often values are to occur (XCSP3-core, "Constraint cardinality", `occurs`): integers, also as `vxk`, ranges `a..b`, and
-- variables, also as compact words.
use Rattle.std.specs.Prelude.{ℕ, Bool, ◌&&◌, List, [], ◌∷◌, length, map, is_some, Result, Ok, Err, if◌then◌else◌}
use Rattle.std.specs.List.{flat_map}
use Rattle.xf_num.specs.Span.{Bounds}
use Rattle.xs_fields.specs.Conditions.{all_meet, judged}
use Rattle.xs_fields.specs.Lists.{count_meets, has_small_ends, piece_list}
use Rattle.xs_fields.specs.Terms.{term_meets, word_terms}
use Rattle.xs_fields.specs.Words.{words_of}
use Rattle.xs_fields.specs.declared.condition.Condition.{Condition}
use Rattle.xs_model.specs.Outline.{Outline}
use Rattle.xs_model.specs.declared.term.Occurrence.{Occurrence}
use Rattle.xs_model.specs.declared.term.Occurrence.TheVariants.{Span, Term}
use Rattle.xs_conditions.specs.Ranges.{range_in, range_meets}

-- a word of such a list
abbrev pub occurrence_meets : List Outline → List ℕ → Condition → Bool
occurrence_meets os word k = if is_some (range_in word) then range_meets word k else term_meets os word k

-- what it stands for
abbrev pub word_occurrences : List Outline → List ℕ → List Occurrence
word_occurrences os word = if is_some (range_in word) then map Span (piece_list (judged has_small_ends (range_in word))) else map Term (word_terms os word)

-- the list that a text denotes
abbrev pub occurrences_of : List Outline → List ℕ → List Occurrence
occurrences_of os text = flat_map (word_occurrences os) (words_of text)

-- what such a list meets, where so many members may still come
abbrev pub occurrences_meet : List Outline → List ℕ → ℕ → Condition → Bool
occurrences_meet os text left k = all_meet (occurrence_meets os) (words_of text) k && count_meets (length (occurrences_of os text)) left k
