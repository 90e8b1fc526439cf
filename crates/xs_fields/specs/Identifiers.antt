-- Identifiers (XCSP3-core, identifiers of variables and arrays).
use Rattle.std.specs.Prelude.{ℕ, Bool, true, false, ◌&&◌, List, [], ◌∷◌}
use Rattle.std.specs.List.{list_all}
use Rattle.xs_fields.specs.declared.condition.Condition.{Condition}
use Rattle.xs_fields.specs.declared.condition.Condition.TheVariants.{Spelling}
use Rattle.xs_model.specs.Identifier.{is_letter, is_word}

-- a letter or `_`, and then letters, digits and `_`
abbrev pub is_identifier : List ℕ → Bool
is_identifier [] = false
is_identifier (b ∷ bs) = is_letter b && list_all is_word bs

-- what an identifier meets
abbrev pub identifier_meets : List ℕ → Condition → Bool
identifier_meets text Spelling = is_identifier text
identifier_meets text k = true
