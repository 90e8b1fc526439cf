-- How deep the parentheses of a text are nested, and whether a test is asked by that condition.
use Rattle.std.specs.Prelude.{ℕ, Bool, true, not, List}
use Rattle.std.specs.List.{list_all}
use Rattle.xs_fields.specs.Words.{words_of}
use Rattle.xs_fields.specs.declared.condition.Condition.{Condition}
use Rattle.xs_fields.specs.declared.condition.Condition.TheVariants.{Nesting}
use Rattle.xs_model.specs.declared.concrete.Part.{Part}
use Rattle.xs_notation.specs.Nesting.{is_deeper}

-- a test that is asked by `Nesting` alone
abbrev pub nesting_meets : Bool → Condition → Bool
nesting_meets test Nesting = test
nesting_meets test k = true

-- no more than the limit of parentheses are open at once
abbrev pub is_shallow : List ℕ → Bool
is_shallow text = not (is_deeper 0 text)

-- the same of each word
abbrev pub are_words_shallow : List ℕ → Bool
are_words_shallow text = list_all is_shallow (words_of text)

-- the same of the text of each part
abbrev pub are_parts_shallow : List Part → Bool
are_parts_shallow parts = list_all (λ p. is_shallow p.text) parts
