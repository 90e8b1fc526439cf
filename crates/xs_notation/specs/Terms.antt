-- The words of an expression: integers and direct variable words (XCSP3-core, "Intensional constraints").
use Rattle.std.specs.Prelude.{ℕ, Bool, ◌&&◌, ℤ, pos, List, [], ◌∷◌, Option, None, Some, Result, Ok, Err}
use Rattle.xs_fields.specs.Cells.{name_meets, variables_of}
use Rattle.xs_fields.specs.Conditions.{all_meet, first_missed, meets}
use Rattle.xs_fields.specs.Integers.{integer_of, is_small}
use Rattle.xs_fields.specs.Sizes.{brackets_of, size_meets}
use Rattle.xs_fields.specs.Variables.{word_meets}
use Rattle.xs_fields.specs.declared.condition.Condition.{Condition}
use Rattle.xs_model.specs.Outline.{Outline}
use Rattle.xs_model.specs.declared.expr.Expr.{Expr, Int, Var}

-- what a direct variable word meets: it is a variable word, and an integer stands in each bracket
abbrev pub direct_meets : List ℕ → Condition → Bool
direct_meets word k = word_meets word k && all_meet size_meets (brackets_of word) k

-- what a word meets, of which an integer is given that it spells
abbrev pub term_meets_by : List Outline → List ℕ → Option ℤ → Condition → Bool
term_meets_by os word (Some z) k = meets is_small (Some z) k
term_meets_by os word None k = direct_meets word k && name_meets os word k

-- what a word meets: it is a small integer, or a direct word that denotes a variable
abbrev pub term_meets : List Outline → List ℕ → Condition → Bool
term_meets os word = term_meets_by os word (integer_of word)

abbrev pub variable_in : List ℕ → Expr
variable_in [] = Int (pos 0)
variable_in (v ∷ vs) = Var v

abbrev pub term_by : List Outline → List ℕ → Option ℤ → Expr
term_by os word (Some z) = Int z
term_by os word None = variable_in (variables_of os word)

-- what a word stands for, if it misses nothing
abbrev pub settled : Option Condition → Expr → Result Expr Condition
settled None e = Ok e
settled (Some k) e = Err k

-- the operand that a word is, or the first condition that it misses
abbrev pub term_at : List Outline → List ℕ → Result Expr Condition
term_at os word = settled (first_missed (term_meets os word)) (term_by os word (integer_of word))

-- the operand that a word is; 0 stands for one that misses a condition
abbrev pub term_in : Result Expr Condition → Expr
term_in (Ok e) = e
term_in (Err k) = Int (pos 0)

abbrev pub term_of : List Outline → List ℕ → Expr
term_of os word = term_in (term_at os word)
