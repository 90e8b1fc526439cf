-- What the text of an expression meets, and the expression that it denotes (XCSP3-core, "Intensional constraints").
use Rattle.std.specs.Prelude.{ℕ, Bool, true, false, ◌&&◌, pos, List, [], ◌∷◌, Option, None, Some}
use Rattle.std.specs.List.{flat_map}
use Rattle.xs_expr.specs.Tokens.{tokens_of}
use Rattle.xs_fields.specs.Conditions.{all_meet}
use Rattle.xs_fields.specs.Lists.{count_meets}
use Rattle.xs_fields.specs.declared.condition.Condition.{Condition}
use Rattle.xs_fields.specs.declared.condition.Condition.TheVariants.{Spelling}
use Rattle.xs_model.specs.Formed.{nodes}
use Rattle.xs_model.specs.Outline.{Outline}
use Rattle.xs_model.specs.declared.expr.Expr.{Expr, Int, Node}
use Rattle.xs_notation.specs.Forms.{form_meets}
use Rattle.xs_notation.specs.Nesting.{nesting_meets}
use Rattle.xs_notation.specs.Parse.{parse}
use Rattle.xs_notation.specs.Terms.{term_meets, term_of}
use Rattle.xs_notation.specs.declared.raw.Raw.{Raw, fold-Raw}
use Rattle.xs_notation.specs.declared.raw.Raw.TheOpen.{Raw-F}

abbrev pub words_step : Raw-F (List (List ℕ)) → List (List ℕ)
words_step (Raw-F.Word w) = w ∷ []
words_step (Raw-F.Call op ws) = flat_map (λ w. w) ws

-- the words of an expression, from the first to the last
abbrev pub words_in : Raw → List (List ℕ)
words_in = fold-Raw (List (List ℕ)) words_step

abbrev pub words_meet : List Outline → Raw → Condition → Bool
words_meet os r = all_meet (term_meets os) (words_in r)

-- what the expression meets that the tokens spell
abbrev pub tree_meets : List Outline → Raw → Condition → Bool
tree_meets os r k = form_meets r k && words_meet os r k

-- tokens that spell none miss `Spelling`
abbrev pub raw_meets : List Outline → Option Raw → Condition → Bool
raw_meets os None Spelling = false
raw_meets os None k = true
raw_meets os (Some r) k = tree_meets os r k

-- what the text of an expression meets
abbrev pub expr_meets : List Outline → List ℕ → Condition → Bool
expr_meets os text k = nesting_meets text k && raw_meets os (parse (tokens_of text)) k

abbrev pub expr_step : List Outline → Raw-F Expr → Expr
expr_step os (Raw-F.Word w) = term_of os w
expr_step os (Raw-F.Call op es) = Node op es

-- the expression with each word read
abbrev pub expr_of : List Outline → Raw → Expr
expr_of os = fold-Raw Expr (expr_step os)

-- the expression that a text denotes; 0 stands where there is none
abbrev pub expr_in : List Outline → Option Raw → Expr
expr_in os None = Int (pos 0)
expr_in os (Some r) = expr_of os r

abbrev pub expr_at : List Outline → List ℕ → Expr
expr_at os text = expr_in os (parse (tokens_of text))

-- what the text of an expression meets, where so many nodes may still come
abbrev pub counted_expr_meets : List Outline → List ℕ → ℕ → Condition → Bool
counted_expr_meets os text left k = expr_meets os text k && count_meets (nodes (expr_at os text)) left k
