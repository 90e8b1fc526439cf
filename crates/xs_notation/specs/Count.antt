-- How many nodes an expression has.
use Rattle.std.specs.Prelude.{◌≡◌, ℕ, ◌+◌, List, [], ◌∷◌, Some, if◌then◌else◌}
use Rattle.xs_expr.specs.Tokens.{tokens_of}
use Rattle.xs_model.specs.Formed.{nodes, total}
use Rattle.xs_model.specs.Outline.{Outline}
use Rattle.xs_notation.specs.Notation.{is_plain}
use Rattle.xs_notation.specs.Parse.{parse}
use Rattle.xs_notation.specs.Reading.{expr_at, expr_of}
use Rattle.xs_notation.specs.declared.raw.Raw.{Raw, fold-Raw}
use Rattle.xs_notation.specs.declared.raw.Raw.TheOpen.{Raw-F}

abbrev pub nodes_step : Raw-F ℕ → ℕ
nodes_step (Raw-F.Word w) = 1
nodes_step (Raw-F.Call op ns) = 1 + total ns

-- each word and each call is a node
abbrev pub nodes_in : Raw → ℕ
nodes_in = fold-Raw ℕ nodes_step

-- so many of the tokens are no marks: operands that are words, and names of operators
abbrev pub words_among : List (List ℕ) → ℕ
words_among [] = 0
words_among (t ∷ ts) = (if is_plain t then 1 else 0) + words_among ts

-- the nodes of the expression that a text denotes
abbrev pub nodes_of : List ℕ → ℕ
nodes_of text = words_among (tokens_of text)

-- an expression has as many nodes as there are words among the tokens that it is read from, and as many when its words
-- are read; so `nodes_of` is what it says
pub record OneCount : Type 0 where
  pub raw : (ts : List (List ℕ)) (r : Raw) → parse ts ≡ Some r → nodes_in r ≡ words_among ts
  pub read : (os : List Outline) (r : Raw) → nodes (expr_of os r) ≡ nodes_in r
  pub expression : (os : List Outline) (text : List ℕ) (r : Raw) → parse (tokens_of text) ≡ Some r → nodes (expr_at os text) ≡ nodes_of text
