-- The notation is read in one way, and what is written in it is read again.
use Rattle.std.specs.Prelude.{◌≡◌, ◌≢◌, ℕ, ◌<◌, ◌^◌, List, length, Some, Ok, true, false, AllPairs}
use Rattle.std.specs.List.{AllByRecursion}
use Rattle.xs_model.specs.Formed.{IsFormedExpr}
use Rattle.xs_expr.specs.Text.{written}
use Rattle.xs_expr.specs.Tokens.{tokens_of}
use Rattle.xs_fields.specs.Conditions.{answer}
use Rattle.xs_fields.specs.declared.condition.Condition.{Condition}
use Rattle.xs_model.specs.Names.{words}
use Rattle.xs_model.specs.Outline.{outlines_of}
use Rattle.xs_model.specs.Accepted.{IsAccepted}
use Rattle.xs_model.specs.Sound.{IsSoundDecl, cells_of, names_of}
use Rattle.xs_model.specs.declared.decl.Decl.{Decl}
use Rattle.xs_model.specs.declared.instance.Instance.{Instance}
use Rattle.xs_model.specs.declared.expr.Expr.{Expr}
use Rattle.xs_notation.specs.declared.raw.Raw.{Raw}
use Rattle.xs_notation.specs.Notation.{flat, are_plain}
use Rattle.xs_notation.specs.Nesting.{is_deeper}
use Rattle.xs_notation.specs.Parse.{parse}
use Rattle.xs_notation.specs.Reading.{expr_at, expr_meets, expr_of, tree_meets}

-- tokens are those of the expression that is read from them, whose words are no marks; and the tokens of each such
-- expression are read as that expression
pub record OneNotation : Type 0 where
  pub written : (ts : List (List ℕ)) (r : Raw) → parse ts ≡ Some r → flat r ≡ ts
  pub plain : (ts : List (List ℕ)) (r : Raw) → parse ts ≡ Some r → are_plain r ≡ true
  pub again : (r : Raw) → are_plain r ≡ true → parse (flat r) ≡ Some r

-- declarations as those of a sound instance: sound, of different names, with cells that machine numbers count
pub record AreDeclared (ds : List Decl) : Type 0 where
  pub distinct : AllPairs (λ a b. a ≢ b) (names_of ds)
  pub decls : AllByRecursion IsSoundDecl ds
  pub few : AllByRecursion (λ d. cells_of d < 2 ^ 64) ds

-- the text of an expression spells an expression that misses no condition on it, and that is the same when its words
-- are read
pub record IsReadAgain (ds : List Decl) (e : Expr) : Type 0 where
  pub tree : Raw
  pub parsed : parse (tokens_of (written (words ds) e)) ≡ Some tree
  pub meets : (k : Condition) → tree_meets (outlines_of ds) tree k ≡ true
  pub same : expr_of (outlines_of ds) tree ≡ e

-- what is written is read again. The limit on the depth of a text is one on what is read, and nothing is asked of it
-- here; where the text keeps it too, the text is answered with the expression
pub record WrittenAgain : Type 0 where
  pub accepted : (i : Instance) → IsAccepted i → AreDeclared i.decls
  pub read : (ds : List Decl) (e : Expr) → AreDeclared ds → IsFormedExpr (length (words ds)) e → IsReadAgain ds e
  pub answered : (ds : List Decl) (e : Expr) → AreDeclared ds → IsFormedExpr (length (words ds)) e → is_deeper 0 (written (words ds) e) ≡ false → answer (expr_meets (outlines_of ds) (written (words ds) e)) (expr_at (outlines_of ds) (written (words ds) e)) ≡ Ok e
