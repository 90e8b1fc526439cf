-- The tree of a model (MiniZinc Handbook, "FlatZinc", grammar): an item for each variable, output array and call, in this
-- order, and the goal.
use Rattle.std.specs.Prelude.{◌≡◌, ℕ, Bool as Truth, true, false, Option, Some, None, List, [], ◌∷◌, ◌++◌, length, map, codes}
use Rattle.std.specs.List.{flat_map}
use Rattle.std.specs.Fmt.{decimal, signed_decimal}
use Rattle.xf_num.specs.Span.{Bounds}
use Rattle.fz_model.specs.Builtins.{name_of}
use Rattle.fz_model.specs.declared.model.Arg.{Arg}
use Rattle.fz_model.specs.declared.model.Arg.TheOpen.{Arg-F}
use Rattle.fz_model.specs.declared.model.Arg.TheFolds.{fold-Arg}
use Rattle.fz_model.specs.declared.model.Call.{Call}
use Rattle.fz_model.specs.declared.model.FzVar.{FzVar}
use Rattle.fz_model.specs.declared.model.Goal as flat
use Rattle.fz_model.specs.declared.model.Goal.TheVariants as goal
use Rattle.fz_model.specs.declared.model.Model.{Model}
use Rattle.fz_model.specs.declared.model.Output.{Output}
use Rattle.fz_model.specs.Sound.{IsSound}
use Rattle.fz_file.specs.Layout.{name_at, names_of, numbers, integers_of, layout}
use Rattle.fz_tokens.specs.Tokens.{tokens_of}
use Rattle.fz_grammar.specs.Levels.{words}
use Rattle.fz_grammar.specs.Items.{note, solve, syntax_of, IsModel}
use Rattle.fz_grammar.specs.Placing.{IsPlaced}
use Rattle.fz_grammar.specs.declared.tree.Expr.{Expr}
use Rattle.fz_grammar.specs.declared.tree.Expr.TheVariants as expr
use Rattle.fz_grammar.specs.declared.tree.Note.{Note}
use Rattle.fz_grammar.specs.declared.tree.VarType.{VarType}
use Rattle.fz_grammar.specs.declared.tree.VarType.TheVariants as var_type
use Rattle.fz_grammar.specs.declared.tree.Access.TheVariants as access
use Rattle.fz_grammar.specs.declared.tree.Goal.{Goal}
use Rattle.fz_grammar.specs.declared.tree.Goal.TheVariants as goals
use Rattle.fz_grammar.specs.declared.tree.Item.{Item}
use Rattle.fz_grammar.specs.declared.tree.Item.TheVariants as items
use Rattle.fz_grammar.specs.declared.tree.Reading.{Reading}
use Rattle.fz_grammar.specs.declared.tree.Syntax.{Syntax}
use Rattle.fz_read.specs.Reading.{AreAlike, Denotes}

abbrev pub expr_step : List (List ℕ) → Arg-F Expr → Expr
expr_step names (Arg-F.Int z) = expr.Int (signed_decimal z)
expr_step names (Arg-F.Bool t) = expr.Bool t
expr_step names (Arg-F.Var k) = expr.Name (name_at names k)
expr_step names (Arg-F.Range s) = expr.Range (signed_decimal s.lo) (signed_decimal s.hi)
expr_step names (Arg-F.Set zs) = expr.Set (numbers zs)
expr_step names (Arg-F.List xs) = expr.List xs

-- the expression of an argument, variables by their names
abbrev pub expr_of : List (List ℕ) → Arg → Expr
expr_of names = fold-Arg Expr (expr_step names)

-- the type of a variable: a range where its domain is one, else the set of its members
abbrev pub type_of : Truth → List Bounds → VarType
type_of true domain = var_type.Bool
type_of false [] = var_type.Set []
type_of false (b ∷ []) = var_type.Range (signed_decimal b.lo) (signed_decimal b.hi)
type_of false (b ∷ c ∷ bs) = var_type.Set (numbers (integers_of b ++ flat_map integers_of (c ∷ bs)))

abbrev pub shown_notes : Truth → List Note
shown_notes true = note (codes "output_var") None ∷ []
shown_notes false = []

abbrev pub value_of : List (List ℕ) → Option Arg → Option Expr
value_of names None = None
value_of names (Some a) = Some (expr_of names a)

abbrev pub var_item : List (List ℕ) → FzVar → Item
var_item names v = items.Var (type_of v.boolean v.domain) v.name (shown_notes v.shown) (value_of names v.equal)

abbrev pub member_type : Truth → VarType
member_type true = var_type.Bool
member_type false = var_type.Int

abbrev pub range_of : Bounds → Expr
range_of s = expr.Range (signed_decimal s.lo) (signed_decimal s.hi)

abbrev pub output_notes : List Bounds → List Note
output_notes dims = note (codes "output_array") (Some (expr.List (map range_of dims) ∷ [])) ∷ []

abbrev pub output_item : List (List ℕ) → Output → Item
output_item names o = items.Array (decimal (length o.members)) (member_type o.boolean) o.name (output_notes o.dims) (expr.List (map (expr_of names) o.members))

abbrev pub call_item : List (List ℕ) → Call → Item
call_item names c = items.Constraint (name_of c.builtin) (map (expr_of names) c.args) []

abbrev pub goal_of : List (List ℕ) → flat.Goal → Goal
goal_of names goal.Satisfy = goals.Satisfy
goal_of names (goal.Minimize k) = goals.Minimize (access.Name (name_at names k))
goal_of names (goal.Maximize k) = goals.Maximize (access.Name (name_at names k))

-- the tree of a model
abbrev pub tree_of : Model → Syntax
tree_of m =
    let names : List (List ℕ) = names_of m.vars in
    syntax_of (map (var_item names) m.vars ++ (map (output_item names) m.outputs ++ map (call_item names) m.calls)) (solve [] (goal_of names m.goal))

-- the tokens of what is written of a sound model spell its tree
abbrev pub ReadsAsTree : Type 0
ReadsAsTree = (m : Model) → IsSound m → IsModel (tree_of m) (words (tokens_of (layout m)))

-- the text has this tree, each item of which has its place
pub record HasTree (text : List ℕ) (s : Syntax) : Type 0 where
  pub reading : Reading
  pub tree : reading.syntax ≡ s
  pub placed : IsPlaced reading (tokens_of text) []

-- the items of what is written of a sound model stand one after the other in its text
abbrev pub HasItems : Type 0
HasItems = (m : Model) → IsSound m → HasTree (layout m) (tree_of m)

-- what is written of a sound model denotes it
abbrev pub WrittenAgain : Type 0
WrittenAgain = (m : Model) → IsSound m → Denotes (layout m) m

-- what is written of a sound model denotes no other, but for the places of calls
abbrev pub WrittenAlone : Type 0
WrittenAlone = (m n : Model) → IsSound m → Denotes (layout m) n → AreAlike m n

-- sound models of which the same is written are the same, but for the places of calls
abbrev pub OneLayout : Type 0
OneLayout = (m n : Model) → IsSound m → IsSound n → layout m ≡ layout n → AreAlike m n
