-- How an expression is written (XCSP3-core, "Intensional constraints", functional notation).
use Rattle.std.specs.Prelude.{ℕ, List, [], ◌∷◌, ◌++◌, codes, slice_index_or}
use Rattle.std.specs.Fmt.{signed_decimal}
use Rattle.xs_model.specs.declared.expr.Op.{Op}
use Rattle.xs_model.specs.declared.expr.Op.TheVariants.{Neg, Abs, Sqr, Add, Mul, Sub, Dist, Div, Mod, Pow, Min, Max, Lt, Le, Gt, Ge, Ne, Eq, Set, In, NotIn, Not, And, Or, Xor, Iff, Imp, If}
use Rattle.xs_model.specs.declared.expr.Expr.{Expr, fold-Expr}
use Rattle.xs_model.specs.declared.expr.Expr.TheOpen.{Expr-F}

-- the name of an operator
unfoldable pub name_of : Op → List ℕ
name_of Neg = codes "neg"
name_of Abs = codes "abs"
name_of Sqr = codes "sqr"
name_of Add = codes "add"
name_of Mul = codes "mul"
name_of Sub = codes "sub"
name_of Dist = codes "dist"
name_of Div = codes "div"
name_of Mod = codes "mod"
name_of Pow = codes "pow"
name_of Min = codes "min"
name_of Max = codes "max"
name_of Lt = codes "lt"
name_of Le = codes "le"
name_of Gt = codes "gt"
name_of Ge = codes "ge"
name_of Ne = codes "ne"
name_of Eq = codes "eq"
name_of Set = codes "set"
name_of In = codes "in"
name_of NotIn = codes "notin"
name_of Not = codes "not"
name_of And = codes "and"
name_of Or = codes "or"
name_of Xor = codes "xor"
name_of Iff = codes "iff"
name_of Imp = codes "imp"
name_of If = codes "if"

-- texts one after the other, the first behind this one and each other behind a comma
abbrev pub joined_from : List ℕ → List (List ℕ) → List ℕ
joined_from before [] = []
joined_from before (t ∷ ts) = before ++ (t ++ joined_from (codes ",") ts)

-- the direct words of the variables are given
abbrev pub written_step : List (List ℕ) → Expr-F (List ℕ) → List ℕ
written_step words (Expr-F.Int z) = signed_decimal z
written_step words (Expr-F.Var v) = slice_index_or words v []
written_step words (Expr-F.Node op ts) = name_of op ++ (codes "(" ++ (joined_from [] ts ++ codes ")"))

-- an expression as text, without whitespace
abbrev pub written : List (List ℕ) → Expr → List ℕ
written words = fold-Expr (List ℕ) (written_step words)
