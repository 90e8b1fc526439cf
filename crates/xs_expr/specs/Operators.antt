-- The operators by their names (XCSP3-core, "Intensional constraints").
use Rattle.std.specs.Prelude.{ℕ, List, [], ◌∷◌, Option, Some, None, if◌then◌else◌}
use Rattle.std.specs.Str.{bytes_eq}
use Rattle.xs_model.specs.declared.expr.Op.{Op}
use Rattle.xs_model.specs.declared.expr.Op.TheVariants.{Neg, Abs, Sqr, Add, Mul, Sub, Dist, Div, Mod, Pow, Min, Max, Lt, Le, Gt, Ge, Ne, Eq, Set, In, NotIn, Not, And, Or, Xor, Iff, Imp, If}
use Rattle.xs_expr.specs.Text.{name_of}

abbrev pub all : List Op
all = Neg ∷ Abs ∷ Sqr ∷ Add ∷ Mul ∷ Sub ∷ Dist ∷ Div ∷ Mod ∷ Pow ∷ Min ∷ Max ∷ Lt ∷ Le ∷ Gt ∷ Ge ∷ Ne ∷ Eq ∷ Set ∷ In ∷ NotIn ∷ Not ∷ And ∷ Or ∷ Xor ∷ Iff ∷ Imp ∷ If ∷ []

-- the first of these with that name
abbrev pub look_up : List Op → List ℕ → Option Op
look_up [] name = None
look_up (op ∷ ops) name = if bytes_eq (name_of op) name then Some op else look_up ops name

abbrev pub by_name : List ℕ → Option Op
by_name = look_up all
