-- What a node asks of its operands' values, gathered from the left, and when that fits an i128.
use Rattle.std.specs.Prelude.{ℕ, suc, ◌==◌, ◌<◌, ℤ, pos, neg_ℤ, ◌+ℤ◌, ◌-ℤ◌, ◌*ℤ◌, ◌≤ℤ◌, int_le, int_lt, List, [], ◌∷◌, length, map, not, if◌then◌else◌, ⊤, FitsSigned}
use Rattle.std.specs.Int.{w128, int_min, int_max}
use Rattle.std.specs.Ordering.{int_eq}
use Rattle.xs_model.specs.declared.expr.Op.{Op}
use Rattle.xs_model.specs.declared.expr.Op.TheVariants.{Neg, Abs, Sqr, Add, Mul, Sub, Dist, Div, Mod, Pow, Min, Max, Lt, Le, Gt, Ge, Ne, Eq, Not, And, Or, Xor, Iff, Imp, If}
use Rattle.xs_model.specs.declared.expr.Expr.{Expr, every-Expr}
use Rattle.xs_model.specs.declared.expr.Expr.TheOpen.{Expr-F}
use Rattle.xs_model.specs.Value.{val, truth, is_true, absolute, power, exponent_of, chosen, quotient, remainder}
use Rattle.xs_expr.specs.declared.worth.Values.{Values}
use Rattle.xs_model.specs.Shape.{IsCount, IsExponent}

-- the other truth value
abbrev pub flipped : ℤ → ℤ
flipped t = if int_eq t (pos 0) then pos 1 else pos 0

-- what the operands give together, with the next one, for an operator that takes any number of them
abbrev pub stepped : Op → ℕ → Values → ℤ → ℤ
stepped Add k s x = s.total +ℤ x
stepped Mul k s x = s.total *ℤ x
stepped Min k s x = if k == 0 then x else int_min s.total x
stepped Max k s x = if k == 0 then x else int_max s.total x
stepped Eq k s x = if k == 0 then pos 1 else (if int_eq x s.first then s.total else pos 0)
stepped And k s x = if is_true x then s.total else pos 0
stepped Or k s x = if is_true x then pos 1 else s.total
stepped Xor k s x = if is_true x then flipped s.total else s.total
stepped op k s x = s.total

-- the same without operands
abbrev pub start : Op → ℤ
start Mul = pos 1
start And = pos 1
start Eq = pos 1
start op = pos 0

abbrev pub no_values : Op → Values
no_values op = record { first = pos 0; second = pos 0; third = pos 0; total = start op }

-- with one value more
abbrev pub with_value : Op → ℕ → Values → ℤ → Values
with_value op k s x = record {
  first = if k == 0 then x else s.first;
  second = if k == 1 then x else s.second;
  third = if k == 2 then x else s.third;
  total = stepped op k s x;
}

-- with all of these, from place k on
abbrev pub with_values : Op → ℕ → Values → List ℤ → Values
with_values op k s [] = s
with_values op k s (x ∷ xs) = with_values op (suc k) (with_value op k s x) xs

abbrev pub all_values : Op → List ℤ → Values
all_values op xs = with_values op 0 (no_values op) xs

-- the next value fits
abbrev pub StepFits : Op → Values → ℤ → Type 0
StepFits Add s x = FitsSigned w128 (s.total +ℤ x)
StepFits Mul s x = FitsSigned w128 (s.total *ℤ x)
StepFits op s x = ⊤

abbrev pub StepsFit : Op → ℕ → Values → List ℤ → Type 0
StepsFit op k s [] = ⊤
StepsFit op k s (x ∷ xs) = StepFits op s x × StepsFit op (suc k) (with_value op k s x) xs

-- a node's value
abbrev pub node_value : Op → Values → ℤ
node_value Neg s = neg_ℤ s.first
node_value Abs s = absolute s.first
node_value Sqr s = s.first *ℤ s.first
node_value Sub s = s.first -ℤ s.second
node_value Dist s = absolute (s.first -ℤ s.second)
node_value Div s = quotient s.first s.second
node_value Mod s = remainder s.first s.second
node_value Pow s = power s.first (exponent_of s.second)
node_value Lt s = truth (int_lt s.first s.second)
node_value Le s = truth (int_le s.first s.second)
node_value Gt s = truth (int_lt s.second s.first)
node_value Ge s = truth (int_le s.second s.first)
node_value Ne s = truth (not (int_eq s.first s.second))
node_value Not s = pos 1 -ℤ s.first
node_value Iff s = truth (int_eq s.first s.second)
node_value Imp s = truth (int_le s.first s.second)
node_value If s = chosen s.first s.second s.third
node_value op s = s.total

-- what leads from the operands' values to the node's fits
abbrev pub NodeFits : Op → Values → Type 0
NodeFits Neg s = FitsSigned w128 (neg_ℤ s.first)
NodeFits Abs s = FitsSigned w128 (neg_ℤ s.first)
NodeFits Sqr s = FitsSigned w128 (s.first *ℤ s.first)
NodeFits Sub s = FitsSigned w128 (s.first -ℤ s.second)
NodeFits Dist s = FitsSigned w128 (s.first -ℤ s.second) × FitsSigned w128 (neg_ℤ (s.first -ℤ s.second))
NodeFits Div s = (pos 0 ≤ℤ s.first) × (pos 1 ≤ℤ s.second)
NodeFits Mod s = (pos 0 ≤ℤ s.first) × (pos 1 ≤ℤ s.second)
NodeFits Pow s = IsExponent s.second × FitsSigned w128 (power s.first (exponent_of s.second))
NodeFits Not s = FitsSigned w128 (pos 1 -ℤ s.first)
NodeFits op s = ⊤

abbrev pub FitsNode : Op → List ℤ → Type 0
FitsNode op xs = StepsFit op 0 (no_values op) xs × NodeFits op (all_values op xs)

abbrev pub FitsAt : List ℤ → Expr-F Expr → Type 0
FitsAt a (Expr-F.Int z) = ⊤
FitsAt a (Expr-F.Var v) = v < length a
FitsAt a (Expr-F.Node op es) = IsCount op (length es) × FitsNode op (map (val a) es)

-- all that leads to the value of an expression fits
abbrev pub Fits : List ℤ → Expr → Type 0
Fits a = every-Expr (FitsAt a)
