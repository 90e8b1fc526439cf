-- The value of an expression under an assignment (XCSP3-core, the semantics of the operators of expressions).
use Rattle.std.specs.Prelude.{ℕ, ℤ, pos, negsuc, ◌+ℤ◌, ◌-ℤ◌, ◌*ℤ◌, neg_ℤ, nat_abs, zero, suc, if◌then◌else◌, int_le, int_lt, int_div, int_rem, List, [], ◌∷◌, slice_index_or, map, fold, Bool, true, false, not}
use Rattle.std.specs.List.{list_all, list_any}
use Rattle.std.specs.Ordering.{int_eq}
use Rattle.std.specs.Int.{int_min, int_max}
use Rattle.xs_model.specs.declared.expr.Op.{Op}
use Rattle.xs_model.specs.declared.expr.Op.TheVariants.{Neg, Abs, Sqr, Add, Mul, Sub, Dist, Div, Mod, Pow, Min, Max, Lt, Le, Gt, Ge, Ne, Eq, Set, In, NotIn, Not, And, Or, Xor, Iff, Imp, If}
use Rattle.xs_model.specs.declared.expr.Expr.{Expr}
use Rattle.xs_model.specs.declared.expr.Expr.TheOpen.{Expr-F}
use Rattle.xs_model.specs.declared.expr.Expr.TheFolds.{fold-Expr}

-- the value of variable v
abbrev pub at : List ℤ → ℕ → ℤ
at a v = slice_index_or a v (pos 0)

-- a truth value as an integer, and an integer as a truth value
abbrev pub truth : Bool → ℤ
truth true = pos 1
truth false = pos 0

abbrev pub is_true : ℤ → Bool
is_true x = int_eq x (pos 1)

abbrev pub absolute : ℤ → ℤ
absolute x = pos (nat_abs x)

abbrev pub sum_of : List ℤ → ℤ
sum_of [] = pos 0
sum_of (x ∷ xs) = x +ℤ sum_of xs

-- the product, from the left
abbrev pub product_from : ℤ → List ℤ → ℤ
product_from acc [] = acc
product_from acc (x ∷ xs) = product_from (acc *ℤ x) xs

-- x to the power k
abbrev pub power : ℤ → ℕ → ℤ
power x zero = pos 1
power x (suc k) = power x k *ℤ x

abbrev pub exponent_of : ℤ → ℕ
exponent_of (pos k) = k
exponent_of (negsuc k) = 0

abbrev pub least_of : List ℤ → ℤ
least_of [] = pos 0
least_of (x ∷ xs) = fold int_min x xs

abbrev pub greatest_of : List ℤ → ℤ
greatest_of [] = pos 0
greatest_of (x ∷ xs) = fold int_max x xs

-- every value equals the first
abbrev pub all_equal : List ℤ → Bool
all_equal xs = list_all (λ y. int_eq y (slice_index_or xs 0 (pos 0))) xs

-- an odd number of the values is 1
abbrev pub is_odd : List ℤ → Bool
is_odd [] = false
is_odd (x ∷ xs) = if is_true x then not (is_odd xs) else is_odd xs

abbrev pub chosen : ℤ → ℤ → ℤ → ℤ
chosen c x y = if is_true c then x else y

-- a quotient and a remainder: the operands are not negative, so rounding down is rounding towards 0
abbrev pub quotient : ℤ → ℤ → ℤ
quotient x y = int_div x y

abbrev pub remainder : ℤ → ℤ → ℤ
remainder x y = int_rem x y

-- what an operator makes of its operands' values; members are those of the set that is its second operand
abbrev pub apply : Op → List ℤ → List ℤ → ℤ
apply Neg xs members = neg_ℤ (at xs 0)
apply Abs xs members = absolute (at xs 0)
apply Sqr xs members = at xs 0 *ℤ at xs 0
apply Add xs members = sum_of xs
apply Mul xs members = product_from (pos 1) xs
apply Sub xs members = at xs 0 -ℤ at xs 1
apply Dist xs members = absolute (at xs 0 -ℤ at xs 1)
apply Div xs members = quotient (at xs 0) (at xs 1)
apply Mod xs members = remainder (at xs 0) (at xs 1)
apply Pow xs members = power (at xs 0) (exponent_of (at xs 1))
apply Min xs members = least_of xs
apply Max xs members = greatest_of xs
apply Lt xs members = truth (int_lt (at xs 0) (at xs 1))
apply Le xs members = truth (int_le (at xs 0) (at xs 1))
apply Gt xs members = truth (int_lt (at xs 1) (at xs 0))
apply Ge xs members = truth (int_le (at xs 1) (at xs 0))
apply Ne xs members = truth (not (int_eq (at xs 0) (at xs 1)))
apply Eq xs members = truth (all_equal xs)
apply Set xs members = pos 0
apply In xs members = truth (list_any (int_eq (at xs 0)) members)
apply NotIn xs members = truth (not (list_any (int_eq (at xs 0)) members))
apply Not xs members = pos 1 -ℤ at xs 0
apply And xs members = truth (list_all is_true xs)
apply Or xs members = truth (list_any is_true xs)
apply Xor xs members = truth (is_odd xs)
apply Iff xs members = truth (int_eq (at xs 0) (at xs 1))
apply Imp xs members = truth (int_le (at xs 0) (at xs 1))
apply If xs members = chosen (at xs 0) (at xs 1) (at xs 2)

-- what a node is worth: its value and, of a set, its members
pub record Worth : Type 0 where
  pub value : ℤ
  pub members : List ℤ

abbrev pub number : ℤ → Worth
number x = record { value = x; members = [] }

abbrev pub values_of : List Worth → List ℤ
values_of ws = map (λ w. w.value) ws

-- the members of the second operand
abbrev pub second_members : List Worth → List ℤ
second_members ws = (slice_index_or ws 1 (number (pos 0))).members

abbrev pub node_worth : Op → List Worth → Worth
node_worth Set ws = record { value = pos 0; members = values_of ws }
node_worth op ws = number (apply op (values_of ws) (second_members ws))

abbrev pub worth_step : List ℤ → Expr-F Worth → Worth
worth_step a (Expr-F.Int z) = number z
worth_step a (Expr-F.Var v) = number (at a v)
worth_step a (Expr-F.Node op ws) = node_worth op ws

abbrev pub worth : List ℤ → Expr → Worth
worth a = fold-Expr Worth (worth_step a)

-- the value of an expression under an assignment
abbrev pub val : List ℤ → Expr → ℤ
val a e = (worth a e).value
