-- The same as tests: which operands an operator takes.
use Rattle.std.specs.Prelude.{ℕ, ◌==◌, nat_le, pos, int_le, List, [], ◌∷◌, Bool, true, false, ◌&&◌, not}
use Rattle.std.specs.List.{list_all}
use Rattle.xs_model.specs.declared.expr.Op.{Op}
use Rattle.xs_model.specs.declared.expr.Op.TheVariants.{Neg, Abs, Sqr, Add, Mul, Min, Max, Eq, Set, In, NotIn, Not, And, Or, Xor, If, Pow}
use Rattle.xs_model.specs.declared.expr.Expr.{Expr, out-Expr}
use Rattle.xs_model.specs.declared.expr.Expr.TheOpen.{Expr-F}
use Rattle.xs_model.specs.Shape.{is_set}

abbrev pub is_count : Op → ℕ → Bool
is_count Neg n = n == 1
is_count Abs n = n == 1
is_count Sqr n = n == 1
is_count Not n = n == 1
is_count Add n = nat_le 2 n
is_count Mul n = nat_le 2 n
is_count Min n = nat_le 2 n
is_count Max n = nat_le 2 n
is_count Eq n = nat_le 2 n
is_count And n = nat_le 2 n
is_count Or n = nat_le 2 n
is_count Xor n = nat_le 2 n
is_count Set n = true
is_count If n = n == 3
is_count op n = n == 2

abbrev pub is_exponent_layer : Expr-F Expr → Bool
is_exponent_layer (Expr-F.Int z) = int_le (pos 1) z && int_le z (pos 64)
is_exponent_layer (Expr-F.Var v) = false
is_exponent_layer (Expr-F.Node op es) = false

abbrev pub is_exponent : Expr → Bool
is_exponent e = is_exponent_layer (out-Expr e)

abbrev pub is_membership : List Expr → Bool
is_membership [] = false
is_membership (e ∷ []) = false
is_membership (e ∷ s ∷ []) = not (is_set e) && is_set s
is_membership (e ∷ s ∷ f ∷ es) = false

abbrev pub is_power : List Expr → Bool
is_power [] = false
is_power (e ∷ []) = false
is_power (e ∷ k ∷ []) = not (is_set e) && is_exponent k
is_power (e ∷ k ∷ f ∷ es) = false

abbrev pub are_no_sets : List Expr → Bool
are_no_sets es = list_all (λ e. not (is_set e)) es

abbrev pub are_placed : Op → List Expr → Bool
are_placed In es = is_membership es
are_placed NotIn es = is_membership es
are_placed Pow es = is_power es
are_placed op es = are_no_sets es
