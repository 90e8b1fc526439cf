-- What states a condition on a sum (MiniZinc Handbook, "FlatZinc": int_lin_eq, int_lin_ne, int_lin_le).
use Rattle.std.specs.Prelude.{◌^◌, ℤ, pos, negsuc, neg_ℤ, ◌-ℤ◌, ◌≤ℤ◌, List, [], ◌∷◌, ◌++◌, map}
use Rattle.fz_model.specs.Calls.{call_of}
use Rattle.fz_model.specs.declared.builtin.Builtin.{Builtin}
use Rattle.fz_model.specs.declared.builtin.Builtin.TheVariants.{IntLinEq, IntLinNe, IntLinLe}
use Rattle.fz_model.specs.declared.model.Arg.TheVariants as arg
use Rattle.fz_model.specs.declared.model.Call.{Call}
use Rattle.lo_emit.specs.declared.compare.Relation.{Relation}
use Rattle.lo_emit.specs.declared.compare.Relation.TheVariants.{Lt, Le, Ge, Gt, Eq, Ne}
use Rattle.lo_emit.specs.declared.term.Term.{Term}
use Rattle.lo_emit.specs.declared.term.Term.TheVariants.{Int, Truth, Var}
use Rattle.lo_emit.specs.Emitted.{list_of, constants_of}

abbrev pub builtin_of : Relation → Builtin
builtin_of Eq = IntLinEq
builtin_of Ne = IntLinNe
builtin_of _ = IntLinLe

-- a coefficient, negated where the relation is turned round
abbrev pub turned : Relation → ℤ → ℤ
turned Ge c = neg_ℤ c
turned Gt c = neg_ℤ c
turned _ c = c

-- the coefficient of the other side
abbrev pub own : Relation → ℤ
own Ge = pos 1
own Gt = pos 1
own _ = negsuc 0

-- the constant of the call, for a constant on the other side
abbrev pub constant_for : Relation → ℤ → ℤ
constant_for Lt k = k -ℤ pos 1
constant_for Ge k = neg_ℤ k
constant_for Gt k = neg_ℤ k -ℤ pos 1
constant_for _ k = k

abbrev pub linear_call : Relation → List ℤ → List Term → ℤ → Call
linear_call r cs ts k = call_of (builtin_of r) (constants_of cs ∷ list_of ts ∷ arg.Int k ∷ [])

-- the sum of the products is so related to the term
abbrev pub sum_call : Relation → List ℤ → List Term → Term → Call
sum_call r cs ts (Int k) = linear_call r (map (turned r) cs) ts (constant_for r k)
sum_call r cs ts (Truth t) = linear_call r (map (turned r) cs ++ own r ∷ []) (ts ++ Truth t ∷ []) (constant_for r (pos 0))
sum_call r cs ts (Var v) = linear_call r (map (turned r) cs ++ own r ∷ []) (ts ++ Var v ∷ []) (constant_for r (pos 0))

-- an integer that can be negated, and one taken from it
abbrev pub IsNegatable : ℤ → Type 0
IsNegatable z = (neg_ℤ (pos (2 ^ 126)) ≤ℤ z) × (z ≤ℤ pos (2 ^ 126))

abbrev pub IsNegatableTerm : Term → Type 0
IsNegatableTerm (Int z) = IsNegatable z
IsNegatableTerm (Truth t) = Unit {0}
IsNegatableTerm (Var v) = Unit {0}
