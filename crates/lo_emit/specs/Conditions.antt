-- What states a condition, and what tells whether it is met (XCSP3-core, "Semantics of conditions"; MiniZinc Handbook,
-- "FlatZinc builtins"). No number is in an empty set.
use Rattle.std.specs.Prelude.{ℕ, ◌+◌, ℤ, pos, negsuc, List, [], ◌∷◌, ◌++◌, Bool, true, false}
use Rattle.fz_model.specs.Calls.{call_of}
use Rattle.fz_model.specs.declared.builtin.Builtin.TheVariants.{BoolNot, IntEqReif, IntNeReif, IntLeReif, IntLtReif, SetIn}
use Rattle.fz_model.specs.declared.model.Arg.TheVariants as arg
use Rattle.lo_base.specs.Item.{Item, Posted}
use Rattle.lo_emit.specs.declared.compare.Relation.{Relation}
use Rattle.lo_emit.specs.declared.compare.Relation.TheVariants as relation
use Rattle.lo_emit.specs.declared.term.Term.{Term}
use Rattle.lo_emit.specs.declared.term.Term.TheVariants.{Int, Truth, Var}
use Rattle.lo_emit.specs.Compare.{compare_call}
use Rattle.lo_emit.specs.Emitted.{Out, arg_of, standing, after, integer_of_sum, truth_of_one, truth_of_two, truth_of_set, truth_of_range, clause}
use Rattle.lo_emit.specs.Sums.{sum_call, IsNegatableTerm}
use Rattle.xf_num.specs.Span.{Bounds}
use Rattle.xs_model.specs.declared.term.Cond.{Cond}
use Rattle.xs_model.specs.declared.term.Cond.TheVariants.{Lt, Le, Ge, Gt, Ne, Eq, InSpan, OutSpan, InSet, OutSet}
use Rattle.xs_model.specs.declared.term.Term.{Term as Operand}
use Rattle.xs_model.specs.declared.term.Term.TheVariants as operand

-- the term that an integer or a variable of a constraint is
abbrev pub term_of : Operand → Term
term_of (operand.Int z) = Int z
term_of (operand.Var v) = Var v

-- a truth value is not 1
abbrev pub denied : ℕ → Out → List Item
denied n c = c.items ++ Posted (clause [] (c.term ∷ [])) ∷ []

-- a term is in a set, or is not
abbrev pub low_among : Term → List ℤ → List Item
low_among t [] = Posted (clause [] []) ∷ []
low_among t (z ∷ zs) = Posted (call_of SetIn (arg_of t ∷ arg.Set (z ∷ zs) ∷ [])) ∷ []

abbrev pub low_not_among : ℕ → Term → List ℤ → List Item
low_not_among n t [] = []
low_not_among n t (z ∷ zs) = denied n (truth_of_set n t (z ∷ zs))

-- a term meets a condition
abbrev pub low_condition : ℕ → Term → Cond → List Item
low_condition n t (Lt u) = Posted (compare_call relation.Lt t (term_of u)) ∷ []
low_condition n t (Le u) = Posted (compare_call relation.Le t (term_of u)) ∷ []
low_condition n t (Ge u) = Posted (compare_call relation.Ge t (term_of u)) ∷ []
low_condition n t (Gt u) = Posted (compare_call relation.Gt t (term_of u)) ∷ []
low_condition n t (Ne u) = Posted (compare_call relation.Ne t (term_of u)) ∷ []
low_condition n t (Eq u) = Posted (compare_call relation.Eq t (term_of u)) ∷ []
low_condition n t (InSpan w) = Posted (call_of SetIn (arg_of t ∷ arg.Range w ∷ [])) ∷ []
low_condition n t (OutSpan w) = denied n (truth_of_range n t w)
low_condition n t (InSet zs) = low_among t zs
low_condition n t (OutSet zs) = low_not_among n t zs

-- whether a term is in a set
abbrev pub truth_among : ℕ → Term → List ℤ → Out
truth_among n t [] = standing (Truth false)
truth_among n t (z ∷ zs) = truth_of_set n t (z ∷ zs)

abbrev pub truth_not_among : ℕ → Term → List ℤ → Out
truth_not_among n t [] = standing (Truth true)
truth_not_among n t (z ∷ zs) = after n (truth_of_set n t (z ∷ zs)) (λ k b. truth_of_one k BoolNot b)

-- whether a relation holds
abbrev pub truth_of_relation : Relation → ℕ → Term → Term → Out
truth_of_relation relation.Lt n t u = truth_of_two n IntLtReif t u
truth_of_relation relation.Le n t u = truth_of_two n IntLeReif t u
truth_of_relation relation.Ge n t u = truth_of_two n IntLeReif u t
truth_of_relation relation.Gt n t u = truth_of_two n IntLtReif u t
truth_of_relation relation.Eq n t u = truth_of_two n IntEqReif t u
truth_of_relation relation.Ne n t u = truth_of_two n IntNeReif t u

-- whether a term meets a condition
abbrev pub truth_of_condition : ℕ → Term → Cond → Out
truth_of_condition n t (Lt u) = truth_of_relation relation.Lt n t (term_of u)
truth_of_condition n t (Le u) = truth_of_relation relation.Le n t (term_of u)
truth_of_condition n t (Ge u) = truth_of_relation relation.Ge n t (term_of u)
truth_of_condition n t (Gt u) = truth_of_relation relation.Gt n t (term_of u)
truth_of_condition n t (Ne u) = truth_of_relation relation.Ne n t (term_of u)
truth_of_condition n t (Eq u) = truth_of_relation relation.Eq n t (term_of u)
truth_of_condition n t (InSpan w) = truth_of_range n t w
truth_of_condition n t (OutSpan w) = after n (truth_of_range n t w) (λ k b. truth_of_one k BoolNot b)
truth_of_condition n t (InSet zs) = truth_among n t zs
truth_of_condition n t (OutSet zs) = truth_not_among n t zs

-- a new integer of the bounds w, which is the sum
abbrev pub integer_sum : ℕ → Bounds → List ℤ → List Term → Out
integer_sum n w cs ts = integer_of_sum n w (cs ++ negsuc 0 ∷ []) ts (pos 0)

-- the new integer is the sum, and meets the condition
abbrev pub low_sum_as_integer : ℕ → Bounds → List ℤ → List Term → Cond → List Item
low_sum_as_integer n w cs ts cond = (integer_sum n w cs ts).items ++ low_condition (n + 1) (Var n) cond

-- a sum of products, whose bounds are w, meets a condition
abbrev pub low_sum : ℕ → Bounds → List ℤ → List Term → Cond → List Item
low_sum n w cs ts (Lt u) = Posted (sum_call relation.Lt cs ts (term_of u)) ∷ []
low_sum n w cs ts (Le u) = Posted (sum_call relation.Le cs ts (term_of u)) ∷ []
low_sum n w cs ts (Ge u) = Posted (sum_call relation.Ge cs ts (term_of u)) ∷ []
low_sum n w cs ts (Gt u) = Posted (sum_call relation.Gt cs ts (term_of u)) ∷ []
low_sum n w cs ts (Ne u) = Posted (sum_call relation.Ne cs ts (term_of u)) ∷ []
low_sum n w cs ts (Eq u) = Posted (sum_call relation.Eq cs ts (term_of u)) ∷ []
low_sum n w cs ts (InSpan r) = low_sum_as_integer n w cs ts (InSpan r)
low_sum n w cs ts (OutSpan r) = low_sum_as_integer n w cs ts (OutSpan r)
low_sum n w cs ts (InSet zs) = low_sum_as_integer n w cs ts (InSet zs)
low_sum n w cs ts (OutSet zs) = low_sum_as_integer n w cs ts (OutSet zs)

-- the integer that a condition compares with can be negated, and one taken from it
abbrev pub IsNegatableOperand : Cond → Type 0
IsNegatableOperand (Lt u) = IsNegatableTerm (term_of u)
IsNegatableOperand (Le u) = IsNegatableTerm (term_of u)
IsNegatableOperand (Ge u) = IsNegatableTerm (term_of u)
IsNegatableOperand (Gt u) = IsNegatableTerm (term_of u)
IsNegatableOperand (Ne u) = IsNegatableTerm (term_of u)
IsNegatableOperand (Eq u) = IsNegatableTerm (term_of u)
IsNegatableOperand cond = Unit {0}
