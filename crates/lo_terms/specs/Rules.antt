-- What each operator is lowered to, behind its operands, where n is the next variable (XCSP3-core, the operators of
-- expressions; MiniZinc Handbook, "FlatZinc builtins"). The bounds w are those of the node. Where an operator has
-- more or fewer operands than it takes, what is said has no meaning.
use Rattle.std.specs.Prelude.{ℕ, zero, suc, ◌+◌, ◌==◌, ℤ, pos, negsuc, int_le, List, [], ◌∷◌, ◌++◌, length, map, slice_index_or, Bool, true, false, if◌then◌else◌}
use Rattle.fz_model.specs.Calls.{call_of}
use Rattle.fz_model.specs.declared.builtin.Builtin.{Builtin}
use Rattle.fz_model.specs.declared.builtin.Builtin.TheVariants.{IntEq, IntNe, IntLe, IntLt, IntEqReif, IntNeReif, IntLeReif, IntLtReif, IntAbs, IntTimes, IntDiv, IntMod, ArrayIntMinimum, ArrayIntMaximum, Bool2Int, BoolEqReif, BoolLeReif, BoolNot, BoolXor, ArrayBoolAnd, ArrayBoolOr, SetIn}
use Rattle.fz_model.specs.declared.model.Arg.TheVariants as arg
use Rattle.lo_base.specs.Item.{Item, Posted}
use Rattle.lo_emit.specs.Emitted.{Out, Outs, arg_of, standing, after, after_all, integer_of_one, integer_of_two, integer_of_list, integer_of_sum, integer_of_place, truth_of_one, truth_of_two, truth_of_list, truth_of_set, truth_of_number, clause}
use Rattle.lo_terms.specs.Emitted.{kept}
use Rattle.lo_terms.specs.declared.term.Mode.{Mode}
use Rattle.lo_terms.specs.declared.term.Mode.TheVariants.{Number, Logic, Stated}
use Rattle.lo_terms.specs.declared.term.Operand.{Operand}
use Rattle.lo_emit.specs.declared.term.Term.{Term}
use Rattle.lo_emit.specs.declared.term.Term.TheVariants.{Int, Truth, Var}
use Rattle.xf_num.specs.Span.{Bounds, sub_ends, mul_ends, pow_ends}
use Rattle.xs_model.specs.Bounds.{exactly, truths}
use Rattle.xs_model.specs.declared.expr.Op.{Op}
use Rattle.xs_model.specs.declared.expr.Op.TheVariants.{Neg, Abs, Sqr, Add, Mul, Sub, Dist, Div, Mod, Pow, Min, Max, Lt, Le, Gt, Ge, Ne, Eq, Set, In, NotIn, Not, And, Or, Xor, Iff, Imp, If}

abbrev pub terms_of : List Operand → List Term
terms_of os = map (λ o. o.term) os

-- operand k
abbrev pub operand_at : List Operand → ℕ → Operand
operand_at os k = slice_index_or os k (record { term = Int (pos 0); span = exactly (pos 0) })

abbrev pub term_at : List Operand → ℕ → Term
term_at os k = (operand_at os k).term

abbrev pub minus_one : ℤ
minus_one = negsuc 0

-- as many ones as operands, and then the new variable's coefficient
abbrev pub sum_coefficients : List Operand → List ℤ
sum_coefficients os = map (λ o. pos 1) os ++ (minus_one ∷ [])

abbrev pub difference : ℕ → Bounds → Term → Term → Out
difference n w x y = integer_of_sum n w (pos 1 ∷ minus_one ∷ minus_one ∷ []) (x ∷ y ∷ []) (pos 0)

abbrev pub distance : ℕ → Bounds → Operand → Operand → Out
distance n w x y = after n (difference n (kept (sub_ends x.span y.span)) x.term y.term) (λ k d. integer_of_one k w IntAbs d)

-- the product with each of these, from the left; the first is what stands so far
abbrev pub product : ℕ → Operand → List Operand → Out
product n so_far [] = standing so_far.term
product n so_far (o ∷ os) =
    let w = kept (mul_ends so_far.span o.span) in
    record {
      items = (integer_of_two n w IntTimes so_far.term o.term).items ++ (product (n + 1) (record { term = Var n; span = w }) os).items;
      term = (product (n + 1) (record { term = Var n; span = w }) os).term;
    }

abbrev pub product_of : ℕ → List Operand → Out
product_of n [] = standing (Int (pos 0))
product_of n (o ∷ os) = product n o os

-- one step: the power j of x, whose bounds are w, and what comes behind it
abbrev pub next_power : ℕ → Bounds → Term → Term → ℕ → Out → Out
next_power n w x so_far j rest = record {
  items = (integer_of_two n (kept (pow_ends w j)) IntTimes so_far x).items ++ rest.items;
  term = rest.term;
}

-- so many steps more, the next of which is the power j
abbrev pub powers : ℕ → Bounds → Term → Term → ℕ → ℕ → Out
powers n w x so_far j zero = standing so_far
powers n w x so_far j (suc left) = next_power n w x so_far j (powers (n + 1) w x (Var n) (j + 1) left)

-- how many steps there are to a power: its exponent is a literal from 1 to 64
abbrev pub steps_of : ℤ → ℕ
steps_of (pos zero) = 0
steps_of (pos (suc k)) = if int_le (pos k) (pos 63) then k else 0
steps_of (negsuc k) = 0

abbrev pub steps_to : Term → ℕ
steps_to (Int z) = steps_of z
steps_to (Truth t) = 0
steps_to (Var v) = 0

abbrev pub power_of : ℕ → Operand → Term → Out
power_of n base exponent = powers n base.span base.term base.term 2 (steps_to exponent)

-- the second where the truth value is 1, else the third
abbrev pub choice : ℕ → Bounds → Term → Term → Term → Out
choice n w g x y =
    after n
    (after n (integer_of_one n truths Bool2Int g) (λ k z. integer_of_sum k (record { lo = pos 1; hi = pos 2 }) (pos 1 ∷ pos 1 ∷ []) (z ∷ []) (pos 2)))
    (λ k place. integer_of_place k w place (x ∷ y ∷ []))

abbrev pub choice_of : ℕ → Bounds → List Operand → Out
choice_of n w os = choice n w (term_at os 0) (term_at os 1) (term_at os 2)

-- whether each equals the one before it
abbrev pub equalities : ℕ → Term → List Term → Outs
equalities n x [] = record { items = []; terms = [] }
equalities n x (y ∷ ys) = record {
  items = (truth_of_two n IntEqReif x y).items ++ (equalities (n + 1) y ys).items;
  terms = Var n ∷ (equalities (n + 1) y ys).terms;
}

abbrev pub all_equal : ℕ → Term → List Term → Out
all_equal n x ys = after_all n (equalities n x ys) (λ k bs. truth_of_list k ArrayBoolAnd bs)

-- two are compared by one call
abbrev pub equal_to : ℕ → Term → List Term → Out
equal_to n x ys = if length ys == 1 then truth_of_two n IntEqReif x (slice_index_or ys 0 x) else all_equal n x ys

abbrev pub equal : ℕ → List Term → Out
equal n [] = standing (Truth true)
equal n (x ∷ ys) = equal_to n x ys

-- whether x equals each of these
abbrev pub comparisons : ℕ → Term → List Term → Outs
comparisons n x [] = record { items = []; terms = [] }
comparisons n x (m ∷ ms) = record {
  items = (truth_of_two n IntEqReif x m).items ++ (comparisons (n + 1) x ms).items;
  terms = Var n ∷ (comparisons (n + 1) x ms).terms;
}

abbrev pub integer_term : Term → ℤ
integer_term (Int z) = z
integer_term (Truth t) = pos 0
integer_term (Var v) = pos 0

-- whether x is one of these integers
abbrev pub written_member : ℕ → Term → List ℤ → Out
written_member n x [] = standing (Truth false)
written_member n x (z ∷ zs) = truth_of_set n x (z ∷ zs)

abbrev pub some_equal : ℕ → Term → List Term → Out
some_equal n x ms = after_all n (comparisons n x ms) (λ k bs. truth_of_list k ArrayBoolOr bs)

-- whether the first is among the others, which are all integers as written, or not
abbrev pub member_among : Bool → ℕ → Term → List Term → Out
member_among true n x ms = written_member n x (map integer_term ms)
member_among false n x ms = some_equal n x ms

abbrev pub member : Bool → ℕ → List Term → Out
member written n [] = standing (Truth false)
member written n (x ∷ ms) = member_among written n x ms

abbrev pub no_member : Bool → ℕ → List Term → Out
no_member written n ts = after n (member written n ts) (λ k b. truth_of_one k BoolNot b)

-- whether an odd number is true, from the left
abbrev pub parity : ℕ → Term → List Term → Out
parity n so_far [] = standing so_far
parity n so_far (t ∷ ts) = record {
  items = (truth_of_two n BoolXor so_far t).items ++ (parity (n + 1) (Var n) ts).items;
  term = (parity (n + 1) (Var n) ts).term;
}

abbrev pub parity_of : ℕ → List Term → Out
parity_of n [] = standing (Truth false)
parity_of n (t ∷ ts) = parity n t ts

-- what an operator that gives a number makes of its operands
abbrev pub other_number : Op → Bounds → ℕ → List Operand → Out
other_number Div w n os = integer_of_two n w IntDiv (term_at os 0) (term_at os 1)
other_number Mod w n os = integer_of_two n w IntMod (term_at os 0) (term_at os 1)
other_number Min w n os = integer_of_list n w ArrayIntMinimum (terms_of os)
other_number Max w n os = integer_of_list n w ArrayIntMaximum (terms_of os)
other_number If w n os = choice_of n w os
other_number op w n os = standing (Int (pos 0))

abbrev pub number_node : Op → Bounds → ℕ → List Operand → Out
number_node Neg w n os = integer_of_sum n w (pos 1 ∷ pos 1 ∷ []) (term_at os 0 ∷ []) (pos 0)
number_node Abs w n os = integer_of_one n w IntAbs (term_at os 0)
number_node Sqr w n os = integer_of_two n w IntTimes (term_at os 0) (term_at os 0)
number_node Add w n os = integer_of_sum n w (sum_coefficients os) (terms_of os) (pos 0)
number_node Sub w n os = difference n w (term_at os 0) (term_at os 1)
number_node Dist w n os = distance n w (operand_at os 0) (operand_at os 1)
number_node Mul w n os = product_of n os
number_node Pow w n os = power_of n (operand_at os 0) (term_at os 1)
number_node op w n os = other_number op w n os

-- what an operator that gives a truth value makes of its operands
abbrev pub truth_node : Op → Bool → ℕ → List Operand → Out
truth_node Lt written n os = truth_of_two n IntLtReif (term_at os 0) (term_at os 1)
truth_node Le written n os = truth_of_two n IntLeReif (term_at os 0) (term_at os 1)
truth_node Gt written n os = truth_of_two n IntLtReif (term_at os 1) (term_at os 0)
truth_node Ge written n os = truth_of_two n IntLeReif (term_at os 1) (term_at os 0)
truth_node Ne written n os = truth_of_two n IntNeReif (term_at os 0) (term_at os 1)
truth_node Eq written n os = equal n (terms_of os)
truth_node In written n os = member written n (terms_of os)
truth_node NotIn written n os = no_member written n (terms_of os)
truth_node Not written n os = truth_of_one n BoolNot (term_at os 0)
truth_node And written n os = truth_of_list n ArrayBoolAnd (terms_of os)
truth_node Or written n os = truth_of_list n ArrayBoolOr (terms_of os)
truth_node Xor written n os = parity_of n (terms_of os)
truth_node Iff written n os = truth_of_two n BoolEqReif (term_at os 0) (term_at os 1)
truth_node Imp written n os = truth_of_two n BoolLeReif (term_at os 0) (term_at os 1)
truth_node op written n os = standing (Truth false)

-- the operators that give truth values
abbrev pub gives_truth : Op → Bool
gives_truth Neg = false
gives_truth Abs = false
gives_truth Sqr = false
gives_truth Add = false
gives_truth Mul = false
gives_truth Sub = false
gives_truth Dist = false
gives_truth Div = false
gives_truth Mod = false
gives_truth Pow = false
gives_truth Min = false
gives_truth Max = false
gives_truth If = false
gives_truth Set = false
gives_truth op = true

-- a truth value as a number, and a number as a truth value
abbrev pub counted : ℕ → Out → Out
counted n c = after n c (λ k t. integer_of_one k truths Bool2Int t)

abbrev pub tested : ℕ → Out → Out
tested n c = after n c truth_of_number

abbrev pub as_number : Op → Bounds → Bool → ℕ → List Operand → Out
as_number op w written n os = if gives_truth op then counted n (truth_node op written n os) else number_node op w n os

abbrev pub as_truth : Op → Bounds → Bool → ℕ → List Operand → Out
as_truth op w written n os = if gives_truth op then truth_node op written n os else tested n (number_node op w n os)

-- what is stated stands for true
abbrev pub stating : List Item → Out
stating items = record { items = items; term = Truth true }

abbrev pub posting : Builtin → Term → Term → Out
posting i x y = stating (Posted (call_of i (arg_of x ∷ arg_of y ∷ [])) ∷ [])

abbrev pub posting_clause : List Term → List Term → Out
posting_clause ps ns = stating (Posted (clause ps ns) ∷ [])

-- each equals the one before it
abbrev pub stated_equalities : Term → List Term → List Item
stated_equalities x [] = []
stated_equalities x (y ∷ ys) = Posted (call_of IntEq (arg_of x ∷ arg_of y ∷ [])) ∷ stated_equalities y ys

abbrev pub stated_equal : List Term → Out
stated_equal [] = stating []
stated_equal (x ∷ ys) = stating (stated_equalities x ys)

-- a truth value that is stated
abbrev pub asserted : ℕ → Out → Out
asserted n c = after n c (λ k t. posting_clause (t ∷ []) [])

-- the first is one of these integers
abbrev pub stated_written : Term → List ℤ → Out
stated_written x [] = posting_clause (Truth false ∷ []) []
stated_written x (z ∷ zs) = stating (Posted (call_of SetIn (arg_of x ∷ arg.Set (z ∷ zs) ∷ [])) ∷ [])

abbrev pub stated_member_among : Bool → ℕ → Term → List Term → Out
stated_member_among true n x ms = stated_written x (map integer_term ms)
stated_member_among false n x ms = asserted n (some_equal n x ms)

abbrev pub stated_member : Bool → ℕ → List Term → Out
stated_member written n [] = posting_clause (Truth false ∷ []) []
stated_member written n (x ∷ ms) = stated_member_among written n x ms

-- the operands of a stated `and` are stated themselves
abbrev pub stated_node : Op → Bounds → Bool → ℕ → List Operand → Out
stated_node Lt w written n os = posting IntLt (term_at os 0) (term_at os 1)
stated_node Le w written n os = posting IntLe (term_at os 0) (term_at os 1)
stated_node Gt w written n os = posting IntLt (term_at os 1) (term_at os 0)
stated_node Ge w written n os = posting IntLe (term_at os 1) (term_at os 0)
stated_node Ne w written n os = posting IntNe (term_at os 0) (term_at os 1)
stated_node Eq w written n os = stated_equal (terms_of os)
stated_node In w written n os = stated_member written n (terms_of os)
stated_node Not w written n os = posting_clause [] (term_at os 0 ∷ [])
stated_node And w written n os = stating []
stated_node Or w written n os = posting_clause (terms_of os) []
stated_node Imp w written n os = posting_clause (term_at os 1 ∷ []) (term_at os 0 ∷ [])
stated_node op w written n os = asserted n (as_truth op w written n os)

-- a node, in the mode that is asked
abbrev pub node : Op → Mode → Bounds → Bool → ℕ → List Operand → Out
node op Number w written n os = as_number op w written n os
node op Logic w written n os = as_truth op w written n os
node op Stated w written n os = stated_node op w written n os

-- a literal: 0 and 1 are the truth values
abbrev pub literal_truth : ℕ → ℤ → Out
literal_truth n (pos zero) = standing (Truth false)
literal_truth n (pos (suc zero)) = standing (Truth true)
literal_truth n z = truth_of_number n (Int z)

abbrev pub literal : Mode → ℕ → ℤ → Out
literal Number n z = standing (Int z)
literal Logic n z = literal_truth n z
literal Stated n z = asserted n (literal_truth n z)

abbrev pub variable : Mode → ℕ → ℕ → Out
variable Number n v = standing (Var v)
variable Logic n v = truth_of_number n (Var v)
variable Stated n v = asserted n (truth_of_number n (Var v))

-- the mode of operand k
abbrev pub own_mode : Op → ℕ → Mode
own_mode Not k = Logic
own_mode And k = Logic
own_mode Or k = Logic
own_mode Xor k = Logic
own_mode Iff k = Logic
own_mode Imp k = Logic
own_mode If k = if k == 0 then Logic else Number
own_mode op k = Number

abbrev pub operand_mode : Op → Mode → ℕ → Mode
operand_mode And Stated k = Stated
operand_mode op mode k = own_mode op k
