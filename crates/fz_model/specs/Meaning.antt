-- What a call of each builtin means (MiniZinc Handbook, "FlatZinc builtins"), at a list of the values of all variables.
-- Truth values are 0 and 1.
use Rattle.std.specs.Prelude.{◌≡◌, ℕ, ◌-◌, ℤ, pos, ◌+ℤ◌, ◌*ℤ◌, nat_abs, int_le, int_lt, int_div, int_rem, Bool as Truth, true, false, not, ◌&&◌, ◌||◌, List, [], ◌∷◌, length, map, get_or}
use Rattle.std.specs.List.{list_any, list_all}
use Rattle.std.specs.Ordering.{int_eq}
use Rattle.std.specs.Int.{int_min, int_max}
use Rattle.fz_model.specs.declared.builtin.Builtin.{Builtin}
use Rattle.fz_model.specs.declared.builtin.Builtin.TheVariants.{IntLinEq, IntLinNe, IntLinLe, IntLinEqReif, IntLinNeReif, IntLinLeReif, IntEq, IntNe, IntLe, IntLt, IntEqReif, IntNeReif, IntLeReif, IntLtReif, IntAbs, IntPlus, IntTimes, IntDiv, IntMod, IntMin, IntMax, ArrayIntMinimum, ArrayIntMaximum, ArrayIntElement, ArrayVarIntElement, ArrayBoolElement, ArrayVarBoolElement, Bool2Int, BoolEq, BoolLe, BoolLt, BoolEqReif, BoolLeReif, BoolLtReif, BoolNot, BoolAnd, BoolOr, BoolXor, BoolClause, BoolClauseReif, ArrayBoolAnd, ArrayBoolOr, ArrayBoolXor, BoolLinEq, BoolLinLe, SetIn, SetInReif}
use Rattle.fz_model.specs.declared.model.Arg.{Arg, out-Arg}
use Rattle.fz_model.specs.declared.model.Arg.TheOpen.{Arg-F, Int, Bool, Var, Range, Set, List as Listed}
use Rattle.fz_model.specs.declared.model.Call.{Call}

-- the value of variable k
abbrev pub at : List ℤ → ℕ → ℤ
at b k = get_or b k (pos 0)

abbrev pub truth : Truth → ℤ
truth true = pos 1
truth false = pos 0

-- the number that an argument stands for; 0 for a set and for a list
abbrev pub number_of : List ℤ → Arg-F Arg → ℤ
number_of b (Int k) = k
number_of b (Bool t) = truth t
number_of b (Var v) = at b v
number_of b (Range s) = pos 0
number_of b (Set s) = pos 0
number_of b (Listed xs) = pos 0

abbrev pub number : List ℤ → Arg → ℤ
number b a = number_of b (out-Arg a)

-- the members of a list; none for another argument
abbrev pub members_of : Arg-F Arg → List Arg
members_of (Int k) = []
members_of (Bool t) = []
members_of (Var v) = []
members_of (Range s) = []
members_of (Set s) = []
members_of (Listed xs) = xs

abbrev pub members : Arg → List Arg
members a = members_of (out-Arg a)

-- the numbers that the members of a list stand for
abbrev pub numbers : List ℤ → Arg → List ℤ
numbers b a = map (number b) (members a)

-- whether a set has v as a member; another argument has none
abbrev pub has_of : Arg-F Arg → ℤ → Truth
has_of (Int k) v = false
has_of (Bool t) v = false
has_of (Var w) v = false
has_of (Range s) v = int_le s.lo v && int_le v s.hi
has_of (Set s) v = list_any (int_eq v) s
has_of (Listed xs) v = false

abbrev pub has : Arg → ℤ → Truth
has a = has_of (out-Arg a)

-- all that a builtin can ask of an argument
pub record Worth : Type 0 where
  pub number : ℤ
  pub numbers : List ℤ
  pub has : ℤ → Truth

abbrev pub worth : List ℤ → Arg → Worth
worth b a = record { number = number b a; numbers = numbers b a; has = has a }

-- the sum of the products, place by place
abbrev pub dot : List ℤ → List ℤ → ℤ
dot [] xs = pos 0
dot (c ∷ cs) [] = pos 0
dot (c ∷ cs) (x ∷ xs) = (c *ℤ x) +ℤ dot cs xs

abbrev pub is_one : ℤ → Truth
is_one x = int_eq (pos 1) x

abbrev pub is_zero : ℤ → Truth
is_zero x = int_eq (pos 0) x

-- some of the first are true, or some of the second are false
abbrev pub clause : List ℤ → List ℤ → Truth
clause ps ns = list_any is_one ps || list_any is_zero ns

abbrev pub differ : Truth → Truth → Truth
differ true t = not t
differ false t = t

-- an odd number of them are true
abbrev pub is_odd : List ℤ → Truth
is_odd [] = false
is_odd (x ∷ xs) = differ (is_one x) (is_odd xs)

-- m is one of them, and none is less
abbrev pub is_least : ℤ → List ℤ → Truth
is_least m xs = list_any (int_eq m) xs && list_all (int_le m) xs

-- m is one of them, and none is greater
abbrev pub is_greatest : ℤ → List ℤ → Truth
is_greatest m xs = list_any (int_eq m) xs && list_all (λ x. int_le x m) xs

-- c is the member at place i, counted from 1
abbrev pub is_element : ℤ → List ℤ → ℤ → Truth
is_element i xs c = (int_le (pos 1) i && int_le i (pos (length xs))) && int_eq (get_or xs (nat_abs i - 1) (pos 0)) c

-- d is not 0 and q is a / d, rounded towards 0
abbrev pub is_quotient : ℤ → ℤ → ℤ → Truth
is_quotient a d q = not (is_zero d) && int_eq (int_div a d) q

-- d is not 0 and m is the remainder of a / d, which has the sign of a
abbrev pub is_remainder : ℤ → ℤ → ℤ → Truth
is_remainder a d m = not (is_zero d) && int_eq (int_rem a d) m

-- r is the truth of the test
abbrev pub is_truth : Worth → Truth → Truth
is_truth r t = int_eq r.number (truth t)

-- the rows with one argument
abbrev pub row_of_one : Builtin → Worth → Truth
row_of_one ArrayBoolXor xs = is_odd xs.numbers
row_of_one _ xs = false

-- the rows with two arguments
abbrev pub row_of_two : Builtin → Worth → Worth → Truth
row_of_two IntEq x y = int_eq x.number y.number
row_of_two IntNe x y = not (int_eq x.number y.number)
row_of_two IntLe x y = int_le x.number y.number
row_of_two IntLt x y = int_lt x.number y.number
row_of_two IntAbs x y = int_eq (pos (nat_abs x.number)) y.number
row_of_two ArrayIntMinimum m xs = is_least m.number xs.numbers
row_of_two ArrayIntMaximum m xs = is_greatest m.number xs.numbers
row_of_two Bool2Int x y = int_eq x.number y.number
row_of_two BoolEq x y = int_eq x.number y.number
row_of_two BoolLe x y = int_le x.number y.number
row_of_two BoolLt x y = int_lt x.number y.number
row_of_two BoolNot x y = not (int_eq x.number y.number)
row_of_two BoolXor x y = not (int_eq x.number y.number)
row_of_two BoolClause ps ns = clause ps.numbers ns.numbers
row_of_two ArrayBoolAnd xs r = is_truth r (list_all is_one xs.numbers)
row_of_two ArrayBoolOr xs r = is_truth r (list_any is_one xs.numbers)
row_of_two SetIn x s = s.has x.number
row_of_two _ x y = false

-- the `_reif` rows with three arguments
abbrev pub reified_of_three : Builtin → Worth → Worth → Worth → Truth
reified_of_three IntEqReif x y r = is_truth r (row_of_two IntEq x y)
reified_of_three IntNeReif x y r = is_truth r (row_of_two IntNe x y)
reified_of_three IntLeReif x y r = is_truth r (row_of_two IntLe x y)
reified_of_three IntLtReif x y r = is_truth r (row_of_two IntLt x y)
reified_of_three BoolEqReif x y r = is_truth r (row_of_two BoolEq x y)
reified_of_three BoolLeReif x y r = is_truth r (row_of_two BoolLe x y)
reified_of_three BoolLtReif x y r = is_truth r (row_of_two BoolLt x y)
reified_of_three BoolClauseReif x y r = is_truth r (row_of_two BoolClause x y)
reified_of_three SetInReif x y r = is_truth r (row_of_two SetIn x y)
reified_of_three _ x y r = false

-- the rows with three arguments
abbrev pub row_of_three : Builtin → Worth → Worth → Worth → Truth
row_of_three IntLinEq cs xs k = int_eq (dot cs.numbers xs.numbers) k.number
row_of_three IntLinNe cs xs k = not (int_eq (dot cs.numbers xs.numbers) k.number)
row_of_three IntLinLe cs xs k = int_le (dot cs.numbers xs.numbers) k.number
row_of_three IntPlus x y z = int_eq (x.number +ℤ y.number) z.number
row_of_three IntTimes x y z = int_eq (x.number *ℤ y.number) z.number
row_of_three IntDiv x y z = is_quotient x.number y.number z.number
row_of_three IntMod x y z = is_remainder x.number y.number z.number
row_of_three IntMin x y z = int_eq (int_min x.number y.number) z.number
row_of_three IntMax x y z = int_eq (int_max x.number y.number) z.number
row_of_three ArrayIntElement i xs c = is_element i.number xs.numbers c.number
row_of_three ArrayVarIntElement i xs c = is_element i.number xs.numbers c.number
row_of_three ArrayBoolElement i xs c = is_element i.number xs.numbers c.number
row_of_three ArrayVarBoolElement i xs c = is_element i.number xs.numbers c.number
row_of_three BoolAnd x y r = is_truth r (is_one x.number && is_one y.number)
row_of_three BoolOr x y r = is_truth r (is_one x.number || is_one y.number)
row_of_three BoolXor x y r = is_truth r (row_of_two BoolXor x y)
row_of_three BoolLinEq cs xs k = int_eq (dot cs.numbers xs.numbers) k.number
row_of_three BoolLinLe cs xs k = int_le (dot cs.numbers xs.numbers) k.number
row_of_three i x y z = reified_of_three i x y z

-- the rows with four arguments
abbrev pub row_of_four : Builtin → Worth → Worth → Worth → Worth → Truth
row_of_four IntLinEqReif cs xs k r = is_truth r (row_of_three IntLinEq cs xs k)
row_of_four IntLinNeReif cs xs k r = is_truth r (row_of_three IntLinNe cs xs k)
row_of_four IntLinLeReif cs xs k r = is_truth r (row_of_three IntLinLe cs xs k)
row_of_four _ x y z r = false

-- the row of a builtin; false for a number of arguments that it does not have
abbrev pub row_of : Builtin → List Worth → Truth
row_of i [] = false
row_of i (x ∷ []) = row_of_one i x
row_of i (x ∷ y ∷ []) = row_of_two i x y
row_of i (x ∷ y ∷ z ∷ []) = row_of_three i x y z
row_of i (x ∷ y ∷ z ∷ r ∷ []) = row_of_four i x y z r
row_of i (x ∷ y ∷ z ∷ r ∷ s ∷ ws) = false

abbrev pub HoldsAt : List ℤ → Builtin → List Arg → Type 0
HoldsAt b i args = row_of i (map (worth b) args) ≡ true

-- the call is true where the variables have the values b
unfoldable pub CallHolds : List ℤ → Call → Type 0
CallHolds b call = HoldsAt b call.builtin call.args
