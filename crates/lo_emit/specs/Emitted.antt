-- What stands for a number in a call, and the calls that give a new variable its value (MiniZinc Handbook,
-- "FlatZinc builtins").
use Rattle.std.specs.Prelude.{ℕ, ◌+◌, ℤ, List, [], ◌∷◌, ◌++◌, map, pos}
use Rattle.fz_model.specs.Calls.{call_of}
use Rattle.fz_model.specs.declared.builtin.Builtin.{Builtin}
use Rattle.fz_model.specs.declared.builtin.Builtin.TheVariants.{IntLinEq, IntLinLeReif, ArrayIntElement, ArrayVarIntElement, SetInReif, BoolClause, Bool2Int}
use Rattle.fz_model.specs.declared.model.Arg.{Arg}
use Rattle.fz_model.specs.declared.model.Arg.TheVariants as arg
use Rattle.fz_model.specs.declared.model.Call.{Call}
use Rattle.lo_base.specs.Item.{Item, Ranged, Boolean, Posted, made}
use Rattle.lo_emit.specs.declared.term.Term.{Term}
use Rattle.lo_emit.specs.declared.term.Term.TheVariants.{Int, Truth, Var}
use Rattle.xf_num.specs.Span.{Bounds}

-- the items that are appended, and what stands for the number
pub record Out : Type 0 where
  pub items : List Item
  pub term : Term

-- the same of several
pub record Outs : Type 0 where
  pub items : List Item
  pub terms : List Term

abbrev pub arg_of : Term → Arg
arg_of (Int z) = arg.Int z
arg_of (Truth t) = arg.Bool t
arg_of (Var v) = arg.Var v

abbrev pub list_of : List Term → Arg
list_of ts = arg.List (map arg_of ts)

abbrev pub constants_of : List ℤ → Arg
constants_of zs = arg.List (map arg.Int zs)

-- no items
abbrev pub standing : Term → Out
standing t = record { items = []; term = t }

-- what comes behind, over the next variable and what stands so far
abbrev pub after : ℕ → Out → (ℕ → Term → Out) → Out
after n c f = record {
  items = c.items ++ (f (n + made c.items) c.term).items;
  term = (f (n + made c.items) c.term).term;
}

abbrev pub after_all : ℕ → Outs → (ℕ → List Term → Out) → Out
after_all n c f = record {
  items = c.items ++ (f (n + made c.items) c.terms).items;
  term = (f (n + made c.items) c.terms).term;
}

-- a new integer n of these bounds, and the call that gives it its value
abbrev pub integer : ℕ → Bounds → Call → Out
integer n w call = record { items = Ranged w.lo w.hi ∷ Posted call ∷ []; term = Var n }

abbrev pub integer_of_one : ℕ → Bounds → Builtin → Term → Out
integer_of_one n w i x = integer n w (call_of i (arg_of x ∷ arg.Var n ∷ []))

abbrev pub integer_of_two : ℕ → Bounds → Builtin → Term → Term → Out
integer_of_two n w i x y = integer n w (call_of i (arg_of x ∷ arg_of y ∷ arg.Var n ∷ []))

-- the least or the greatest
abbrev pub integer_of_list : ℕ → Bounds → Builtin → List Term → Out
integer_of_list n w i xs = integer n w (call_of i (arg.Var n ∷ list_of xs ∷ []))

-- a sum with these coefficients, the last of them that of the new variable, is a constant
abbrev pub integer_of_sum : ℕ → Bounds → List ℤ → List Term → ℤ → Out
integer_of_sum n w cs xs c = integer n w (call_of IntLinEq (constants_of cs ∷ list_of (xs ++ Var n ∷ []) ∷ arg.Int c ∷ []))

-- the member at a place
abbrev pub integer_of_place : ℕ → Bounds → Term → List Term → Out
integer_of_place n w k xs = integer n w (call_of ArrayVarIntElement (arg_of k ∷ list_of xs ∷ arg.Var n ∷ []))

-- the same of constants
abbrev pub integer_of_constants : ℕ → Bounds → Term → List ℤ → Out
integer_of_constants n w k zs = integer n w (call_of ArrayIntElement (arg_of k ∷ constants_of zs ∷ arg.Var n ∷ []))

-- a new integer of one value
abbrev pub integer_of_value : ℕ → ℤ → Out
integer_of_value n z = record { items = Ranged z z ∷ []; term = Var n }

-- 0 and 1
abbrev pub truth_values : Bounds
truth_values = record { lo = pos 0; hi = pos 1 }

-- the integer that a truth value is
abbrev pub integer_of_truth : ℕ → Term → Out
integer_of_truth n t = integer_of_one n truth_values Bool2Int t

-- a new Boolean n, and the call that gives it its value
abbrev pub boolean : ℕ → Call → Out
boolean n call = record { items = Boolean ∷ Posted call ∷ []; term = Var n }

abbrev pub truth_of_one : ℕ → Builtin → Term → Out
truth_of_one n i x = boolean n (call_of i (arg_of x ∷ arg.Var n ∷ []))

abbrev pub truth_of_two : ℕ → Builtin → Term → Term → Out
truth_of_two n i x y = boolean n (call_of i (arg_of x ∷ arg_of y ∷ arg.Var n ∷ []))

abbrev pub truth_of_list : ℕ → Builtin → List Term → Out
truth_of_list n i xs = boolean n (call_of i (list_of xs ∷ arg.Var n ∷ []))

abbrev pub truth_of_set : ℕ → Term → List ℤ → Out
truth_of_set n x zs = boolean n (call_of SetInReif (arg_of x ∷ arg.Set zs ∷ arg.Var n ∷ []))

-- whether a term lies in a range
abbrev pub truth_of_range : ℕ → Term → Bounds → Out
truth_of_range n x w = boolean n (call_of SetInReif (arg_of x ∷ arg.Range w ∷ arg.Var n ∷ []))

-- whether a sum of products is at most a constant
abbrev pub truth_of_sum : ℕ → List ℤ → List Term → ℤ → Out
truth_of_sum n cs xs c = boolean n (call_of IntLinLeReif (constants_of cs ∷ list_of xs ∷ arg.Int c ∷ arg.Var n ∷ []))

-- the truth value that a number is
abbrev pub truth_of_number : ℕ → Term → Out
truth_of_number n x = boolean n (call_of Bool2Int (arg.Var n ∷ arg_of x ∷ []))

-- one of the first is true, or one of the second is false
abbrev pub clause : List Term → List Term → Call
clause ps ns = call_of BoolClause (list_of ps ∷ list_of ns ∷ [])
