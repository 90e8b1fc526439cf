-- The builtins' names.
use Rattle.std.specs.Prelude.{ℕ, List, [], ◌∷◌, codes, Option, Some, None, if◌then◌else◌}
use Rattle.std.specs.Str.{bytes_eq}
use Rattle.fz_model.specs.declared.builtin.Builtin.{Builtin}
use Rattle.fz_model.specs.declared.builtin.Builtin.TheVariants.{IntLinEq, IntLinNe, IntLinLe, IntLinEqReif, IntLinNeReif, IntLinLeReif, IntEq, IntNe, IntLe, IntLt, IntEqReif, IntNeReif, IntLeReif, IntLtReif, IntAbs, IntPlus, IntTimes, IntDiv, IntMod, IntMin, IntMax, ArrayIntMinimum, ArrayIntMaximum, ArrayIntElement, ArrayVarIntElement, ArrayBoolElement, ArrayVarBoolElement, Bool2Int, BoolEq, BoolLe, BoolLt, BoolEqReif, BoolLeReif, BoolLtReif, BoolNot, BoolAnd, BoolOr, BoolXor, BoolClause, BoolClauseReif, ArrayBoolAnd, ArrayBoolOr, ArrayBoolXor, BoolLinEq, BoolLinLe, SetIn, SetInReif}

abbrev pub name_of : Builtin → List ℕ
name_of IntLinEq = codes "int_lin_eq"
name_of IntLinNe = codes "int_lin_ne"
name_of IntLinLe = codes "int_lin_le"
name_of IntLinEqReif = codes "int_lin_eq_reif"
name_of IntLinNeReif = codes "int_lin_ne_reif"
name_of IntLinLeReif = codes "int_lin_le_reif"
name_of IntEq = codes "int_eq"
name_of IntNe = codes "int_ne"
name_of IntLe = codes "int_le"
name_of IntLt = codes "int_lt"
name_of IntEqReif = codes "int_eq_reif"
name_of IntNeReif = codes "int_ne_reif"
name_of IntLeReif = codes "int_le_reif"
name_of IntLtReif = codes "int_lt_reif"
name_of IntAbs = codes "int_abs"
name_of IntPlus = codes "int_plus"
name_of IntTimes = codes "int_times"
name_of IntDiv = codes "int_div"
name_of IntMod = codes "int_mod"
name_of IntMin = codes "int_min"
name_of IntMax = codes "int_max"
name_of ArrayIntMinimum = codes "array_int_minimum"
name_of ArrayIntMaximum = codes "array_int_maximum"
name_of ArrayIntElement = codes "array_int_element"
name_of ArrayVarIntElement = codes "array_var_int_element"
name_of ArrayBoolElement = codes "array_bool_element"
name_of ArrayVarBoolElement = codes "array_var_bool_element"
name_of Bool2Int = codes "bool2int"
name_of BoolEq = codes "bool_eq"
name_of BoolLe = codes "bool_le"
name_of BoolLt = codes "bool_lt"
name_of BoolEqReif = codes "bool_eq_reif"
name_of BoolLeReif = codes "bool_le_reif"
name_of BoolLtReif = codes "bool_lt_reif"
name_of BoolNot = codes "bool_not"
name_of BoolAnd = codes "bool_and"
name_of BoolOr = codes "bool_or"
name_of BoolXor = codes "bool_xor"
name_of BoolClause = codes "bool_clause"
name_of BoolClauseReif = codes "bool_clause_reif"
name_of ArrayBoolAnd = codes "array_bool_and"
name_of ArrayBoolOr = codes "array_bool_or"
name_of ArrayBoolXor = codes "array_bool_xor"
name_of BoolLinEq = codes "bool_lin_eq"
name_of BoolLinLe = codes "bool_lin_le"
name_of SetIn = codes "set_in"
name_of SetInReif = codes "set_in_reif"

abbrev pub all : List Builtin
all = IntLinEq ∷ IntLinNe ∷ IntLinLe ∷ IntLinEqReif ∷ IntLinNeReif ∷ IntLinLeReif ∷ IntEq ∷ IntNe ∷ IntLe ∷ IntLt ∷ IntEqReif ∷ IntNeReif ∷ IntLeReif ∷ IntLtReif ∷ IntAbs ∷ IntPlus ∷ IntTimes ∷ IntDiv ∷ IntMod ∷ IntMin ∷ IntMax ∷ ArrayIntMinimum ∷ ArrayIntMaximum ∷ ArrayIntElement ∷ ArrayVarIntElement ∷ ArrayBoolElement ∷ ArrayVarBoolElement ∷ Bool2Int ∷ BoolEq ∷ BoolLe ∷ BoolLt ∷ BoolEqReif ∷ BoolLeReif ∷ BoolLtReif ∷ BoolNot ∷ BoolAnd ∷ BoolOr ∷ BoolXor ∷ BoolClause ∷ BoolClauseReif ∷ ArrayBoolAnd ∷ ArrayBoolOr ∷ ArrayBoolXor ∷ BoolLinEq ∷ BoolLinLe ∷ SetIn ∷ SetInReif ∷ []

-- the builtin with that name
abbrev pub look_up : List Builtin → List ℕ → Option Builtin
look_up [] name = None
look_up (b ∷ bs) name = if bytes_eq (name_of b) name then Some b else look_up bs name

abbrev pub by_name : List ℕ → Option Builtin
by_name = look_up all
