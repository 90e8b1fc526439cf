-- The kinds of the arguments of each builtin (MiniZinc Handbook, "FlatZinc builtins"): `One` value, `Many` in an array, or
-- a constant set; a value is a constant alone, or a constant or a variable.
use Rattle.std.specs.Prelude.{ℕ, ◌==◌, Bool as Truth, true, false, List, [], ◌∷◌, if◌then◌else◌}
use Rattle.fz_model.specs.declared.builtin.Builtin.{Builtin}
use Rattle.fz_model.specs.declared.builtin.Builtin.TheVariants.{IntLinEq, IntLinNe, IntLinLe, IntLinEqReif, IntLinNeReif, IntLinLeReif, IntEq, IntNe, IntLe, IntLt, IntEqReif, IntNeReif, IntLeReif, IntLtReif, IntAbs, IntPlus, IntTimes, IntDiv, IntMod, IntMin, IntMax, ArrayIntMinimum, ArrayIntMaximum, ArrayIntElement, ArrayVarIntElement, ArrayBoolElement, ArrayVarBoolElement, Bool2Int, BoolEq, BoolLe, BoolLt, BoolEqReif, BoolLeReif, BoolLtReif, BoolNot, BoolAnd, BoolOr, BoolXor, BoolClause, BoolClauseReif, ArrayBoolAnd, ArrayBoolOr, ArrayBoolXor, BoolLinEq, BoolLinLe, SetIn, SetInReif}
use Rattle.fz_model.specs.declared.kind.Kind.{Kind}
use Rattle.fz_model.specs.declared.kind.Kind.TheVariants.{One, Many, Set}
use Rattle.fz_model.specs.declared.kind.Asked.TheVariants.{Int, Bool, IntConstant, BoolConstant}

-- the kinds of all arguments
abbrev pub kinds_of : Builtin → List Kind
kinds_of IntLinEq = Many IntConstant ∷ Many Int ∷ One IntConstant ∷ []
kinds_of IntLinNe = Many IntConstant ∷ Many Int ∷ One IntConstant ∷ []
kinds_of IntLinLe = Many IntConstant ∷ Many Int ∷ One IntConstant ∷ []
kinds_of IntLinEqReif = Many IntConstant ∷ Many Int ∷ One IntConstant ∷ One Bool ∷ []
kinds_of IntLinNeReif = Many IntConstant ∷ Many Int ∷ One IntConstant ∷ One Bool ∷ []
kinds_of IntLinLeReif = Many IntConstant ∷ Many Int ∷ One IntConstant ∷ One Bool ∷ []
kinds_of IntEq = One Int ∷ One Int ∷ []
kinds_of IntNe = One Int ∷ One Int ∷ []
kinds_of IntLe = One Int ∷ One Int ∷ []
kinds_of IntLt = One Int ∷ One Int ∷ []
kinds_of IntEqReif = One Int ∷ One Int ∷ One Bool ∷ []
kinds_of IntNeReif = One Int ∷ One Int ∷ One Bool ∷ []
kinds_of IntLeReif = One Int ∷ One Int ∷ One Bool ∷ []
kinds_of IntLtReif = One Int ∷ One Int ∷ One Bool ∷ []
kinds_of IntAbs = One Int ∷ One Int ∷ []
kinds_of IntPlus = One Int ∷ One Int ∷ One Int ∷ []
kinds_of IntTimes = One Int ∷ One Int ∷ One Int ∷ []
kinds_of IntDiv = One Int ∷ One Int ∷ One Int ∷ []
kinds_of IntMod = One Int ∷ One Int ∷ One Int ∷ []
kinds_of IntMin = One Int ∷ One Int ∷ One Int ∷ []
kinds_of IntMax = One Int ∷ One Int ∷ One Int ∷ []
kinds_of ArrayIntMinimum = One Int ∷ Many Int ∷ []
kinds_of ArrayIntMaximum = One Int ∷ Many Int ∷ []
kinds_of ArrayIntElement = One Int ∷ Many IntConstant ∷ One Int ∷ []
kinds_of ArrayVarIntElement = One Int ∷ Many Int ∷ One Int ∷ []
kinds_of ArrayBoolElement = One Int ∷ Many BoolConstant ∷ One Bool ∷ []
kinds_of ArrayVarBoolElement = One Int ∷ Many Bool ∷ One Bool ∷ []
kinds_of Bool2Int = One Bool ∷ One Int ∷ []
kinds_of BoolEq = One Bool ∷ One Bool ∷ []
kinds_of BoolLe = One Bool ∷ One Bool ∷ []
kinds_of BoolLt = One Bool ∷ One Bool ∷ []
kinds_of BoolEqReif = One Bool ∷ One Bool ∷ One Bool ∷ []
kinds_of BoolLeReif = One Bool ∷ One Bool ∷ One Bool ∷ []
kinds_of BoolLtReif = One Bool ∷ One Bool ∷ One Bool ∷ []
kinds_of BoolNot = One Bool ∷ One Bool ∷ []
kinds_of BoolAnd = One Bool ∷ One Bool ∷ One Bool ∷ []
kinds_of BoolOr = One Bool ∷ One Bool ∷ One Bool ∷ []
kinds_of BoolXor = One Bool ∷ One Bool ∷ One Bool ∷ []
kinds_of BoolClause = Many Bool ∷ Many Bool ∷ []
kinds_of BoolClauseReif = Many Bool ∷ Many Bool ∷ One Bool ∷ []
kinds_of ArrayBoolAnd = Many Bool ∷ One Bool ∷ []
kinds_of ArrayBoolOr = Many Bool ∷ One Bool ∷ []
kinds_of ArrayBoolXor = Many Bool ∷ []
kinds_of BoolLinEq = Many IntConstant ∷ Many Bool ∷ One Int ∷ []
kinds_of BoolLinLe = Many IntConstant ∷ Many Bool ∷ One IntConstant ∷ []
kinds_of SetIn = One Int ∷ Set ∷ []
kinds_of SetInReif = One Int ∷ Set ∷ One Bool ∷ []

-- the kinds of the arguments of a call that has so many: `bool_xor` has three or two
abbrev pub kinds_at : Builtin → ℕ → List Kind
kinds_at BoolXor n = if n == 2 then One Bool ∷ One Bool ∷ [] else kinds_of BoolXor
kinds_at b n = kinds_of b

-- the linear builtins: a list of coefficients, and a list of as many values
abbrev pub is_linear : Builtin → Truth
is_linear IntLinEq = true
is_linear IntLinNe = true
is_linear IntLinLe = true
is_linear IntLinEqReif = true
is_linear IntLinNeReif = true
is_linear IntLinLeReif = true
is_linear BoolLinEq = true
is_linear BoolLinLe = true
is_linear _ = false
