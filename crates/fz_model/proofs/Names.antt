-- What the table of names gives.
use Rattle.std.proofs.Common.{◌≡◌, ℕ, List, [], ◌∷◌, refl, Bool, true, false, Option, Some, if◌then◌else◌}
use Rattle.std.specs.Prelude.{IfSome}
use Rattle.std.specs.Str.{bytes_eq}
use Rattle.std.proofs.lemmas.Slice.Eq.{bytes_eq-Decides}
use Rattle.fz_model.specs.declared.builtin.Builtin.{Builtin}
use Rattle.fz_model.specs.declared.builtin.Builtin.TheVariants.{IntLinEq, IntLinNe, IntLinLe, IntLinEqReif, IntLinNeReif, IntLinLeReif, IntEq, IntNe, IntLe, IntLt, IntEqReif, IntNeReif, IntLeReif, IntLtReif, IntAbs, IntPlus, IntTimes, IntDiv, IntMod, IntMin, IntMax, ArrayIntMinimum, ArrayIntMaximum, ArrayIntElement, ArrayVarIntElement, ArrayBoolElement, ArrayVarBoolElement, Bool2Int, BoolEq, BoolLe, BoolLt, BoolEqReif, BoolLeReif, BoolLtReif, BoolNot, BoolAnd, BoolOr, BoolXor, BoolClause, BoolClauseReif, ArrayBoolAnd, ArrayBoolOr, ArrayBoolXor, BoolLinEq, BoolLinLe, SetIn, SetInReif}
use Rattle.fz_model.specs.Builtins.{name_of, look_up, by_name}

-- each row is found by its own name, so no two names agree
pub by_name-name_of : (b : Builtin) → by_name (name_of b) ≡ Some b
by_name-name_of IntLinEq = refl
by_name-name_of IntLinNe = refl
by_name-name_of IntLinLe = refl
by_name-name_of IntLinEqReif = refl
by_name-name_of IntLinNeReif = refl
by_name-name_of IntLinLeReif = refl
by_name-name_of IntEq = refl
by_name-name_of IntNe = refl
by_name-name_of IntLe = refl
by_name-name_of IntLt = refl
by_name-name_of IntEqReif = refl
by_name-name_of IntNeReif = refl
by_name-name_of IntLeReif = refl
by_name-name_of IntLtReif = refl
by_name-name_of IntAbs = refl
by_name-name_of IntPlus = refl
by_name-name_of IntTimes = refl
by_name-name_of IntDiv = refl
by_name-name_of IntMod = refl
by_name-name_of IntMin = refl
by_name-name_of IntMax = refl
by_name-name_of ArrayIntMinimum = refl
by_name-name_of ArrayIntMaximum = refl
by_name-name_of ArrayIntElement = refl
by_name-name_of ArrayVarIntElement = refl
by_name-name_of ArrayBoolElement = refl
by_name-name_of ArrayVarBoolElement = refl
by_name-name_of Bool2Int = refl
by_name-name_of BoolEq = refl
by_name-name_of BoolLe = refl
by_name-name_of BoolLt = refl
by_name-name_of BoolEqReif = refl
by_name-name_of BoolLeReif = refl
by_name-name_of BoolLtReif = refl
by_name-name_of BoolNot = refl
by_name-name_of BoolAnd = refl
by_name-name_of BoolOr = refl
by_name-name_of BoolXor = refl
by_name-name_of BoolClause = refl
by_name-name_of BoolClauseReif = refl
by_name-name_of ArrayBoolAnd = refl
by_name-name_of ArrayBoolOr = refl
by_name-name_of ArrayBoolXor = refl
by_name-name_of BoolLinEq = refl
by_name-name_of BoolLinLe = refl
by_name-name_of SetIn = refl
by_name-name_of SetInReif = refl

chosen : (t : Bool) (b : Builtin) (r : Option Builtin) (name : List ℕ) → (t ≡ true → name_of b ≡ name) → IfSome r (λ d. name_of d ≡ name) → IfSome (if t then Some b else r) (λ d. name_of d ≡ name)
chosen true b r name h k = h refl
chosen false b r name h k = k

-- what is found has the name
pub look_up-named : (bs : List Builtin) (name : List ℕ) → IfSome (look_up bs name) (λ b. name_of b ≡ name)
look_up-named [] name = tt
look_up-named (b ∷ bs) name = chosen (bytes_eq (name_of b) name) b (look_up bs name) name (bytes_eq-Decides (name_of b) name).0 (look_up-named bs name)
