-- Which variable a call fixes, once the variables before it have their values.
use Rattle.std.specs.Prelude.{◌≡◌, ◌⊎◌, ℕ, ◌<◌, ℤ, pos, negsuc, List, [], ◌∷◌}
use Rattle.std.specs.List.{AllByRecursion}
use Rattle.fz_model.specs.declared.builtin.Builtin.{Builtin}
use Rattle.fz_model.specs.declared.builtin.Builtin.TheVariants.{IntLinEq, IntLinEqReif, IntLinNeReif, IntLinLeReif, IntEqReif, IntNeReif, IntLeReif, IntLtReif, IntAbs, IntTimes, IntDiv, IntMod, ArrayIntMinimum, ArrayIntMaximum, ArrayIntElement, ArrayVarIntElement, ArrayBoolElement, ArrayVarBoolElement, Bool2Int, BoolEqReif, BoolLeReif, BoolLtReif, BoolNot, BoolXor, BoolClauseReif, ArrayBoolAnd, ArrayBoolOr, SetInReif}
use Rattle.fz_model.specs.declared.model.Arg.{Arg, out-Arg}
use Rattle.fz_model.specs.declared.model.Arg.TheOpen.{Arg-F, Int, Bool, Var, Range, Set, List as Listed}
use Rattle.fz_model.specs.declared.model.Call.{Call}
use Rattle.fz_model.specs.Meaning.{at, number, members, CallHolds}

-- the two agree on the variables before k
abbrev pub Agree : ℕ → List ℤ → List ℤ → Type 0
Agree k b c = (j : ℕ) → j < k → at b j ≡ at c j

-- the argument is variable k
abbrev pub IsVar : ℕ → Arg-F Arg → Type 0
IsVar k (Var v) = v ≡ k
IsVar k _ = ⊥

-- a constant, or a variable before k
abbrev pub IsItemBefore : ℕ → Arg-F Arg → Type 0
IsItemBefore k (Int z) = Unit {0}
IsItemBefore k (Bool t) = Unit {0}
IsItemBefore k (Var v) = v < k
IsItemBefore k (Range s) = Unit {0}
IsItemBefore k (Set s) = Unit {0}
IsItemBefore k (Listed xs) = ⊥

abbrev pub AreItemsBefore : ℕ → List Arg → Type 0
AreItemsBefore k [] = Unit {0}
AreItemsBefore k (x ∷ xs) = IsItemBefore k (out-Arg x) × AreItemsBefore k xs

-- each variable of the argument is before k
abbrev pub IsBeforeOf : ℕ → Arg-F Arg → Type 0
IsBeforeOf k (Listed xs) = AreItemsBefore k xs
IsBeforeOf k (Var v) = v < k
IsBeforeOf k _ = Unit {0}

unfoldable pub IsBefore : ℕ → Arg → Type 0
IsBefore k a = IsBeforeOf k (out-Arg a)

abbrev pub AreBefore : ℕ → List Arg → Type 0
AreBefore k [] = Unit {0}
AreBefore k (x ∷ xs) = IsBefore k x × AreBefore k xs

-- the last argument is variable k, and all variables before it in the call are before k
abbrev pub IsLast : ℕ → List Arg → Type 0
IsLast k [] = ⊥
IsLast k (r ∷ []) = IsVar k (out-Arg r)
IsLast k (x ∷ y ∷ rest) = IsBefore k x × IsLast k (y ∷ rest)

-- the same of the first argument
abbrev pub IsFirst : ℕ → List Arg → Type 0
IsFirst k [] = ⊥
IsFirst k (r ∷ rest) = IsVar k (out-Arg r) × AreBefore k rest

-- variable k stands at one place, with the coefficient 1 or -1, and all other variables are before k
abbrev pub IsUnit : Arg-F Arg → Type 0
IsUnit (Int z) = (z ≡ pos 1) ⊎ (z ≡ negsuc 0)
IsUnit _ = ⊥

abbrev pub IsMember : ℕ → List Arg → List Arg → Type 0
IsMember k [] xs = ⊥
IsMember k (c ∷ cs) [] = ⊥
IsMember k (c ∷ cs) (x ∷ xs) =
    (IsUnit (out-Arg c) × IsVar k (out-Arg x) × AreItemsBefore k cs × AreItemsBefore k xs) ⊎ (IsItemBefore k (out-Arg c) × IsItemBefore k (out-Arg x) × IsMember k cs xs)

-- at which places a builtin fixes a variable: the last, the first, either, or one of a linear sum
pub data Place : Type 0 where
  Last : Place
  LastOfThree : Place
  First : Place
  Either : Place
  Member : Place
  Nowhere : Place

abbrev pub place_of : Builtin → Place
place_of IntLinEqReif = Last
place_of IntLinNeReif = Last
place_of IntLinLeReif = Last
place_of IntEqReif = Last
place_of IntNeReif = Last
place_of IntLeReif = Last
place_of IntLtReif = Last
place_of BoolEqReif = Last
place_of BoolLeReif = Last
place_of BoolLtReif = Last
place_of BoolClauseReif = Last
place_of SetInReif = Last
place_of ArrayBoolAnd = Last
place_of ArrayBoolOr = Last
place_of BoolNot = Last
place_of BoolXor = LastOfThree
place_of IntAbs = Last
place_of IntTimes = Last
place_of IntDiv = Last
place_of IntMod = Last
place_of ArrayIntElement = Last
place_of ArrayVarIntElement = Last
place_of ArrayBoolElement = Last
place_of ArrayVarBoolElement = Last
place_of ArrayIntMinimum = First
place_of ArrayIntMaximum = First
place_of Bool2Int = Either
place_of IntLinEq = Member
place_of _ = Nowhere

abbrev pub FixesAt : ℕ → Place → List Arg → Type 0
FixesAt k Last args = IsLast k args
FixesAt k LastOfThree (x ∷ y ∷ r ∷ []) = IsLast k (x ∷ y ∷ r ∷ [])
FixesAt k First args = IsFirst k args
FixesAt k Either args = IsLast k args ⊎ IsFirst k args
FixesAt k Member (cs ∷ xs ∷ z ∷ []) = IsMember k (members cs) (members xs) × IsBefore k z
FixesAt k _ _ = ⊥

-- the call fixes variable k: k stands once in it, at a place that follows from the others, and its other variables are before k
unfoldable pub Fixes : ℕ → Call → Type 0
Fixes k call = FixesAt k (place_of call.builtin) call.args

-- a truth value
abbrev pub IsBit : ℤ → Type 0
IsBit z = (z ≡ pos 0) ⊎ (z ≡ pos 1)

-- Of a bool_not, that its arguments are 0 or 1. No other call that fixes a variable needs its truth values to be 0 or 1.
abbrev pub NotOfBits : List ℤ → Call → Type 0
NotOfBits b call = call.builtin ≡ BoolNot → AllByRecursion (λ x. IsBit (number b x)) call.args

-- what a call fixes has one value, where the variables before it have theirs
abbrev pub FixedByCalls : Type 0
FixedByCalls = (k : ℕ) (call : Call) (b c : List ℤ) → Fixes k call → Agree k b c → NotOfBits b call → NotOfBits c call → CallHolds b call → CallHolds c call → at b k ≡ at c k
