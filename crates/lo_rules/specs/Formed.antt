-- Which terms stand for integers and which for truth values, and when what makes them is well formed.
use Rattle.std.specs.Prelude.{◌≡◌, ℕ, Bool, true, false, List, ◌++◌, slice_get, Some}
use Rattle.std.specs.List.{AllByRecursion}
use Rattle.fz_model.specs.Limits.{IsSmall, exactly}
use Rattle.lo_base.specs.Formed.{AreFormed, kinds_of}
use Rattle.lo_emit.specs.declared.term.Term.{Term}
use Rattle.lo_emit.specs.declared.term.Term.TheVariants.{Int, Truth, Var}
use Rattle.lo_emit.specs.Emitted.{Out, Outs}

-- behind variables of these kinds, the term is a small integer or an integer variable
abbrev pub IsInteger : List Bool → Term → Type 0
IsInteger booleans (Int z) = IsSmall (exactly z)
IsInteger booleans (Truth t) = ⊥
IsInteger booleans (Var v) = slice_get booleans v ≡ Some false

-- the term is a truth value or a Boolean variable
abbrev pub IsLogic : List Bool → Term → Type 0
IsLogic booleans (Int z) = ⊥
IsLogic booleans (Truth t) = Unit {0}
IsLogic booleans (Var v) = slice_get booleans v ≡ Some true

abbrev pub AreIntegerTerms : List Bool → List Term → Type 0
AreIntegerTerms booleans = AllByRecursion (IsInteger booleans)

abbrev pub AreLogicTerms : List Bool → List Term → Type 0
AreLogicTerms booleans = AllByRecursion (IsLogic booleans)

-- the kinds of the variables behind what is made
abbrev pub kinds_with : List Bool → Out → List Bool
kinds_with booleans c = booleans ++ kinds_of c.items

-- well-formed items that make a term of a kind
pub record Makes (IsKind : List Bool → Term → Type 0) (booleans : List Bool) (c : Out) : Type 0 where
  pub formed : AreFormed booleans c.items
  pub term : IsKind (booleans ++ kinds_of c.items) c.term

pub record MakesAll (IsKind : List Bool → Term → Type 0) (booleans : List Bool) (c : Outs) : Type 0 where
  pub formed : AreFormed booleans c.items
  pub terms : AllByRecursion (IsKind (booleans ++ kinds_of c.items)) c.terms
