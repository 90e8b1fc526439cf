-- When what an expression is lowered to is well formed, behind the variables of an instance, which are integers.
use Rattle.std.specs.Prelude.{◌≡◌, ℕ, ◌≤ℤ◌, Bool, false, List, ◌++◌, length, Ok}
use Rattle.std.specs.List.{AllByRecursion}
use Rattle.lo_base.specs.Formed.{AreFormed, AreIntegers, kinds_of}
use Rattle.lo_emit.specs.declared.term.Term.{Term}
use Rattle.lo_rules.specs.Formed.{IsInteger, IsLogic}
use Rattle.lo_terms.specs.declared.term.Mode.{Mode}
use Rattle.lo_terms.specs.declared.term.Mode.TheVariants.{Number, Logic, Stated}
use Rattle.lo_terms.specs.Lowering.{Low, low_expr, low_intension}
use Rattle.lo_terms.specs.Rules.{terms_of}
use Rattle.xf_num.specs.Span.{Bounds}
use Rattle.xs_model.specs.declared.expr.Expr.{Expr}
use Rattle.xs_model.specs.Bounds.{bounds, HasSpans}
use Rattle.xs_model.specs.Shape.{IsShaped, is_set}

-- the kind of the term that stands for an expression in a mode
abbrev pub IsInMode : Mode → List Bool → Term → Type 0
IsInMode Number = IsInteger
IsInMode Logic = IsLogic
IsInMode Stated = IsLogic

-- behind variables of these kinds the items are well formed, and the terms are of this kind
pub record IsLowFormed (IsKind : List Bool → Term → Type 0) (booleans : List Bool) (l : Low) : Type 0 where
  pub formed : AreFormed booleans l.items
  pub terms : AllByRecursion (IsKind (booleans ++ kinds_of l.items)) (terms_of l.operands)

-- each range has members
abbrev pub AreOrdered : List Bounds → Type 0
AreOrdered ss = AllByRecursion (λ (s : Bounds). s.lo ≤ℤ s.hi) ss

-- an expression that is no set and of which no node is at fault, over variables of these bounds
pub record IsFaultless (ss : List Bounds) (e : Expr) (b : Bounds) : Type 0 where
  pub ordered : AreOrdered ss
  pub shaped : IsShaped e
  pub variables : HasSpans ss e
  pub bounded : bounds ss e ≡ Ok b
  pub no_set : is_set e ≡ false

-- the law: behind the variables with these bounds, which are integers, and others, what such an expression is lowered to
-- is well formed in each mode
abbrev pub ExpressionFormed : Type 0
ExpressionFormed = (ss : List Bounds) (n : ℕ) (e : Expr) (b : Bounds) → IsFaultless ss e b → (booleans : List Bool) → length booleans ≡ n → AreIntegers (length ss) booleans
    → (mode : Mode) → IsLowFormed (IsInMode mode) booleans (low_expr ss e mode n)

-- the law: what states it is well formed
abbrev pub IntensionFormed : Type 0
IntensionFormed = (ss : List Bounds) (n : ℕ) (e : Expr) (b : Bounds) → IsFaultless ss e b → (booleans : List Bool) → length booleans ≡ n → AreIntegers (length ss) booleans
    → AreFormed booleans (low_intension ss n e)
