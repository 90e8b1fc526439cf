-- What the bounds of an expression say of its value.
use Rattle.std.specs.Prelude.{◌≡◌, ℤ, List, Ok, IsOk}
use Rattle.xf_num.specs.Span.{Bounds, IsWithin}
use Rattle.xs_model.specs.declared.expr.Expr.{Expr}
use Rattle.xs_model.specs.Value.{val}
use Rattle.xs_model.specs.Bounds.{bounds, points, HasSpans}
use Rattle.xs_model.specs.Shape.{IsShaped}
use Rattle.xs_model.specs.Spans.{AreWithin}

-- what follows where no node is at fault within bounds of the variables, for values within these
pub record IsBounded (e : Expr) (a : List ℤ) (b : Bounds) : Type 0 where
  -- the value lies within the expression's bounds
  pub within : IsWithin b (val a e)
  -- no node is at fault where the bounds of each variable are its value alone
  pub alone : IsOk (bounds (points a) e)
  pub variables : HasSpans (points a) e

abbrev pub ValuesAreBounded : Type 0
ValuesAreBounded = (e : Expr) (spans : List Bounds) (a : List ℤ) (b : Bounds) → IsShaped e → HasSpans spans e → AreWithin spans a → bounds spans e ≡ Ok b → IsBounded e a b
