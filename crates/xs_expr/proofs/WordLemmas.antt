-- The value of a word that is an exponent.
use Rattle.std.proofs.Common.{◌≡◌, ℤ, pos, negsuc, int_le, Bool, true, false, ◌&&◌, if◌then◌else◌, refl, arith, Option, None, Some, Ok, Err}
use Rattle.std.proofs.lemmas.Grind.{common_steps}
use Rattle.xs_fields.specs.Conditions.{judged}
use Rattle.xs_fields.specs.Integers.{is_small}
use Rattle.xs_fields.specs.declared.condition.Condition.{Condition}
use Rattle.xs_expr.specs.Words.{is_exponent_value}

-- what is past the greatest magnitude is no exponent
great : (y : ℤ) → is_small y ≡ false → (int_le (pos 1) y && int_le y (pos 64)) ≡ false
great (pos n) h = grind (arith, common_steps)
great (negsuc n) h = refl

pub value-of-err : (v : Option ℤ) (k : Condition) → judged is_small v ≡ Err k → is_exponent_value v ≡ false
value-of-err None k h = refl
value-of-err (Some y) k h = by (is_small y) refl h
  where
    by : (s : Bool) → is_small y ≡ s → (if s then Ok y else Err Condition.Magnitude) ≡ Err k → (int_le (pos 1) y && int_le y (pos 64)) ≡ false
    by true e h = cc
    by false e h = great y e
