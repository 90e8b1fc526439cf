-- The integers of an expression that is read are small.
use Rattle.std.proofs.Common.{◌≡◌, ℕ, ℤ, pos, nat_abs, List, [], ◌∷◌, refl, subst, arith, Bool, true, false, not, cond, Option, Some, None}
use Rattle.std.proofs.lemmas.Bool.{leb-true}
use Rattle.xs_fields.specs.Cells.{variables_of}
use Rattle.xs_fields.specs.Conditions.{first_missed}
use Rattle.xs_fields.specs.Integers.{integer_of, is_small}
use Rattle.xs_fields.specs.declared.condition.Condition.{Condition}
use Rattle.xs_fields.specs.declared.condition.Condition.TheVariants.{Magnitude}
use Rattle.xs_model.specs.Formed.{HasSmallInteger, HasSmallIntegers}
use Rattle.xs_model.specs.Outline.{Outline}
use Rattle.xs_model.specs.Sound.{IsSmall, magnitudes}
use Rattle.xs_model.specs.declared.expr.Expr.{Int, Var, every_made-Expr}
use Rattle.xs_model.specs.declared.expr.Expr.TheVariants.{rolls-Int, rolls-Var}
use Rattle.xs_model.specs.declared.expr.Expr.TheOpen.{Expr-F}
use Rattle.xs_notation.specs.Reading.{expr_of}
use Rattle.xs_notation.specs.Terms.{settled, term_by, term_in, term_meets_by, variable_in}
use Rattle.xs_notation.specs.declared.raw.Raw.{Raw}
use Rattle.xs_notation.proofs.EachWord.{each-word}

small-Int : (z : ℤ) → IsSmall z → HasSmallIntegers (Int z)
small-Int z h = subst HasSmallIntegers (rolls-Int z) (every_made-Expr HasSmallInteger (Expr-F.Int z) (Expr-F.Int z) refl h)

small-Var : (v : ℕ) → HasSmallIntegers (Var v)
small-Var v = subst HasSmallIntegers (rolls-Var v) (every_made-Expr HasSmallInteger (Expr-F.Var v) (Expr-F.Var v) refl tt)

-- 0 stands for a word that misses a condition
small-none : HasSmallIntegers (Int (pos 0))
small-none = small-Int (pos 0) (omega arith)

small-in : (vs : List ℕ) → HasSmallIntegers (variable_in vs)
small-in [] = small-none
small-in (v ∷ vs) = small-Var v

small-name : (o : Option Condition) (vs : List ℕ) → HasSmallIntegers (term_in (settled o (variable_in vs)))
small-name None vs = small-in vs
small-name (Some k) vs = small-none

small-term : (os : List Outline) (w : List ℕ) (i : Option ℤ) → HasSmallIntegers (term_in (settled (first_missed (term_meets_by os w i)) (term_by os w i)))
small-term os w None = small-name (first_missed (term_meets_by os w None)) (variables_of os w)
small-term os w (Some z) = by (is_small z) refl
  where
    by : (v : Bool) → is_small z ≡ v → HasSmallIntegers (term_in (settled (cond (not v) (Some Magnitude) None) (Int z)))
    by true e = small-Int z (leb-true (nat_abs z) magnitudes e)
    by false e = small-none

pub small-expr : (os : List Outline) (r : Raw) → HasSmallIntegers (expr_of os r)
small-expr os = each-word HasSmallInteger (λ op es. tt) os (λ w. small-term os w (integer_of w))
