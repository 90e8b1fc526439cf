-- What is said of the items that an expression is lowered to, behind variables the first of which are integers within the
-- bounds ss.
use Rattle.std.specs.Prelude.{◌≡◌, ℕ, ◌+◌, ◌*◌, ◌-◌, ◌≤◌, ℤ, pos, true, Bool, List, [], ◌∷◌, length}
use Rattle.lo_base.specs.Formed.{AreIntegers}
use Rattle.lo_emit.specs.declared.term.Term.{Term}
use Rattle.lo_emit.specs.Emitted.{Out}
use Rattle.lo_formed.specs.Laws.{IsFaultless}
use Rattle.lo_rules.specs.Formed.{IsInteger, Makes}
use Rattle.lo_rules.specs.Laws.{IsLowered}
use Rattle.lo_rules.specs.Rule.{Yields}
use Rattle.lo_terms.specs.declared.term.Mode.TheVariants.{Number}
use Rattle.lo_terms.specs.declared.term.Operand.{Operand}
use Rattle.lo_terms.specs.Lowering.{low_expr, low_intension}
use Rattle.xf_num.specs.Span.{Bounds}
use Rattle.xs_model.specs.Bounds.{is_truth}
use Rattle.xs_model.specs.Formed.{nodes}
use Rattle.xs_model.specs.declared.expr.Expr.{Expr}
use Rattle.xs_model.specs.Spans.{BeginsWithin}
use Rattle.xs_model.specs.Value.{val}

-- a square in the number of nodes, with room for one node more
abbrev pub square_of : Expr → ℕ
square_of e = 64 * ((1 + nodes e) * (1 + nodes e))

-- the law: what states an expression whose bounds are those of truth values means that its value is 1
abbrev pub IntensionLowered : Type 0
IntensionLowered = (ss : List Bounds) (n : ℕ) (e : Expr) (b : Bounds) → IsFaultless ss e b → is_truth b ≡ true → length ss ≤ n
    → IsLowered (BeginsWithin ss) (λ a. val a e ≡ pos 1) (AreIntegers (length ss)) n (low_intension ss n e) (square_of e)

-- what an expression is lowered to as a number, for which a term stands
abbrev pub number_out : List Bounds → ℕ → Expr → Term → Out
number_out ss n e t = record { items = (low_expr ss e Number n).items; term = t }

-- It is one operand of these bounds, an integer, which stands for the value of the expression where the values of the
-- variables are within their bounds; new variables and leaves of calls are at most 256 for each node, less 64.
pub record IsNumber (ss : List Bounds) (n : ℕ) (e : Expr) (b : Bounds) : Type 0 where
  pub operand : Operand
  pub alone : (low_expr ss e Number n).operands ≡ operand ∷ []
  pub span : operand.span ≡ b
  pub yields : Yields (BeginsWithin ss) (BeginsWithin ss) n (number_out ss n e operand.term) (256 * nodes e - 64) (λ c. val c e)
  pub makes : (booleans : List Bool) → length booleans ≡ n → AreIntegers (length ss) booleans → Makes IsInteger booleans (number_out ss n e operand.term)

-- the law: an expression lowered as a number yields its value
abbrev pub NumberLowered : Type 0
NumberLowered = (ss : List Bounds) (n : ℕ) (e : Expr) (b : Bounds) → IsFaultless ss e b → length ss ≤ n → IsNumber ss n e b
