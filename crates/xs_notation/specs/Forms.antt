-- Which operands an operator takes (XCSP3-core, the operands of the operators of expressions), before words are read.
use Rattle.std.specs.Prelude.{List, [], ◌∷◌, length, Bool, true, false, ◌&&◌, not}
use Rattle.std.specs.List.{list_all}
use Rattle.xs_model.specs.Shape.{is_set_operator}
use Rattle.xs_expr.specs.Shaped.{is_count}
use Rattle.xs_expr.specs.Words.{is_exponent_word}
use Rattle.xs_fields.specs.declared.condition.Condition.{Condition}
use Rattle.xs_fields.specs.declared.condition.Condition.TheVariants.{Spelling}
use Rattle.xs_model.specs.declared.expr.Op.{Op}
use Rattle.xs_model.specs.declared.expr.Op.TheVariants.{In, NotIn, Pow}
use Rattle.xs_notation.specs.declared.raw.Raw.{Raw, fold-Raw}
use Rattle.xs_notation.specs.declared.raw.Raw.TheOpen.{Raw-F}

-- what is known of an operand
pub record Form : Type 0 where
  -- each operator in it has the operands that it takes
  pub is_formed : Bool
  pub is_set : Bool
  -- it is a word for an integer from 1 to 64
  pub is_exponent : Bool

abbrev pub are_no_sets : List Form → Bool
are_no_sets fs = list_all (λ f. not f.is_set) fs

-- a set is the second operand of `in` and `notin`
abbrev pub is_membership : List Form → Bool
is_membership [] = false
is_membership (f ∷ []) = false
is_membership (f ∷ s ∷ []) = not f.is_set && s.is_set
is_membership (f ∷ s ∷ g ∷ fs) = false

-- an exponent is the second operand of `pow`
abbrev pub is_power : List Form → Bool
is_power [] = false
is_power (f ∷ []) = false
is_power (f ∷ k ∷ []) = not f.is_set && k.is_exponent
is_power (f ∷ k ∷ g ∷ fs) = false

-- and no other operand is a set
abbrev pub are_placed : Op → List Form → Bool
are_placed In fs = is_membership fs
are_placed NotIn fs = is_membership fs
are_placed Pow fs = is_power fs
are_placed op fs = are_no_sets fs

abbrev pub are_formed : List Form → Bool
are_formed fs = list_all (λ f. f.is_formed) fs

abbrev pub form_step : Raw-F Form → Form
form_step (Raw-F.Word w) = record { is_formed = true; is_set = false; is_exponent = is_exponent_word w }
form_step (Raw-F.Call op fs) = record { is_formed = is_count op (length fs) && (are_placed op fs && are_formed fs); is_set = is_set_operator op; is_exponent = false }

abbrev pub form : Raw → Form
form = fold-Raw Form form_step

-- an expression is no set
abbrev pub is_expression : Form → Bool
is_expression f = f.is_formed && not f.is_set

abbrev pub form_meets : Raw → Condition → Bool
form_meets r Spelling = is_expression (form r)
form_meets r k = true
