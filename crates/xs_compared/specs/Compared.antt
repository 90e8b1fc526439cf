-- The forms that are tested here (XCSP3-core, "Comparison-based constraints"; "Constraint intension"), and what a test of an
-- expression asks.
use Rattle.std.specs.Prelude.{ℤ, List, Bool, true, false}
use Rattle.xf_num.specs.Span.{Bounds}
use Rattle.xs_forms.specs.declared.form.Form.{Form}
use Rattle.xs_forms.specs.declared.form.Form.TheVariants.{Intension, AllDifferent, AllEqual, Ordered, Lex, Instantiation}
use Rattle.xs_forms.specs.Forms.{form_of}
use Rattle.xs_model.specs.declared.instance.Constraint.{Constraint}
use Rattle.xs_model.specs.Accepted.{IsFaultless}
use Rattle.xs_model.specs.Spans.{AreWithin}

-- a form that is tested here
abbrev pub is_form : Form → Bool
is_form Intension = true
is_form AllDifferent = true
is_form AllEqual = true
is_form Ordered = true
is_form Lex = true
is_form Instantiation = true
is_form form = false

-- a constraint of one of these forms
abbrev pub is_compared : Constraint → Bool
is_compared c = is_form (form_of c)

-- the values lie within bounds within which no expression of the constraint is at fault
pub record IsFaultlessAt (a : List ℤ) (c : Constraint) : Type 0 where
  pub spans : List Bounds
  pub within : AreWithin spans a
  pub faultless : IsFaultless spans c
