-- The forms that are tested here (XCSP3-core, "Counting and summing constraints"; "minimum", "maximum"), and what the test
-- of a sum asks.
use Rattle.std.specs.Prelude.{ℤ, List, Bool, true, false}
use Rattle.xf_num.specs.Span.{Bounds}
use Rattle.xs_forms.specs.declared.form.Form.{Form}
use Rattle.xs_forms.specs.declared.form.Form.TheVariants.{Sum, Count, NValues, Cardinality, Minimum, Maximum}
use Rattle.xs_forms.specs.Forms.{form_of}
use Rattle.xs_model.specs.declared.instance.Constraint.{Constraint}
use Rattle.xs_model.specs.Accepted.{IsMeasured}
use Rattle.xs_model.specs.Spans.{AreWithin}

-- a form that is tested here
abbrev pub is_form : Form → Bool
is_form Sum = true
is_form Count = true
is_form NValues = true
is_form Cardinality = true
is_form Minimum = true
is_form Maximum = true
is_form form = false

-- a constraint of one of these forms
abbrev pub is_counted : Constraint → Bool
is_counted c = is_form (form_of c)

-- the values lie within bounds within which the magnitude of the constraint is at most the greatest
pub record IsMeasuredAt (a : List ℤ) (c : Constraint) : Type 0 where
  pub spans : List Bounds
  pub within : AreWithin spans a
  pub measured : IsMeasured spans c
