-- The names of forms (XCSP3-core, "Constraints"), and the form of each constraint.
use Rattle.std.specs.Prelude.{ℕ, List, [], ◌∷◌, Option, None, Some, codes, if◌then◌else◌}
use Rattle.std.specs.Str.{bytes_eq}
use Rattle.xs_forms.specs.declared.form.Form.{Form}
use Rattle.xs_forms.specs.declared.form.Form.TheVariants as form
use Rattle.xs_model.specs.declared.instance.Constraint.{Constraint}
use Rattle.xs_model.specs.declared.instance.Constraint.TheVariants.{Intension, Extension, Unary, Regular, Mdd, AllDifferent, DifferentLists, DifferentMatrix, AllEqual, Ordered, Lex, LexMatrix, Sum, Count, NValues, Cardinality, Minimum, Maximum, Element, ElementMatrix, Channel, ChannelTwo, ChannelValue, NoOverlap, Cumulative, Circuit, Instantiation}

abbrev pub form_name : Form → List ℕ
form_name form.Intension = codes "intension"
form_name form.Extension = codes "extension"
form_name form.Regular = codes "regular"
form_name form.Mdd = codes "mdd"
form_name form.AllDifferent = codes "allDifferent"
form_name form.AllEqual = codes "allEqual"
form_name form.Ordered = codes "ordered"
form_name form.Lex = codes "lex"
form_name form.Sum = codes "sum"
form_name form.Count = codes "count"
form_name form.NValues = codes "nValues"
form_name form.Cardinality = codes "cardinality"
form_name form.Minimum = codes "minimum"
form_name form.Maximum = codes "maximum"
form_name form.Element = codes "element"
form_name form.Channel = codes "channel"
form_name form.NoOverlap = codes "noOverlap"
form_name form.Cumulative = codes "cumulative"
form_name form.Circuit = codes "circuit"
form_name form.Instantiation = codes "instantiation"

abbrev pub all_forms : List Form
all_forms = form.Intension ∷ form.Extension ∷ form.Regular ∷ form.Mdd ∷ form.AllDifferent ∷ form.AllEqual ∷ form.Ordered ∷ form.Lex ∷ form.Sum ∷ form.Count ∷ form.NValues ∷ form.Cardinality ∷ form.Minimum ∷ form.Maximum ∷ form.Element ∷ form.Channel ∷ form.NoOverlap ∷ form.Cumulative ∷ form.Circuit ∷ form.Instantiation ∷ []

-- the form with that name
abbrev pub look_up : List Form → List ℕ → Option Form
look_up [] name = None
look_up (f ∷ fs) name = if bytes_eq (form_name f) name then Some f else look_up fs name

abbrev pub by_name : List ℕ → Option Form
by_name = look_up all_forms

abbrev pub form_of : Constraint → Form
form_of (Intension a) = form.Intension
form_of (Extension a b c) = form.Extension
form_of (Unary a b c) = form.Extension
form_of (Regular a b c d) = form.Regular
form_of (Mdd a b c d) = form.Mdd
form_of (AllDifferent a b) = form.AllDifferent
form_of (DifferentLists a) = form.AllDifferent
form_of (DifferentMatrix a) = form.AllDifferent
form_of (AllEqual a) = form.AllEqual
form_of (Ordered a b c) = form.Ordered
form_of (Lex a b) = form.Lex
form_of (LexMatrix a b) = form.Lex
form_of (Sum a b c) = form.Sum
form_of (Count a b c) = form.Count
form_of (NValues a b c) = form.NValues
form_of (Cardinality a b c d) = form.Cardinality
form_of (Minimum a b) = form.Minimum
form_of (Maximum a b) = form.Maximum
form_of (Element a b c d) = form.Element
form_of (ElementMatrix a b c d e f) = form.Element
form_of (Channel a b) = form.Channel
form_of (ChannelTwo a b c d) = form.Channel
form_of (ChannelValue a b c) = form.Channel
form_of (NoOverlap a b c) = form.NoOverlap
form_of (Cumulative a b c d e) = form.Cumulative
form_of (Circuit a b c) = form.Circuit
form_of (Instantiation a b) = form.Instantiation
