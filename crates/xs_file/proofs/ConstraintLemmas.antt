-- What comes of a constraint that is read, and what it says of one that it is in order.
use Rattle.std.proofs.Common.{◌≡◌, ℕ, Bool, true, false, List, [], ◌∷◌, length, nat_le, if◌then◌else◌, Option, None, Some, Err, Ok, Result, refl, sym, subst, ap, ◌∙◌}
use Rattle.std.specs.Prelude.{OnOk}
use Rattle.xf_text.specs.declared.fault.FieldStop.TheVariants.{Refused}
use Rattle.xf_text.specs.declared.fault.Kind.{Kind}
use Rattle.xs_fields.specs.Conditions.{IsOrMemory, answer, answer_on, first_missed, kind_of}
use Rattle.xs_fields.specs.declared.condition.Condition.{Condition}
use Rattle.xs_fields.proofs.FirstLemmas.{told_none, told_value}
use Rattle.xs_file.specs.Sections.{Progress, added, constraint_behind, form_meets, taken, taken_on}
use Rattle.xs_model.proofs.FormLemmas.{measured_form}
use Rattle.xs_model.specs.Accepted.{is_built, IsFaultless, IsFormed, IsMeasured, IsSoundConstraint}
use Rattle.std.specs.Result.{result_err}
use Rattle.xf_num.specs.Span.{Bounds}
use Rattle.xf_text.specs.declared.fault.Kind.TheVariants.{Logic, Range}
use Rattle.xs_file.specs.Asked.{fault_of, fault_of_magnitude, first_fault, truth_fault}
use Rattle.xs_model.specs.Bounds.{bounds, is_truth}
use Rattle.xs_model.specs.Magnitude.{are_tasks, judged, judged_bounds, mag}
use Rattle.xs_model.specs.Sound.{magnitudes}
use Rattle.xs_model.specs.declared.concrete.Concrete.{Concrete}
use Rattle.xs_model.specs.declared.decl.Decl.{Decl}
use Rattle.xs_model.specs.declared.instance.Constraint.{Constraint}
use Rattle.xs_model.specs.declared.instance.Constraint.TheVariants.{Intension, Extension, Unary, Regular, Mdd, AllDifferent, DifferentLists, DifferentMatrix, AllEqual, Ordered, Lex, LexMatrix, Sum, Count, NValues, Cardinality, Minimum, Maximum, Element, ElementMatrix, Channel, ChannelTwo, ChannelValue, NoOverlap, Cumulative, Circuit, Instantiation}
use Rattle.xs_model.specs.Outline.{outlines_of, variables_in}
use Rattle.xs_model.specs.Spans.{spans_of}
use Rattle.xs_model.proofs.SpanLemmas.{spans_variables}

pub formed_spans : (ds : List Decl) (c : Constraint) → IsFormed (variables_in (outlines_of ds)) c → IsFormed (length (spans_of ds)) c
formed_spans ds c h = subst (λ (n : ℕ). IsFormed n c) (sym (spans_variables ds)) h

-- a constraint that misses nothing is sound
pub judged_sound : {E : Type 0} (ds : List Decl) (c : Constraint) (r : Result (Unit {0}) E) → IsFormed (variables_in (outlines_of ds)) c → is_built c ≡ true → OnOk r (IsFaultless (spans_of ds) c) → OnOk r (IsMeasured (spans_of ds) c) → OnOk r (IsSoundConstraint (spans_of ds) c)
judged_sound ds c (Err k) formed built faultless measured = tt
judged_sound ds c (Ok x) formed built faultless measured = record { formed = formed_spans ds c formed; faultless = faultless; measured = measured_form (spans_of ds) c measured; built = built }

-- a constraint that is read is appended, or is at fault by its judgement
pub taken_read : (s : Progress) (c : Concrete) (x : Constraint) → IsOrMemory (Ok x) (answer (form_meets s c) (constraint_behind s c)) → taken true s c ≡ added true s x
taken_read s c x h =
    ap (λ m. taken_on true s m (constraint_behind s c)) (told_none x (constraint_behind s c) (first_missed (form_meets s c)) h)
    ∙ ap (λ (y : Constraint). added true s y) (sym (told_value x (constraint_behind s c) (first_missed (form_meets s c)) h))

refused_on : (s : Progress) (m : Option Condition) (x : Constraint) (k : Kind) → IsOrMemory (Err (Refused k)) (answer_on m x) → taken_on true s m x ≡ Err k
refused_on s None x k h = absurd (cc h)
refused_on s (Some j) x k h = let e : k ≡ kind_of j = cc in ap (λ (y : Kind). Err y) (sym e)

-- one that is refused is at fault of that kind
pub taken_refused : (s : Progress) (c : Concrete) (k : Kind) → IsOrMemory (Err (Refused k)) (answer (form_meets s c) (constraint_behind s c)) → taken true s c ≡ Err k
taken_refused s c k h = refused_on s (first_missed (form_meets s c)) (constraint_behind s c) k h

-- a judgement by its two halves, within the bounds and of the magnitude
in_size : (w : Bool) → result_err (if w then Ok (tt {0}) else Err Range) ≡ (if w then None else Some Range)
in_size true = refl
in_size false = refl

in_two : (v w : Bool) → result_err (if v then (if w then Ok (tt {0}) else Err Range) else Err Logic) ≡ first_fault (if v then None else Some Logic) (if w then None else Some Range)
in_two true w = in_size w
in_two false w = refl

on_bounds : (r : Result Bounds Kind) (m : ℕ) → result_err (judged_bounds m r) ≡ first_fault (truth_fault r) (fault_of_magnitude m)
on_bounds (Ok b) m = in_two (is_truth b) (nat_le m magnitudes)
on_bounds (Err k) m = refl

pub judged_fault : (ss : List Bounds) (c : Constraint) → result_err (judged ss c) ≡ fault_of true ss c
judged_fault ss (Intension e) = on_bounds (bounds ss e) (mag ss (Intension e))
judged_fault ss (Cumulative a b x e f) = in_two (are_tasks ss b x) (nat_le (mag ss (Cumulative a b x e f)) magnitudes)
judged_fault ss (Extension a b x) = in_size (nat_le (mag ss (Extension a b x)) magnitudes)
judged_fault ss (Unary a b x) = in_size (nat_le (mag ss (Unary a b x)) magnitudes)
judged_fault ss (Regular a b x e) = in_size (nat_le (mag ss (Regular a b x e)) magnitudes)
judged_fault ss (Mdd a b x e) = in_size (nat_le (mag ss (Mdd a b x e)) magnitudes)
judged_fault ss (AllDifferent a b) = in_size (nat_le (mag ss (AllDifferent a b)) magnitudes)
judged_fault ss (DifferentLists a) = in_size (nat_le (mag ss (DifferentLists a)) magnitudes)
judged_fault ss (DifferentMatrix a) = in_size (nat_le (mag ss (DifferentMatrix a)) magnitudes)
judged_fault ss (AllEqual a) = in_size (nat_le (mag ss (AllEqual a)) magnitudes)
judged_fault ss (Ordered a b x) = in_size (nat_le (mag ss (Ordered a b x)) magnitudes)
judged_fault ss (Lex a b) = in_size (nat_le (mag ss (Lex a b)) magnitudes)
judged_fault ss (LexMatrix a b) = in_size (nat_le (mag ss (LexMatrix a b)) magnitudes)
judged_fault ss (Sum a b x) = in_size (nat_le (mag ss (Sum a b x)) magnitudes)
judged_fault ss (Count a b x) = in_size (nat_le (mag ss (Count a b x)) magnitudes)
judged_fault ss (NValues a b x) = in_size (nat_le (mag ss (NValues a b x)) magnitudes)
judged_fault ss (Cardinality a b x e) = in_size (nat_le (mag ss (Cardinality a b x e)) magnitudes)
judged_fault ss (Minimum a b) = in_size (nat_le (mag ss (Minimum a b)) magnitudes)
judged_fault ss (Maximum a b) = in_size (nat_le (mag ss (Maximum a b)) magnitudes)
judged_fault ss (Element a b x e) = in_size (nat_le (mag ss (Element a b x e)) magnitudes)
judged_fault ss (ElementMatrix a b x e f g) = in_size (nat_le (mag ss (ElementMatrix a b x e f g)) magnitudes)
judged_fault ss (Channel a b) = in_size (nat_le (mag ss (Channel a b)) magnitudes)
judged_fault ss (ChannelTwo a b x e) = in_size (nat_le (mag ss (ChannelTwo a b x e)) magnitudes)
judged_fault ss (ChannelValue a b x) = in_size (nat_le (mag ss (ChannelValue a b x)) magnitudes)
judged_fault ss (NoOverlap a b x) = in_size (nat_le (mag ss (NoOverlap a b x)) magnitudes)
judged_fault ss (Circuit a b x) = in_size (nat_le (mag ss (Circuit a b x)) magnitudes)
judged_fault ss (Instantiation a b) = in_size (nat_le (mag ss (Instantiation a b)) magnitudes)
