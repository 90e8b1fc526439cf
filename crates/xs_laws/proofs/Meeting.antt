-- Tests of conditions.
use Rattle.std.proofs.Common.{◌≡◌, ◌↔◌, ℤ, Bool, true, not, sym, ◌∙◌}
use Rattle.std.specs.Prelude.{int_le}
use Rattle.std.specs.Ordering.{int_eq}
use Rattle.std.proofs.lemmas.Bool.{true≢false, and_parts, and_from, not-true, not_from_false, false_from_ne_true}
use Rattle.std.proofs.lemmas.Bool.Decides.{Decides-int_eq}
use Rattle.xf_num.specs.Span.{Bounds, IsWithin}
use Rattle.xs_model.specs.declared.term.Cond.TheVariants.{Lt, Le, Ge, Gt, Ne, Eq, InSpan, OutSpan, InSet, OutSet}
use Rattle.xs_model.specs.Conditions.{value_of}
use Rattle.xs_model.specs.Lists.{is_among}
use Rattle.xs_laws.specs.Meeting.{is_within, MeetsLaw}
use Rattle.xs_laws.proofs.Cumulative.{le_says, le_met, lt_says, lt_met}

pub within_is : (b : Bounds) (x : ℤ) → IsWithin b x ↔ (is_within b x ≡ true)
within_is b x = (
  λ h. and_from (int_le b.lo x) (int_le x b.hi) (le_met b.lo x h.from) (le_met x b.hi h.to),
  λ h. let r = and_parts (int_le b.lo x) (int_le x b.hi) h in record { from = le_says b.lo x r.0; to = le_says x b.hi r.1 },
)

not_is : (P : Type 0) (t : Bool) → P ↔ (t ≡ true) → (P → ⊥) ↔ (not t ≡ true)
not_is P t law = (λ h. not_from_false t (false_from_ne_true t (λ e. h (law.1 e))), λ e p. true≢false (sym (law.0 p) ∙ not-true t e))

pub meets_is : MeetsLaw
meets_is a (Lt t) x = (lt_met x (value_of a t), lt_says x (value_of a t))
meets_is a (Le t) x = (le_met x (value_of a t), le_says x (value_of a t))
meets_is a (Ge t) x = (le_met (value_of a t) x, le_says (value_of a t) x)
meets_is a (Gt t) x = (lt_met (value_of a t) x, lt_says (value_of a t) x)
meets_is a (Ne t) x = not_is (x ≡ value_of a t) (int_eq x (value_of a t)) ((Decides-int_eq x (value_of a t)).1, (Decides-int_eq x (value_of a t)).0)
meets_is a (Eq t) x = ((Decides-int_eq x (value_of a t)).1, (Decides-int_eq x (value_of a t)).0)
meets_is a (InSpan s) x = within_is s x
meets_is a (OutSpan s) x = not_is (IsWithin s x) (is_within s x) (within_is s x)
meets_is a (InSet vs) x = (λ h. h, λ h. h)
meets_is a (OutSet vs) x = (λ h. not_from_false (is_among vs x) h, λ h. not-true (is_among vs x) h)
