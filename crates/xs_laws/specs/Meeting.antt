-- Whether a number meets a condition (XCSP3-core, "Semantics of conditions"), as a test.
use Rattle.std.specs.Prelude.{◌≡◌, ◌↔◌, ℤ, int_le, int_lt, List, Bool, true, not, ◌&&◌}
use Rattle.std.specs.Ordering.{int_eq}
use Rattle.xf_num.specs.Span.{Bounds}
use Rattle.xs_model.specs.declared.term.Cond.{Cond}
use Rattle.xs_model.specs.declared.term.Cond.TheVariants.{Lt, Le, Ge, Gt, Ne, Eq, InSpan, OutSpan, InSet, OutSet}
use Rattle.xs_model.specs.Conditions.{value_of, Meets}
use Rattle.xs_model.specs.Lists.{is_among}

-- whether x lies between the ends
abbrev pub is_within : Bounds → ℤ → Bool
is_within b x = int_le b.lo x && int_le x b.hi

-- whether x meets the condition under an assignment
abbrev pub meets : List ℤ → Cond → ℤ → Bool
meets a (Lt t) x = int_lt x (value_of a t)
meets a (Le t) x = int_le x (value_of a t)
meets a (Ge t) x = int_le (value_of a t) x
meets a (Gt t) x = int_lt (value_of a t) x
meets a (Ne t) x = not (int_eq x (value_of a t))
meets a (Eq t) x = int_eq x (value_of a t)
meets a (InSpan s) x = is_within s x
meets a (OutSpan s) x = not (is_within s x)
meets a (InSet vs) x = is_among vs x
meets a (OutSet vs) x = not (is_among vs x)

-- the law: the test tells it
abbrev pub MeetsLaw : Type 0
MeetsLaw = (a : List ℤ) (cond : Cond) (x : ℤ) → Meets a cond x ↔ (meets a cond x ≡ true)
