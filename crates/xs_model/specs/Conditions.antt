-- Terms, relations and conditions (XCSP3-core, "Semantics of conditions").
use Rattle.std.specs.Prelude.{◌≡◌, ◌≢◌, ℤ, ◌≤ℤ◌, ◌<ℤ◌, List, true, false}
use Rattle.xf_num.specs.Span.{IsWithin}
use Rattle.xs_model.specs.declared.term.Term.{Term}
use Rattle.xs_model.specs.declared.term.Term.TheVariants.{Int, Var}
use Rattle.xs_model.specs.declared.term.Rel.{Rel}
use Rattle.xs_model.specs.declared.term.Rel.TheVariants as rel
use Rattle.xs_model.specs.declared.term.Cond.{Cond}
use Rattle.xs_model.specs.declared.term.Cond.TheVariants.{Lt, Le, Ge, Gt, Ne, Eq, InSpan, OutSpan, InSet, OutSet}
use Rattle.xs_model.specs.Lists.{is_among}
use Rattle.xs_model.specs.Value.{at}

-- the value of a term under an assignment
abbrev pub value_of : List ℤ → Term → ℤ
value_of a (Int z) = z
value_of a (Var v) = at a v

-- x stands so to y
abbrev pub Related : Rel → ℤ → ℤ → Type 0
Related rel.Lt x y = x <ℤ y
Related rel.Le x y = x ≤ℤ y
Related rel.Ge x y = y ≤ℤ x
Related rel.Gt x y = y <ℤ x

-- x meets the condition under an assignment
abbrev pub Meets : List ℤ → Cond → ℤ → Type 0
Meets a (Lt t) x = x <ℤ value_of a t
Meets a (Le t) x = x ≤ℤ value_of a t
Meets a (Ge t) x = value_of a t ≤ℤ x
Meets a (Gt t) x = value_of a t <ℤ x
Meets a (Ne t) x = x ≢ value_of a t
Meets a (Eq t) x = x ≡ value_of a t
Meets a (InSpan s) x = IsWithin s x
Meets a (OutSpan s) x = ¬ (IsWithin s x)
Meets a (InSet vs) x = is_among vs x ≡ true
Meets a (OutSet vs) x = is_among vs x ≡ false
