-- What is said of the items that an objective is lowered to, behind variables the first of which are integers within the
-- bounds ss.
use Rattle.std.specs.Prelude.{◌≡◌, ℕ, ◌+◌, ◌*◌, ◌<◌, ◌≤◌, ℤ, Bool, true, false, List, ◌++◌, length, slice_get, Some}
use Rattle.fz_model.specs.Meaning.{at}
use Rattle.lo_base.specs.Formed.{AreIntegers, kinds_of}
use Rattle.lo_base.specs.Item.{made}
use Rattle.lo_base.specs.Solved.{Meets}
use Rattle.lo_emit.specs.declared.term.Term.TheVariants.{Var}
use Rattle.lo_emit.specs.Emitted.{Out}
use Rattle.lo_formed.specs.Laws.{AreOrdered}
use Rattle.lo_goals.specs.Goal.{is_lowered_body, low_body}
use Rattle.lo_rules.specs.Laws.{IsLowered}
use Rattle.lo_rules.specs.Rule.{Always}
use Rattle.xf_num.specs.Span.{Bounds}
use Rattle.xs_model.specs.declared.instance.Body.{Body}
use Rattle.xs_model.specs.Accepted.{IsSoundBody}
use Rattle.xs_model.specs.Fields.{body_fields}
use Rattle.xs_model.specs.Formed.{count_in}
use Rattle.xs_model.specs.Instance.{body_value}
use Rattle.xs_model.specs.Spans.{BeginsWithin}

-- The items can always be met, by values that are one; a variable that is named has the value f in them, and is an integer.
pub record IsNamed (ss : List Bounds) (n : ℕ) (c : Out) (w : ℕ) (f : List ℤ → ℤ) : Type 0 where
  pub lowered : IsLowered (BeginsWithin ss) Always (AreIntegers (length ss)) n c.items w
  pub variable : ℕ
  pub named : c.term ≡ Var variable
  pub before : variable < n + made c.items
  pub value : (b : List ℤ) → BeginsWithin ss b → Meets n c.items b → at b variable ≡ f b
  pub integer : (booleans : List Bool) → length booleans ≡ n → AreIntegers (length ss) booleans → slice_get (booleans ++ kinds_of c.items) variable ≡ Some false

-- a square in the items of an objective
abbrev pub square_of : Body → ℕ
square_of b = (1 + count_in (body_fields b)) * (1 + count_in (body_fields b))

-- the law: the named variable has the value of the objective
abbrev pub BodyLowered : Type 0
BodyLowered = (ss : List Bounds) (n : ℕ) (b : Body) → IsSoundBody ss b → is_lowered_body b ≡ true → AreOrdered ss → length ss ≤ n → IsNamed ss n (low_body ss n b) (64 * square_of b) (body_value b)
