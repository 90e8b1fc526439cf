-- What is said of the items that constraints are lowered to, behind variables the first of which are integers within the
-- bounds ss.
use Rattle.std.specs.Prelude.{◌≡◌, ℕ, ◌+◌, ◌*◌, ◌≤◌, ℤ, true, List, length, map, sum}
use Rattle.std.specs.List.{AllByRecursion}
use Rattle.xf_num.specs.Span.{Bounds}
use Rattle.xs_model.specs.declared.instance.Constraint.{Constraint}
use Rattle.xs_model.specs.Accepted.{IsSoundConstraint, items_of}
use Rattle.xs_model.specs.Instance.{Holds}
use Rattle.xs_model.specs.Spans.{BeginsWithin}
use Rattle.lo_base.specs.Formed.{AreIntegers}
use Rattle.lo_formed.specs.Laws.{AreOrdered}
use Rattle.lo_instance.specs.Form.{low_form, low_all}
use Rattle.lo_rules.specs.Laws.{IsLowered}

-- the square of one more than the items of a constraint
abbrev pub square_of : Constraint → ℕ
square_of c = (1 + items_of c) * (1 + items_of c)

-- the law: the items of a sound constraint mean that it holds, among values within the bounds
abbrev pub FormLowered : Type 0
FormLowered = (ss : List Bounds) (n : ℕ) (c : Constraint) → IsSoundConstraint ss c → AreOrdered ss → length ss ≤ n
    → IsLowered (BeginsWithin ss) (λ a. Holds c a) (AreIntegers (length ss)) n (low_form ss n c) (64 * square_of c)

-- all of them hold
abbrev pub AllHold : List Constraint → List ℤ → Type 0
AllHold cs a = AllByRecursion (λ c. Holds c a) cs

-- the law: the items of sound constraints, one after the other, mean that all of them hold
abbrev pub AllLowered : Type 0
AllLowered = (ss : List Bounds) (n : ℕ) (cs : List Constraint) → AllByRecursion (IsSoundConstraint ss) cs → AreOrdered ss → length ss ≤ n
    → IsLowered (BeginsWithin ss) (AllHold cs) (AreIntegers (length ss)) n (low_all ss n cs) (64 * sum (map square_of cs))
