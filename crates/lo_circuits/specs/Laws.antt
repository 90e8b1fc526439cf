-- What is said of the items that `circuit` is lowered to.
use Rattle.std.specs.Prelude.{ℕ, ◌+◌, ◌*◌, ◌≤◌, ◌≤ℤ◌, ℤ, Bool, List, Option, length}
use Rattle.std.specs.List.{AllByRecursion}
use Rattle.xf_num.specs.Span.{Bounds}
use Rattle.xs_model.specs.declared.instance.Constraint.TheVariants.{Circuit}
use Rattle.xs_model.specs.declared.term.Term.{Term as Operand}
use Rattle.xs_model.specs.Accepted.{IsFormed, IsMeasured, IsSoundConstraint, items_of}
use Rattle.xs_model.specs.Instance.{Holds}
use Rattle.xs_model.specs.Spans.{BeginsWithin}
use Rattle.lo_base.specs.Formed.{AreIntegers}
use Rattle.lo_circuits.specs.Circuit.{low_circuit}
use Rattle.lo_rules.specs.Laws.{IsLowered}
use Rattle.lo_rules.specs.Rule.{Always}

-- the law: behind variables of which the first are integers of these bounds, the items of a well-formed constraint over
-- these, whose magnitude is not too great, mean that it holds
abbrev pub CircuitLowered : Type 0
CircuitLowered = (ss : List Bounds) (n : ℕ) (list : List ℕ) (start : ℤ) (size : Option Operand) → IsFormed (length ss) (Circuit list start size) → IsMeasured ss (Circuit list start size) → length ss ≤ n
    → IsLowered Always (λ a. Holds (Circuit list start size) a) (AreIntegers (length ss)) n (low_circuit n list start size)
    (64 * ((1 + items_of (Circuit list start size)) * (1 + items_of (Circuit list start size))))

-- each range has members
abbrev pub AreOrdered : List Bounds → Type 0
AreOrdered ss = AllByRecursion (λ (s : Bounds). s.lo ≤ℤ s.hi) ss

-- the kinds of variables of which the first have these bounds and are integers
abbrev pub AreBounded : List Bounds → List Bool → Type 0
AreBounded ss booleans = AreIntegers (length ss) booleans × AreOrdered ss

-- the law of a sound constraint over variables of these bounds
abbrev pub SoundCircuitLowered : Type 0
SoundCircuitLowered = (ss : List Bounds) (n : ℕ) (list : List ℕ) (start : ℤ) (size : Option Operand) → IsSoundConstraint ss (Circuit list start size) → length ss ≤ n
    → IsLowered (BeginsWithin ss) (λ a. Holds (Circuit list start size) a) (AreBounded ss) n (low_circuit n list start size)
    (64 * ((1 + items_of (Circuit list start size)) * (1 + items_of (Circuit list start size))))
