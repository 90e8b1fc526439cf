-- What is said of the items that `noOverlap` is lowered to.
use Rattle.std.specs.Prelude.{ℕ, ◌+◌, ◌*◌, ◌≤◌, ◌≤ℤ◌, Bool, List, length}
use Rattle.std.specs.List.{AllByRecursion}
use Rattle.xf_num.specs.Span.{Bounds}
use Rattle.xs_model.specs.declared.instance.Constraint.TheVariants.{NoOverlap}
use Rattle.xs_model.specs.declared.term.Term.{Term}
use Rattle.xs_model.specs.Accepted.{IsFormed, IsSoundConstraint, items_of}
use Rattle.xs_model.specs.Instance.{Holds}
use Rattle.xs_model.specs.Spans.{BeginsWithin}
use Rattle.lo_base.specs.Formed.{AreIntegers}
use Rattle.lo_boxes.specs.Boxes.{low_no_overlap}
use Rattle.lo_rules.specs.Laws.{IsLowered}
use Rattle.lo_rules.specs.Rule.{Always}

-- the laws: behind variables of which the first m are integers, the items of a well-formed constraint over these mean that
-- it holds
abbrev pub NoOverlapLowered : Type 0
NoOverlapLowered = (m n : ℕ) (origins : List (List ℕ)) (lengths : List (List Term)) (zero_ignored : Bool) → IsFormed m (NoOverlap origins lengths zero_ignored) → m ≤ n
    → IsLowered Always (λ a. Holds (NoOverlap origins lengths zero_ignored) a) (AreIntegers m) n (low_no_overlap n origins lengths zero_ignored)
    (64 * ((1 + items_of (NoOverlap origins lengths zero_ignored)) * (1 + items_of (NoOverlap origins lengths zero_ignored))))

-- each range has members
abbrev pub AreOrdered : List Bounds → Type 0
AreOrdered ss = AllByRecursion (λ (s : Bounds). s.lo ≤ℤ s.hi) ss

-- the kinds of variables of which the first have these bounds and are integers
abbrev pub AreBounded : List Bounds → List Bool → Type 0
AreBounded ss booleans = AreIntegers (length ss) booleans × AreOrdered ss

-- the laws of a sound constraint over variables of these bounds
abbrev pub SoundNoOverlapLowered : Type 0
SoundNoOverlapLowered = (ss : List Bounds) (n : ℕ) (origins : List (List ℕ)) (lengths : List (List Term)) (zero_ignored : Bool) → IsSoundConstraint ss (NoOverlap origins lengths zero_ignored) → length ss ≤ n
    → IsLowered (BeginsWithin ss) (λ a. Holds (NoOverlap origins lengths zero_ignored) a) (AreBounded ss) n (low_no_overlap n origins lengths zero_ignored)
    (64 * ((1 + items_of (NoOverlap origins lengths zero_ignored)) * (1 + items_of (NoOverlap origins lengths zero_ignored))))
