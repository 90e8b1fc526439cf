-- What is said of the items that `cumulative` is lowered to.
use Rattle.std.specs.Prelude.{◌≡◌, ℕ, ◌+◌, ◌*◌, ◌≤◌, ◌≤ℤ◌, true, List, Option, length}
use Rattle.std.specs.List.{AllByRecursion}
use Rattle.xf_num.specs.Span.{Bounds}
use Rattle.xs_model.specs.declared.instance.Constraint.TheVariants.{Cumulative}
use Rattle.xs_model.specs.declared.term.Cond.{Cond}
use Rattle.xs_model.specs.declared.term.Term.{Term}
use Rattle.xs_model.specs.Accepted.{IsFormed, IsMeasured, IsSoundConstraint, items_of}
use Rattle.xs_model.specs.Instance.{Holds}
use Rattle.xs_model.specs.Magnitude.{are_tasks}
use Rattle.xs_model.specs.Spans.{BeginsWithin}
use Rattle.lo_base.specs.Formed.{AreIntegers}
use Rattle.lo_rules.specs.Laws.{IsLowered}
use Rattle.lo_tasks.specs.Cumulative.{low_cumulative}

-- each range has members
abbrev pub AreOrdered : List Bounds → Type 0
AreOrdered ss = AllByRecursion (λ (s : Bounds). s.lo ≤ℤ s.hi) ss

-- the law: where the first variables have these bounds, the items of a well-formed constraint over them, whose lengths and
-- heights are never negative and whose magnitude is in order, mean that it holds
abbrev pub CumulativeLowered : Type 0
CumulativeLowered = (ss : List Bounds) (n : ℕ) (origins : List ℕ) (lengths heights : List Term) (ends : Option (List ℕ)) (cond : Cond)
    → IsFormed (length ss) (Cumulative origins lengths heights ends cond) → are_tasks ss lengths heights ≡ true → IsMeasured ss (Cumulative origins lengths heights ends cond) → AreOrdered ss → length ss ≤ n
    → IsLowered (BeginsWithin ss) (λ a. Holds (Cumulative origins lengths heights ends cond) a) (AreIntegers (length ss)) n (low_cumulative ss n origins lengths heights ends cond)
    (64 * ((1 + items_of (Cumulative origins lengths heights ends cond)) * (1 + items_of (Cumulative origins lengths heights ends cond))))

-- the same of a sound constraint
abbrev pub SoundCumulativeLowered : Type 0
SoundCumulativeLowered = (ss : List Bounds) (n : ℕ) (origins : List ℕ) (lengths heights : List Term) (ends : Option (List ℕ)) (cond : Cond)
    → IsSoundConstraint ss (Cumulative origins lengths heights ends cond) → AreOrdered ss → length ss ≤ n
    → IsLowered (BeginsWithin ss) (λ a. Holds (Cumulative origins lengths heights ends cond) a) (AreIntegers (length ss)) n (low_cumulative ss n origins lengths heights ends cond)
    (64 * ((1 + items_of (Cumulative origins lengths heights ends cond)) * (1 + items_of (Cumulative origins lengths heights ends cond))))
