-- What is said of the items that `regular` and `mdd` are lowered to.
use Rattle.std.specs.Prelude.{ℕ, ◌+◌, ◌*◌, ◌≤◌, ◌≤ℤ◌, ℤ, Bool, List, length}
use Rattle.std.specs.List.{AllByRecursion}
use Rattle.xf_num.specs.Span.{Bounds}
use Rattle.xs_model.specs.declared.instance.Constraint.TheVariants.{Regular, Mdd}
use Rattle.xs_model.specs.declared.instance.Edge.{Edge}
use Rattle.xs_model.specs.Accepted.{IsFormed, IsSoundConstraint, items_of}
use Rattle.xs_model.specs.Instance.{Holds}
use Rattle.xs_model.specs.Spans.{BeginsWithin}
use Rattle.lo_base.specs.Formed.{AreIntegers}
use Rattle.lo_paths.specs.Path.{low_regular, low_mdd}
use Rattle.lo_rules.specs.Laws.{IsLowered}
use Rattle.lo_rules.specs.Rule.{Always}

-- the laws: behind variables of which the first m are integers, the items of a well-formed constraint over these mean that
-- it holds
abbrev pub RegularLowered : Type 0
RegularLowered = (m n : ℕ) (list : List ℕ) (edges : List Edge) (start : ℕ) (finals : List ℕ) → IsFormed m (Regular list edges start finals) → m ≤ n
    → IsLowered Always (λ a. Holds (Regular list edges start finals) a) (AreIntegers m) n (low_regular n list edges start finals)
    (64 * ((1 + items_of (Regular list edges start finals)) * (1 + items_of (Regular list edges start finals))))

abbrev pub MddLowered : Type 0
MddLowered = (m n : ℕ) (list : List ℕ) (edges : List Edge) (root leaf : ℕ) → IsFormed m (Mdd list edges root leaf) → m ≤ n
    → IsLowered Always (λ a. Holds (Mdd list edges root leaf) a) (AreIntegers m) n (low_mdd n list edges root leaf)
    (64 * ((1 + items_of (Mdd list edges root leaf)) * (1 + items_of (Mdd list edges root leaf))))

-- each range has members
abbrev pub AreOrdered : List Bounds → Type 0
AreOrdered ss = AllByRecursion (λ (s : Bounds). s.lo ≤ℤ s.hi) ss

-- the kinds of variables of which the first have these bounds and are integers
abbrev pub AreBounded : List Bounds → List Bool → Type 0
AreBounded ss booleans = AreIntegers (length ss) booleans × AreOrdered ss

-- the laws of a sound constraint over variables of these bounds
abbrev pub SoundRegularLowered : Type 0
SoundRegularLowered = (ss : List Bounds) (n : ℕ) (list : List ℕ) (edges : List Edge) (start : ℕ) (finals : List ℕ) → IsSoundConstraint ss (Regular list edges start finals) → length ss ≤ n
    → IsLowered (BeginsWithin ss) (λ a. Holds (Regular list edges start finals) a) (AreBounded ss) n (low_regular n list edges start finals)
    (64 * ((1 + items_of (Regular list edges start finals)) * (1 + items_of (Regular list edges start finals))))

abbrev pub SoundMddLowered : Type 0
SoundMddLowered = (ss : List Bounds) (n : ℕ) (list : List ℕ) (edges : List Edge) (root leaf : ℕ) → IsSoundConstraint ss (Mdd list edges root leaf) → length ss ≤ n
    → IsLowered (BeginsWithin ss) (λ a. Holds (Mdd list edges root leaf) a) (AreBounded ss) n (low_mdd n list edges root leaf)
    (64 * ((1 + items_of (Mdd list edges root leaf)) * (1 + items_of (Mdd list edges root leaf))))
