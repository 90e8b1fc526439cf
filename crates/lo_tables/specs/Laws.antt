-- What is said of the items that `extension` is lowered to.
use Rattle.std.specs.Prelude.{ℕ, ◌+◌, ◌*◌, ◌≤◌, ◌≤ℤ◌, ℤ, Bool, List, Option, length}
use Rattle.std.specs.List.{AllByRecursion}
use Rattle.xf_num.specs.Span.{Bounds}
use Rattle.xs_model.specs.declared.instance.Constraint.TheVariants.{Extension, Unary}
use Rattle.xs_model.specs.Accepted.{IsFormed, IsSoundConstraint, items_of}
use Rattle.xs_model.specs.Instance.{Holds}
use Rattle.xs_model.specs.Spans.{BeginsWithin}
use Rattle.lo_base.specs.Formed.{AreIntegers}
use Rattle.lo_rules.specs.Laws.{IsLowered}
use Rattle.lo_rules.specs.Rule.{Always}
use Rattle.lo_tables.specs.Table.{low_extension}
use Rattle.lo_tables.specs.Unary.{low_unary}

-- the laws: behind variables of which the first m are integers, the items of a well-formed constraint over these mean that
-- it holds
abbrev pub ExtensionLowered : Type 0
ExtensionLowered = (m n : ℕ) (list : List ℕ) (tuples : List (List (Option ℤ))) (positive : Bool) → IsFormed m (Extension list tuples positive) → m ≤ n
    → IsLowered Always (λ a. Holds (Extension list tuples positive) a) (AreIntegers m) n (low_extension n list tuples positive)
    (64 * ((1 + items_of (Extension list tuples positive)) * (1 + items_of (Extension list tuples positive))))

abbrev pub UnaryLowered : Type 0
UnaryLowered = (m n v : ℕ) (spans : List Bounds) (positive : Bool) → IsFormed m (Unary v spans positive) → m ≤ n
    → IsLowered Always (λ a. Holds (Unary v spans positive) a) (AreIntegers m) n (low_unary n v spans positive)
    (64 * ((1 + items_of (Unary v spans positive)) * (1 + items_of (Unary v spans positive))))

-- each range has members
abbrev pub AreOrdered : List Bounds → Type 0
AreOrdered ss = AllByRecursion (λ (s : Bounds). s.lo ≤ℤ s.hi) ss

-- the kinds of variables of which the first have these bounds and are integers
abbrev pub AreBounded : List Bounds → List Bool → Type 0
AreBounded ss booleans = AreIntegers (length ss) booleans × AreOrdered ss

-- the laws of a sound constraint over variables of these bounds
abbrev pub SoundExtensionLowered : Type 0
SoundExtensionLowered = (ss : List Bounds) (n : ℕ) (list : List ℕ) (tuples : List (List (Option ℤ))) (positive : Bool) → IsSoundConstraint ss (Extension list tuples positive) → length ss ≤ n
    → IsLowered (BeginsWithin ss) (λ a. Holds (Extension list tuples positive) a) (AreBounded ss) n (low_extension n list tuples positive)
    (64 * ((1 + items_of (Extension list tuples positive)) * (1 + items_of (Extension list tuples positive))))

abbrev pub SoundUnaryLowered : Type 0
SoundUnaryLowered = (ss : List Bounds) (n v : ℕ) (spans : List Bounds) (positive : Bool) → IsSoundConstraint ss (Unary v spans positive) → length ss ≤ n
    → IsLowered (BeginsWithin ss) (λ a. Holds (Unary v spans positive) a) (AreBounded ss) n (low_unary n v spans positive)
    (64 * ((1 + items_of (Unary v spans positive)) * (1 + items_of (Unary v spans positive))))
