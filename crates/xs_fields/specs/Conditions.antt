-- The conditions on a unit of an instance, in the order in which they are asked (the fault of a unit is its first
-- missed condition).
use Rattle.std.specs.Prelude.{◌≡◌, ℕ, Bool, true, false, not, nat_le, List, [], ◌∷◌, Option, None, Some, Result, Ok, Err, if◌then◌else◌}
use Rattle.std.specs.List.{find, list_all}
use Rattle.xf_text.specs.declared.fault.FieldStop.{FieldStop}
use Rattle.xf_text.specs.declared.fault.FieldStop.TheVariants.{Refused, Memory}
use Rattle.xf_text.specs.declared.fault.Kind.{Kind}
use Rattle.xf_text.specs.declared.fault.Kind.TheVariants.{Unknown, Depth, Shape, Range, Name, Many}
use Rattle.xs_fields.specs.declared.condition.Condition.{Condition}
use Rattle.xs_fields.specs.declared.condition.Condition.TheVariants.{Known, Nesting, Spelling, Magnitude, Naming, Counting, Fitting}

-- the conditions in order
abbrev pub in_order : List Condition
in_order = Known ∷ Nesting ∷ Spelling ∷ Magnitude ∷ Naming ∷ Counting ∷ Fitting ∷ []

-- the place of a condition in that order
abbrev pub rank : Condition → ℕ
rank Known = 1
rank Nesting = 2
rank Spelling = 3
rank Magnitude = 4
rank Naming = 5
rank Counting = 6
rank Fitting = 7

-- the kind of fault where a condition is the first that is missed
abbrev pub kind_of : Condition → Kind
kind_of Known = Unknown
kind_of Nesting = Depth
kind_of Spelling = Shape
kind_of Magnitude = Range
kind_of Naming = Name
kind_of Counting = Many
kind_of Fitting = Shape

-- the first condition whose test fails
abbrev pub first_missed : (Condition → Bool) → Option Condition
first_missed test = find (λ k. not (test k)) in_order

-- the one that is asked before the other
abbrev pub earlier_of : Option Condition → Option Condition → Option Condition
earlier_of None b = b
earlier_of (Some j) None = Some j
earlier_of (Some j) (Some k) = if nat_le (rank j) (rank k) then Some j else Some k

-- what a word's parsed value meets: it is spelt right, and its integers are small
abbrev pub meets : {A : Type 0} → (A → Bool) → Option A → Condition → Bool
meets small None Spelling = false
meets small None k = true
meets small (Some x) Magnitude = small x
meets small (Some x) k = true

-- the value of a word that meets both, else what it misses first
abbrev pub judged : {A : Type 0} → (A → Bool) → Option A → Result A Condition
judged small None = Err Spelling
judged small (Some x) = if small x then Ok x else Err Magnitude

-- each of the words meets the condition
abbrev pub all_meet : (List ℕ → Condition → Bool) → List (List ℕ) → Condition → Bool
all_meet test words k = list_all (λ w. test w k) words

-- the value, where no condition is missed, else the kind of the first missed one
abbrev pub answer_on : {A : Type 0} → Option Condition → A → Result A FieldStop
answer_on None value = Ok value
answer_on (Some k) value = Err (Refused (kind_of k))

abbrev pub answer : {A : Type 0} → (Condition → Bool) → A → Result A FieldStop
answer test value = answer_on (first_missed test) value

-- the result is as told, or memory was wanting
abbrev pub IsOrMemory : {A : Type 0} → Result A FieldStop → Result A FieldStop → Type 0
IsOrMemory (Ok x) told = Ok x ≡ told
IsOrMemory (Err (Refused kind)) told = Err (Refused kind) ≡ told
IsOrMemory (Err Memory) told = Unit {0}
