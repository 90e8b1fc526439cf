-- The bytes of a named file, and what they are read as.
use Rattle.std.specs.Prelude.{◌≡◌, ◌⊎◌, ℕ, ◌<◌, ◌≤◌, List, length, Option, Some, None}
use Rattle.xf_text.specs.Outside.{file_named}
use Rattle.xf_text.specs.declared.fault.Fault.{Fault}
use Rattle.xf_text.specs.declared.fault.Kind.TheVariants.{Long}
use Rattle.xf_text.specs.declared.fault.Stop.{Stop}
use Rattle.xf_text.specs.declared.fault.Stop.TheVariants.{Memory, Refused}
use Rattle.xf_text.specs.declared.outside.Stored.{Stored}
use Rattle.xf_num.specs.Limits as limits

-- the most bytes of a file
abbrev pub most_bytes : ℕ
most_bytes = limits.most_bytes

abbrev pub long_fault : Fault
long_fault = record { kind = Long; place = most_bytes }

-- a file has one of two fates: its bytes are no more than the most, and are read as a value of its format
abbrev pub IsReadAs : {X : Type 0} → (List ℕ → X → Type 0) → List ℕ → X → Type 0
IsReadAs accepts bytes x = (length bytes ≤ most_bytes) × accepts bytes x

-- or there are too many of them, or they have a fault
abbrev pub IsRefusedAs : (List ℕ → Fault → Type 0) → List ℕ → Fault → Type 0
IsRefusedAs refuses bytes fault = ((most_bytes < length bytes) × (fault ≡ long_fault)) ⊎ ((length bytes ≤ most_bytes) × refuses bytes fault)

-- why bytes were not read: they have a fault, or memory was wanting
abbrev pub StopsBy : (Fault → Type 0) → Stop → Type 0
StopsBy refuses (Refused fault) = refuses fault
StopsBy refuses Memory = Unit {0}

-- where the files are told, one has the name, and P holds of its bytes
abbrev pub AtBytes : Option (List ℕ) → (List ℕ → Type 0) → Type 0
AtBytes None P = ⊥
AtBytes (Some bytes) P = P bytes

abbrev pub AtFile : Option (List Stored) → List ℕ → (List ℕ → Type 0) → Type 0
AtFile None name P = Unit {0}
AtFile (Some files) name P = AtBytes (file_named name files) P

-- bytes are read as one value at most, or have one fault at most, and never both
pub record IsOne {X : Type 0} (accepts : List ℕ → X → Type 0) (refuses : List ℕ → Fault → Type 0) : Type 0 where
  pub values : (bytes : List ℕ) (x y : X) → accepts bytes x → accepts bytes y → x ≡ y
  pub faults : (bytes : List ℕ) (f g : Fault) → refuses bytes f → refuses bytes g → f ≡ g
  pub apart : (bytes : List ℕ) (x : X) (f : Fault) → accepts bytes x → refuses bytes f → ⊥
