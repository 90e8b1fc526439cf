-- What is known of files and of what takes bytes.
use Rattle.std.specs.Prelude.{◌≡◌, ◌⊎◌, ℕ, ◌-◌, ◌<◌, ◌≤◌, ◌^◌, Option, Some, None, List, [], ◌∷◌, ◌++◌, length, take, drop, bytes_eq, cond}
use Rattle.xf_text.specs.declared.outside.Stored.{Stored}

-- a count of faults is greater than before, or stands at its last value
abbrev pub Rose : ℕ → ℕ → Type 0
Rose old new = (old < new) ⊎ (new ≡ 2 ^ 64 - 1)

-- the bytes of the first file of a name
abbrev pub file_named : List ℕ → List Stored → Option (List ℕ)
file_named name [] = None
file_named name (f ∷ fs) = cond (bytes_eq f.name name) (Some f.bytes) (file_named name fs)

-- the same, where the files are told
abbrev pub bytes_at : Option (List Stored) → List ℕ → Option (List ℕ)
bytes_at None name = None
bytes_at (Some fs) name = file_named name fs

-- where the bytes are told, these were appended, and the bytes are still told
abbrev pub Appended : Option (List ℕ) → Option (List ℕ) → List ℕ → Type 0
Appended None new xs = Unit {0}
Appended (Some bs) new xs = new ≡ Some (bs ++ xs)

-- where the bytes are told, a prefix of these was appended
abbrev pub AppendedFront : Option (List ℕ) → Option (List ℕ) → List ℕ → Type 0
AppendedFront old new xs = (k : ℕ) × Appended old new (take k xs)

-- where what is left is told, these are its first bytes, and the others are left now
abbrev pub Taken : Option (List ℕ) → Option (List ℕ) → List ℕ → Type 0
Taken None now xs = Unit {0}
Taken (Some bytes) now xs = (rest : List ℕ) × (xs ++ rest ≡ bytes) × (now ≡ Some rest)

-- where the file is told, so many of its bytes were taken, and the others are left
abbrev pub Took : Option (List ℕ) → Option (List ℕ) → ℕ → Type 0
Took None left k = Unit {0}
Took (Some bytes) left k = (k ≤ length bytes) × (left ≡ Some (drop k bytes))

-- the same of a number up to this
abbrev pub TookAtMost : Option (List ℕ) → Option (List ℕ) → ℕ → Type 0
TookAtMost file left most = (k : ℕ) × (k ≤ most) × Took file left k
