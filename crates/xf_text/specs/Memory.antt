-- Files and bytes in memory.
use Rattle.std.specs.Prelude.{ℕ, ◌+◌, ◌-◌, ◌^◌, min, Option, Some, None, List, [], drop, ℤ, pos, slice_get, unwrap_or, option_map}
use Rattle.std.specs.List.{Contains}
use Rattle.xf_text.specs.declared.outside.Stored.{Stored}

-- the bytes of the file at a place, none past the end
abbrev pub bytes_of : List Stored → ℕ → List ℕ
bytes_of files i = unwrap_or (option_map (λ f. f.bytes) (slice_get files i)) []

-- what is left of the begun file
abbrev pub left_of : List Stored → Option ℕ → ℕ → Option (List ℕ)
left_of files None at = None
left_of files (Some i) at = Some (drop at (bytes_of files i))

-- the number of the call after so many
abbrev pub next_call : ℕ → ℕ
next_call made = min (made + 1) (2 ^ 64 - 1)

-- the call after so many is one of those that are to fail
abbrev pub IsToFail : List ℤ → ℕ → Type 0
IsToFail fails made = Contains fails (pos (next_call made))
