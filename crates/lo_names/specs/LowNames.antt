-- The names of a lowered model: those that direct words are spelled by, and then those of its auxiliaries.
use Rattle.std.specs.Prelude.{◌≢◌, ℕ, ◌≤◌, ◌^◌, List, ◌++◌, map, codes, AllPairs}
use Rattle.std.specs.List.{AllByRecursion, range_with_len}
use Rattle.std.specs.Fmt.{decimal}
use Rattle.fz_model.specs.Sound.{IsName}
use Rattle.lo_names.specs.Spelling.{spelled, IsDirectWord}

abbrev pub auxiliary_name : ℕ → List ℕ
auxiliary_name k = codes "a_" ++ decimal k

-- with n auxiliaries
abbrev pub low_names : List (List ℕ) → ℕ → List (List ℕ)
low_names words n = map spelled words ++ map auxiliary_name (range_with_len 0 n)

-- of direct words that differ: the names are identifiers, no words of the grammar, and differ
abbrev pub AreLowNames : Type 0
AreLowNames = (words : List (List ℕ)) (n : ℕ) → AllByRecursion IsDirectWord words → AllPairs (λ v w. v ≢ w) words → n ≤ 2 ^ 64 → AllByRecursion IsName (low_names words n) × AllPairs (λ a b. a ≢ b) (low_names words n)
