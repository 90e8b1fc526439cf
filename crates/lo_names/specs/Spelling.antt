-- How a direct word is written as a FlatZinc name (MiniZinc Handbook, "FlatZinc grammar": identifiers). A FlatZinc
-- identifier has letters, digits and `_` alone, so brackets are written by `_`, and a `_` of the word is doubled.
use Rattle.std.specs.Prelude.{◌≡◌, ℕ, ◌<◌, ◌==◌, true, if◌then◌else◌, List, [], ◌∷◌, ◌++◌, length, codes}
use Rattle.std.specs.List.{AllByRecursion, flat_map, list_all}
use Rattle.xs_model.specs.Identifier.{IsIdentifier, is_digit}

-- a byte of a direct word: `_` is doubled, `[` is written `_`, and `]` is left out
abbrev pub spelled_byte : ℕ → List ℕ
spelled_byte b = if b == 95 then codes "__" else if b == 91 then codes "_" else if b == 93 then [] else b ∷ []

-- the FlatZinc name of a direct word
abbrev pub spelled : List ℕ → List ℕ
spelled word = codes "v_" ++ flat_map spelled_byte word

-- one or more digits
abbrev pub IsIndex : List ℕ → Type 0
IsIndex ds = (0 < length ds) × (list_all is_digit ds ≡ true)

-- an identifier, and then any number of indices in brackets (XCSP3-core, "Arrays of variables")
pub record IsDirectWord (word : List ℕ) : Type 0 where
  pub name : List ℕ
  pub indices : List (List ℕ)
  pub identifier : IsIdentifier name
  pub each : AllByRecursion IsIndex indices
  pub whole : word ≡ name ++ flat_map (λ ds. codes "[" ++ (ds ++ codes "]")) indices

-- no two direct words have one name
abbrev pub IsInjectiveOnWords : Type 0
IsInjectiveOnWords = (v w : List ℕ) → IsDirectWord v → IsDirectWord w → spelled v ≡ spelled w → v ≡ w

-- no name is that of an auxiliary or of a constant: these begin with `a_` and `c_`
abbrev pub IsApart : Type 0
IsApart = (word rest : List ℕ) → (spelled word ≡ codes "a_" ++ rest → ⊥) × (spelled word ≡ codes "c_" ++ rest → ⊥)
