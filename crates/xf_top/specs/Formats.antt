-- What a file may be read as beside the formats of other crates: an instance or a model.
use Rattle.std.specs.Prelude.{◌≡◌, ◌⊎◌, ◌==◌, ◌||◌, ℕ, Bool, true, false, List, [], ◌∷◌, None, drop, nat_eq, if◌then◌else◌}
use Rattle.std.specs.List.{starts_with}
use Rattle.fz_read.specs.Reading as fz
use Rattle.xf_markup.specs.Reading.{is_space}
use Rattle.xf_text.specs.declared.fault.Fault.{Fault}
use Rattle.xf_top.specs.declared.formats.Either.{Either}
use Rattle.xf_top.specs.declared.formats.Either.TheVariants.{Markup, Flat}
use Rattle.xs_file.specs.Reading.{IsFaulty, Spells}
use Rattle.xs_model.specs.Accepted.{IsAccepted}

-- what stands behind a byte order mark
abbrev pub past_mark : List ℕ → List ℕ
past_mark bytes = if starts_with nat_eq bytes (239 ∷ 187 ∷ 191 ∷ []) then drop 3 bytes else bytes

-- the first byte that is no whitespace is `<`
abbrev pub begins_with_tag : List ℕ → Bool
begins_with_tag [] = false
begins_with_tag (b ∷ bs) = if is_space b then begins_with_tag bs else b == 60

-- the bytes begin as markup does
abbrev pub is_markup : List ℕ → Bool
is_markup bytes = begins_with_tag (past_mark bytes)

-- an instance where the bytes begin as markup does, else a model
abbrev pub IsEither : List ℕ → Either → Type 0
IsEither bytes (Markup i) = (is_markup bytes ≡ true) × Spells bytes i
IsEither bytes (Flat m) = (is_markup bytes ≡ false) × fz.Spells None bytes m

abbrev pub IsNeither : List ℕ → Fault → Type 0
IsNeither bytes fault = ((is_markup bytes ≡ true) × IsFaulty bytes fault) ⊎ ((is_markup bytes ≡ false) × fz.IsFaulty None bytes fault)

-- an instance that is read is accepted
abbrev pub IsKnown : Either → Type 0
IsKnown (Markup i) = IsAccepted i
IsKnown (Flat m) = Unit {0}
