-- The tokens of an expression (XCSP3-core, "Intensional constraints", functional notation).
use Rattle.std.specs.Prelude.{ℕ, Bool, false, not, ◌&&◌, List, [], ◌∷◌, ◌++◌, codes}
use Rattle.std.specs.List.{list_all}
use Rattle.std.specs.Str.{bytes_eq}
use Rattle.xs_expr.specs.Text.{name_of}
use Rattle.xs_notation.specs.declared.raw.Raw.{Raw, fold-Raw}
use Rattle.xs_notation.specs.declared.raw.Raw.TheOpen.{Raw-F}

-- the tokens of operands, a comma before each
abbrev pub behind : List (List (List ℕ)) → List (List ℕ)
behind [] = []
behind (t ∷ ts) = codes "," ∷ (t ++ behind ts)

-- the tokens of operands, a comma between any two
abbrev pub listed : List (List (List ℕ)) → List (List ℕ)
listed [] = []
listed (t ∷ ts) = t ++ behind ts

abbrev pub flat_step : Raw-F (List (List ℕ)) → List (List ℕ)
flat_step (Raw-F.Word w) = w ∷ []
flat_step (Raw-F.Call op ts) = name_of op ∷ codes "(" ∷ (listed ts ++ (codes ")" ∷ []))

-- a word is its own token; a call is its operator's name, `(`, the operands with commas between them, `)`
abbrev pub flat : Raw → List (List ℕ)
flat = fold-Raw (List (List ℕ)) flat_step

-- a word is neither empty nor a mark
abbrev pub is_plain : List ℕ → Bool
is_plain [] = false
is_plain (b ∷ bs) = not (bytes_eq (b ∷ bs) (codes "(")) && (not (bytes_eq (b ∷ bs) (codes ")")) && not (bytes_eq (b ∷ bs) (codes ",")))

abbrev pub plain_step : Raw-F Bool → Bool
plain_step (Raw-F.Word w) = is_plain w
plain_step (Raw-F.Call op ps) = list_all (λ p. p) ps

-- each word of an expression is so
abbrev pub are_plain : Raw → Bool
are_plain = fold-Raw Bool plain_step
