-- The words of an `args`.
use Rattle.std.proofs.Common.{◌≡◌, ℕ, ◌<◌, Bool, true, false, None, List, [], ◌∷◌, length, refl, arith, if◌then◌else◌}
use Rattle.xs_fields.specs.Words.{parts, onto_first}
use Rattle.xs_words.specs.Args.{copied_in}

some_onto : (b : ℕ) (ps : List (List ℕ)) → 0 < length ps → 0 < length (onto_first b ps)
some_onto b [] h = omega arith
some_onto b (p ∷ ps) h = omega arith

some_parts : (test : ℕ → Bool) (bytes : List ℕ) → 0 < length (parts test bytes)
some_parts test [] = omega arith
some_parts test (b ∷ bs) = by (test b) (some_onto b (parts test bs) (some_parts test bs))
  where
    by : (v : Bool) → 0 < length (onto_first b (parts test bs)) → 0 < length (if v then [] ∷ parts test bs else onto_first b (parts test bs))
    by true h = omega arith
    by false h = h

three : (v k : List ℕ) (ps : List (List ℕ)) → 0 < length ps → copied_in (v ∷ k ∷ ps) ≡ None
three v k [] h = absurd (omega arith)
three v k (p ∷ ps) h = refl

-- more than two parts are no copies
pub not_copied : (test : ℕ → Bool) (v k bytes : List ℕ) → copied_in (v ∷ k ∷ parts test bytes) ≡ None
not_copied test v k bytes = three v k (parts test bytes) (some_parts test bytes)
