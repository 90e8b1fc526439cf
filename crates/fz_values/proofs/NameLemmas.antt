-- What a map by texts says of the list of its names.
use Rattle.std.proofs.Common.{◌≡◌, ℕ, List, [], ◌∷◌, ◌++◌, Option, None, Some, Bool, true, false, if◌then◌else◌, map, refl, ap, ◌∙◌}
use Rattle.std.specs.Prelude.{nat_eq}
use Rattle.std.specs.Cmp.Lexicographic.{pointwise}
use Rattle.std.specs.Map.{lookup}
use Rattle.indexmap.specs.IndexMap.{insert_entry}
use Rattle.fz_values.specs.declared.meaning.Meaning.{Meaning}
use Rattle.fz_values.specs.Names.{look_up}

module _ {K : Type 0} (items : K → List ℕ) where
  abbrev pub row : K × Meaning → List ℕ × Meaning
  row e = (items e.0, e.1)

  abbrev pub has : List ℕ → K → Bool
  has name k = pointwise nat_eq name (items k)

  abbrev pub same : K → K → Bool
  same x y = pointwise nat_eq (items x) (items y)

  pub found : (es : List (K × Meaning)) (name : List ℕ) → lookup (has name) es ≡ look_up (map row es) name
  found [] name = refl
  found (e ∷ es) name = ap (λ r. if pointwise nat_eq name (items e.0) then Some e.1 else r) (found es name)

  other : (t : Bool) (x : Meaning) (y : Option Meaning) → (if t then Some x else y) ≡ None → t ≡ false
  other true x y h = cc
  other false x y h = refl

  rest : (t : Bool) (x : Meaning) (y : Option Meaning) → (if t then Some x else y) ≡ None → y ≡ None
  rest true x y h = cc
  rest false x y h = h

  chosen : (t : Bool) (x y : List (K × Meaning)) → t ≡ false → (if t then x else y) ≡ y
  chosen true x y h = cc
  chosen false x y h = refl

  -- a new name goes last
  pub inserted : (es : List (K × Meaning)) (k : K) (v : Meaning) → look_up (map row es) (items k) ≡ None → map row (insert_entry same es k v) ≡ map row es ++ (items k, v) ∷ []
  inserted [] k v h = refl
  inserted (e ∷ es) k v h =
      ap (map row) (chosen (same k e.0) ((e.0, v) ∷ es) (e ∷ insert_entry same es k v) (other (same k e.0) e.1 (look_up (map row es) (items k)) h))
      ∙ ap (λ xs. row e ∷ xs) (inserted es k v (rest (same k e.0) e.1 (look_up (map row es) (items k)) h))
