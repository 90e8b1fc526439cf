-- A name is one of a list where it stands at a place of the list.
use Rattle.std.proofs.Common.{◌≡◌, ℕ, zero, suc, ◌||◌, Bool, true, false, List, [], ◌∷◌, Option, None, Some, IfSome, slice_get, refl, ap, sym, bytes_eq}
use Rattle.std.specs.Option.{is_some}
use Rattle.std.proofs.lemmas.Slice.Eq.{bytes_eq-Decides}
use Rattle.xs_var.specs.Elements.{is_one_of}

or_true : (a b : Bool) → b ≡ true → (a || b) ≡ true
or_true true b h = refl
or_true false b h = h

or_left : (a b : Bool) → a ≡ true → (a || b) ≡ true
or_left true b h = refl
or_left false b h = cc

or_rest : (a b : Bool) → a ≡ false → (a || b) ≡ true → b ≡ true
or_rest true b e h = cc
or_rest false b e h = h

listed : (names : List (List ℕ)) (name : List ℕ) (at : ℕ) → slice_get names at ≡ Some name → is_one_of names name ≡ true
listed [] name at h = cc
listed (n ∷ ns) name zero h = let same : name ≡ n = cc in or_left (bytes_eq name n) (is_one_of ns name) ((bytes_eq-Decides name n).1 same)
listed (n ∷ ns) name (suc at) h = or_true (bytes_eq name n) (is_one_of ns name) (listed ns name at h)

place : (names : List (List ℕ)) (name : List ℕ) → is_one_of names name ≡ true → (at : ℕ) × (slice_get names at ≡ Some name)
place [] name h = cc
place (n ∷ ns) name h = by (bytes_eq name n) refl (λ g. place ns name g)
  where
    by : (v : Bool) → bytes_eq name n ≡ v → (is_one_of ns name ≡ true → (at : ℕ) × (slice_get ns at ≡ Some name)) → (at : ℕ) × (slice_get (n ∷ ns) at ≡ Some name)
    by true e more = (zero, ap (λ x. Some x) (sym ((bytes_eq-Decides name n).0 e)))
    by false e more = let rest = more (or_rest (bytes_eq name n) (is_one_of ns name) e h) in (suc rest.0, rest.1)

pub declared_is : (r : Option ℕ) (names : List (List ℕ)) (name : List ℕ) → IfSome r (λ at. slice_get names at ≡ Some name) → ((at : ℕ) → slice_get names at ≡ Some name → r ≡ Some at) → is_some r ≡ is_one_of names name
declared_is (Some at) names name found only = sym (listed names name at found)
declared_is None names name found only = by (is_one_of names name) refl
  where
    by : (v : Bool) → is_one_of names name ≡ v → false ≡ v
    by false e = refl
    by true e = let p = place names name e in let bad : None ≡ Some p.0 = only p.0 p.1 in cc
