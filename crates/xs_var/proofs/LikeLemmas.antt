-- The declaration of a name stands at the name's place.
use Rattle.std.proofs.Common.{◌≡◌, ℕ, zero, suc, Bool, true, false, if◌then◌else◌, List, [], ◌∷◌, None, Some, slice_get, get_or, refl, ap, sym, ◌∙◌, bytes_eq}
use Rattle.std.proofs.lemmas.Slice.Eq.{bytes_eq-Decides}
use Rattle.xs_model.specs.declared.decl.Decl.{Decl}
use Rattle.xs_model.specs.declared.decl.Decl.TheVariants.{One, Array}
use Rattle.xs_model.specs.Outline.{IsNamed, names_in, outline_of, outlines_of}
use Rattle.xs_model.specs.Sound.{name_of, names_of}
use Rattle.xs_var.specs.Like.{declaration}

outline_name : (d : Decl) → (outline_of d).name ≡ name_of d
outline_name (One name domain) = refl
outline_name (Array name sizes cells) = refl

named_first : (d : Decl) (ds : List Decl) (name : List ℕ) → name_of d ≡ name → IsNamed (outlines_of (d ∷ ds)) zero name
named_first d ds name e = ap (λ x. Some x) (outline_name d ∙ e)

pub absent : (ds : List Decl) (name : List ℕ) → ((k : ℕ) → IsNamed (outlines_of ds) k name → ⊥) → declaration ds name ≡ None
absent [] name h = refl
absent (d ∷ ds) name h = by (bytes_eq (name_of d) name) refl (absent ds name (λ k g. h (suc k) g))
  where
    by : (t : Bool) → bytes_eq (name_of d) name ≡ t → declaration ds name ≡ None → (if t then Some d else declaration ds name) ≡ None
    by true e more = absurd (h zero (named_first d ds name ((bytes_eq-Decides (name_of d) name).0 e)))
    by false e more = more

pub present : (ds : List Decl) (name : List ℕ) (at : ℕ) (d : Decl) → slice_get ds at ≡ Some d → name_of d ≡ name → ((k : ℕ) → IsNamed (outlines_of ds) k name → k ≡ at) → declaration ds name ≡ Some d
present [] name at d g e h = cc
present (x ∷ xs) name zero d g e h =
    let same : x ≡ d = cc in
    let hit : bytes_eq (name_of x) name ≡ true = (bytes_eq-Decides (name_of x) name).1 (ap name_of same ∙ e) in
    ap (λ t. if t then Some x else declaration xs name) hit ∙ ap (λ y. Some y) same
present (x ∷ xs) name (suc at) d g e h = by (bytes_eq (name_of x) name) refl (present xs name at d g e (λ k w. let same : suc k ≡ suc at = h (suc k) w in cc))
  where
    by : (t : Bool) → bytes_eq (name_of x) name ≡ t → declaration xs name ≡ Some d → (if t then Some x else declaration xs name) ≡ Some d
    by true hit more = let same : zero ≡ suc at = h zero (named_first x xs name ((bytes_eq-Decides (name_of x) name).0 hit)) in cc
    by false hit more = more

pub at_place : (ds : List Decl) (name : List ℕ) (at : ℕ) (d : Decl) → IsNamed (outlines_of ds) at name → d ≡ get_or ds at d → (slice_get ds at ≡ Some d) × (name_of d ≡ name)
at_place [] name at d g e = cc
at_place (x ∷ xs) name zero d g e = let same : (outline_of x).name ≡ name = cc in (ap (λ y. Some y) (sym e), ap name_of e ∙ sym (outline_name x) ∙ same)
at_place (x ∷ xs) name (suc at) d g e = at_place xs name at d g e

pub names_known : (ds : List Decl) → names_in (outlines_of ds) ≡ names_of ds
names_known [] = refl
names_known (d ∷ ds) = rw (outline_name d, names_known ds) refl
