-- The declaration of a name, and what a word misses of its names.
use Rattle.std.proofs.Common.{◌≡◌, ℕ, zero, suc, ◌+◌, ◌<◌, Bool, true, false, not, cond, if◌then◌else◌, List, [], ◌∷◌, Option, None, Some, IfSome, Result, Err, length, refl, ap, subst, ◌∙◌, arith, bytes_eq}
use Rattle.std.specs.Option.{option_map}
use Rattle.std.specs.Result.{result_err, is_ok}
use Rattle.std.proofs.lemmas.Slice.Eq.{bytes_eq-Decides}
use Rattle.xs_model.specs.Outline.{Outline, IsNamed, sizes_at}
use Rattle.xs_fields.specs.Cells.{declared_at, reached, reached_at, unless_none, name_meets, are_inside, variables_at, covered_places, variable_meets}
use Rattle.xs_fields.specs.Conditions.{first_missed, earlier_of}
use Rattle.xs_fields.specs.Variables.{is_direct, word_of, word_meets}
use Rattle.xs_fields.specs.declared.condition.Condition.{Condition}
use Rattle.xs_fields.specs.declared.condition.Condition.TheVariants.{Naming}
use Rattle.xs_fields.proofs.OrderLemmas.{first_missed-both}

pub named_below : (os : List Outline) (at : ℕ) (name : List ℕ) → IsNamed os at name → at < length os
named_below [] at name h = cc
named_below (o ∷ os) zero name h = omega arith
named_below (o ∷ os) (suc at) name h = omega (arith, named_below os at name h)

-- what is declared has the name, and a name that is not declared is that of none
abbrev Finds : List Outline → List ℕ → Option ℕ → Type 0
Finds os name None = (at : ℕ) → IsNamed os at name → ⊥
Finds os name (Some at) = IsNamed os at name

finds_next : (o : Outline) (os : List Outline) (name : List ℕ) (r : Option ℕ) → bytes_eq o.name name ≡ false → Finds os name r → Finds (o ∷ os) name (option_map (λ at. at + 1) r)
finds_next o os name (Some at) e h = let s : suc at ≡ at + 1 = omega arith in subst (λ (k : ℕ). IsNamed (o ∷ os) k name) s h
finds_next o os name None e h = other
  where
    other : (at : ℕ) → IsNamed (o ∷ os) at name → ⊥
    other zero g = let same : o.name ≡ name = cc in let yes : bytes_eq o.name name ≡ true = (bytes_eq-Decides o.name name).1 same in cc
    other (suc at) g = h at g

finds : (os : List Outline) (name : List ℕ) → Finds os name (declared_at os name)
finds [] name = λ at g. cc
finds (o ∷ os) name = by (bytes_eq o.name name) refl (finds os name)
  where
    by : (v : Bool) → bytes_eq o.name name ≡ v → Finds os name (declared_at os name) → Finds (o ∷ os) name (if v then Some 0 else option_map (λ at. at + 1) (declared_at os name))
    by true e rest = ap (λ n. Some n) ((bytes_eq-Decides o.name name).0 e)
    by false e rest = finds_next o os name (declared_at os name) e rest

pub position_is : (r : Option ℕ) (os : List Outline) (name : List ℕ) → IfSome r (λ at. IsNamed os at name) → ((at : ℕ) → IsNamed os at name → r ≡ Some at) → r ≡ declared_at os name
position_is r os name found only = by (declared_at os name) (finds os name) r found only
  where
    by : (d : Option ℕ) → Finds os name d → (r : Option ℕ) → IfSome r (λ at. IsNamed os at name) → ((at : ℕ) → IsNamed os at name → r ≡ Some at) → r ≡ d
    by (Some at) h r found only = only at h
    by None h None found only = refl
    by None h (Some at) found only = absurd (h at found)

-- what is missed of the names
pub reached_missed : (os : List Outline) (word : List ℕ) → result_err (reached os (word_of word)) ≡ first_missed (name_meets os word)
reached_missed os word = by_place (declared_at os (word_of word).name) ∙ negated (is_ok (reached os (word_of word)))
  where
    direct : (d : Bool) (vs : List ℕ) → result_err (unless_none d vs) ≡ (if is_ok (unless_none d vs) then None else Some Naming)
    direct true [] = refl
    direct true (v ∷ vs) = refl
    direct false vs = refl

    inside : (v : Bool) (r : Result (List ℕ) Condition) → result_err r ≡ (if is_ok r then None else Some Naming) → result_err (if v then r else Err Naming) ≡ (if is_ok (if v then r else Err Naming) then None else Some Naming)
    inside true r h = h
    inside false r h = refl

    negated : (v : Bool) → (if v then None else Some Naming) ≡ cond (not v) (Some Naming) None
    negated true = refl
    negated false = refl

    by_place : (o : Option ℕ) → result_err (reached_at os (word_of word) o) ≡ (if is_ok (reached_at os (word_of word) o) then None else Some Naming)
    by_place None = refl
    by_place (Some at) = inside (are_inside (sizes_at os at) (word_of word).brackets) (unless_none (is_direct (word_of word)) (variables_at os at (covered_places (sizes_at os at) (word_of word).brackets))) (direct (is_direct (word_of word)) (variables_at os at (covered_places (sizes_at os at) (word_of word).brackets)))

pub variable_missed : (os : List Outline) (word : List ℕ) (a b : Option Condition) → a ≡ first_missed (word_meets word) → b ≡ result_err (reached os (word_of word)) → earlier_of a b ≡ first_missed (variable_meets os word)
variable_missed os word a b e f =
    ap (λ m. earlier_of m b) e ∙ ap (earlier_of (first_missed (word_meets word))) (f ∙ reached_missed os word) ∙ first_missed-both (word_meets word) (name_meets os word)
