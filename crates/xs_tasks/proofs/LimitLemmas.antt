-- A condition with the operator `lt` or `le` that is spelt right is a limit.
use Rattle.std.proofs.Common.{◌≡◌, ℕ, ◌+◌, ◌-◌, suc, cond, arith, Bool, true, false, ◌&&◌, ◌||◌, nat_eq, if◌then◌else◌, List, [], ◌∷◌, ◌++◌, length, take, drop, Option, None, Some, refl, ap, sym, subst, ◌∙◌, inl, inr, ◌⊎◌, codes}
use Rattle.std.specs.List.{ends_with, starts_with}
use Rattle.std.specs.Option.{option_map}
use Rattle.std.proofs.lemmas.Bool.{or_cases}
use borrow.Author.Tests.{lt-ltb}
use Rattle.std.proofs.lemmas.Bool.Decides.{Decides-eqb}
use Rattle.std.proofs.lemmas.Slice.Eq.{starts_is}
use Rattle.xs_conditions.specs.Conditions.{condition_of, split_between, split_in, split_meets, split_of, split_word}
use Rattle.xs_conditions.specs.Spelling.{between_of, word_in}
use Rattle.xs_fields.specs.declared.condition.Condition.TheVariants.{Spelling}
use Rattle.xs_model.specs.Fitting.{IsLimit}
use Rattle.xs_model.specs.Outline.{Outline}
use Rattle.xs_tasks.specs.Tasks.{is_limit_word}

-- the operator and the operand between the parentheses
abbrev cut : List ℕ → ℕ → List ℕ × List ℕ
cut inner at = (take at inner, drop (at + 1) inner)

pub lt_cut : (t : List ℕ) → split_between (Some (108 ∷ 116 ∷ 44 ∷ t)) ≡ Some (codes "lt", t)
lt_cut t = ap (λ (v : Bool). option_map (cut (108 ∷ 116 ∷ 44 ∷ t)) (cond v (Some 2) None)) (lt-ltb 2 (length (108 ∷ 116 ∷ 44 ∷ t)) (omega arith))

pub le_cut : (t : List ℕ) → split_between (Some (108 ∷ 101 ∷ 44 ∷ t)) ≡ Some (codes "le", t)
le_cut t = ap (λ (v : Bool). option_map (cut (108 ∷ 101 ∷ 44 ∷ t)) (cond v (Some 2) None)) (lt-ltb 2 (length (108 ∷ 101 ∷ 44 ∷ t)) (omega arith))

module _ (os : List Outline) where
  abbrev Limits : Option (List ℕ) → Type 0
  Limits inner = split_meets os (split_between inner) Spelling ≡ true → IsLimit (split_of os (split_between inner))

  lt_limits : (rest : List ℕ) → Limits (between_of 40 41 (40 ∷ 108 ∷ 116 ∷ 44 ∷ rest))
  lt_limits [] h = cc h
  lt_limits (r ∷ rs) h = by (length bs - 1) (omega arith) (ends_with nat_eq bs (41 ∷ [])) h
    where
      bs : List ℕ
      bs = 108 ∷ 116 ∷ 44 ∷ r ∷ rs

      by : (n : ℕ) → n ≡ suc (suc (suc (length rs))) → (v : Bool) → Limits (if v then Some (take n bs) else None)
      by n is true g =
          let inner : Some (take n bs) ≡ Some (108 ∷ 116 ∷ 44 ∷ take (length rs) (r ∷ rs)) = ap (λ m. Some (take m bs)) is in
          subst (λ (o : Option (List ℕ × List ℕ)). IsLimit (split_of os o)) (sym (ap split_between inner ∙ lt_cut (take (length rs) (r ∷ rs)))) tt
      by n is false g = cc g

  le_limits : (rest : List ℕ) → Limits (between_of 40 41 (40 ∷ 108 ∷ 101 ∷ 44 ∷ rest))
  le_limits [] h = cc h
  le_limits (r ∷ rs) h = by (length bs - 1) (omega arith) (ends_with nat_eq bs (41 ∷ [])) h
    where
      bs : List ℕ
      bs = 108 ∷ 101 ∷ 44 ∷ r ∷ rs

      by : (n : ℕ) → n ≡ suc (suc (suc (length rs))) → (v : Bool) → Limits (if v then Some (take n bs) else None)
      by n is true g =
          let inner : Some (take n bs) ≡ Some (108 ∷ 101 ∷ 44 ∷ take (length rs) (r ∷ rs)) = ap (λ m. Some (take m bs)) is in
          subst (λ (o : Option (List ℕ × List ℕ)). IsLimit (split_of os o)) (sym (ap split_between inner ∙ le_cut (take (length rs) (r ∷ rs)))) tt
      by n is false g = cc g

  word_limits : (o : Option (List ℕ)) → is_limit_word o ≡ true → split_meets os (split_word o) Spelling ≡ true → IsLimit (split_of os (split_word o))
  word_limits None h = cc h
  word_limits (Some w) h = by (or_cases (starts_with nat_eq w (codes "(lt,")) (starts_with nat_eq w (codes "(le,")) h)
    where
      by : (starts_with nat_eq w (codes "(lt,") ≡ true) ⊎ (starts_with nat_eq w (codes "(le,") ≡ true) → Limits (between_of 40 41 w)
      by (inl e) = let is = (starts_is Decides-eqb w (codes "(lt,") (starts_with nat_eq w (codes "(lt,")) refl).0 e in subst (λ (v : List ℕ). Limits (between_of 40 41 v)) (sym is) (lt_limits (drop 4 w))
      by (inr e) = let is = (starts_is Decides-eqb w (codes "(le,") (starts_with nat_eq w (codes "(le,")) refl).0 e in subst (λ (v : List ℕ). Limits (between_of 40 41 v)) (sym is) (le_limits (drop 4 w))

  pub limit_is : (text : List ℕ) → is_limit_word (word_in text) ≡ true → split_meets os (split_in text) Spelling ≡ true → IsLimit (condition_of os text)
  limit_is text h g = word_limits (word_in text) h g
