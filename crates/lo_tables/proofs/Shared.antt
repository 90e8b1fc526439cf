-- Truth values of tests, lists of what is stated in turn, and what a well-formed constraint says.
use Rattle.std.proofs.Common.{◌≡◌, ℕ, ◌+◌, ◌<◌, ◌≤◌, ℤ, pos, negsuc, Bool, true, false, not, ◌&&◌, ◌||◌, List, [], ◌∷◌, ◌++◌, length, map, refl, ap, ap₂, sym, ◌∙◌, arith}
use Rattle.std.specs.Prelude.{nat_abs}
use Rattle.std.specs.List.{AllByRecursion, list_any, list_all}
use Rattle.std.proofs.lemmas.Int.{ints}
use Rattle.fz_model.specs.Meaning.{truth, is_one, is_zero}
use Rattle.fz_model.specs.Limits.{IsSmall, exactly}
use Rattle.lo_base.specs.Formed.{Keeps}
use Rattle.lo_emit.specs.declared.literal.Literal.{Literal}
use Rattle.lo_emit.specs.Loops.{Along}
use Rattle.lo_rules.specs.Literals.{IsTableFormed}
use Rattle.lo_rules.proofs.Making.{logic_more}
use Rattle.lo_rules.proofs.Tests.{one_truth}
use Rattle.xs_model.specs.Fields.{Variable}
use Rattle.xs_model.specs.Formed.{IsFormedItem}
use Rattle.xs_model.specs.Sound.{IsSmall as HasSmallMagnitude}

zero_truth : (t : Bool) → is_zero (truth t) ≡ not t
zero_truth true = refl
zero_truth false = refl

not_both : (s t : Bool) → (not s || not t) ≡ not (s && t)
not_both true t = refl
not_both false t = refl

module _ {X : Type 0} (f : X → Bool) where
  pub any_truths : (xs : List X) → list_any is_one (map (λ x. truth (f x)) xs) ≡ list_any f xs
  any_truths [] = refl
  any_truths (x ∷ xs) = ap₂ (λ (s t : Bool). s || t) (one_truth (f x)) (any_truths xs)

  pub some_zero : (xs : List X) → list_any is_zero (map (λ x. truth (f x)) xs) ≡ not (list_all is_one (map (λ x. truth (f x)) xs))
  some_zero [] = refl
  some_zero (x ∷ xs) = ap₂ (λ (s t : Bool). s || t) (zero_truth (f x) ∙ ap not (sym (one_truth (f x)))) (some_zero xs) ∙ not_both (is_one (truth (f x))) (list_all is_one (map (λ y. truth (f y)) xs))

pub or_false : (t : Bool) → (t || false) ≡ t
or_false true = refl
or_false false = refl

-- what is stated in turn, where it does not hang on what came before
module _ {X : Type 0} (R : X → List ℤ → Type 0) where
  pub all_along : (done xs : List X) (b : List ℤ) → Along (λ ds x c. R x c) done xs b → AllByRecursion (λ x. R x b) xs
  all_along done [] b h = tt
  all_along done (x ∷ xs) b h = (h.0, all_along (done ++ x ∷ []) xs b h.1)

  pub along_all : (done xs : List X) (b : List ℤ) → AllByRecursion (λ x. R x b) xs → Along (λ ds x c. R x c) done xs b
  along_all done [] b h = tt
  along_all done (x ∷ xs) b h = (h.0, along_all (done ++ x ∷ []) xs b h.1)

-- literals behind more variables
pub table_formed_more : (bs cs : List Bool) (ls : List Literal) → Keeps bs cs → IsTableFormed bs ls → IsTableFormed cs ls
table_formed_more bs cs [] keeps h = tt
table_formed_more bs cs (l ∷ ls) keeps h = (logic_more bs cs keeps l.truth h.0, table_formed_more bs cs ls keeps h.1)

-- small integers and variables of a constraint

pub small_integer : (z : ℤ) → HasSmallMagnitude z → IsSmall (exactly z)
small_integer z h = record { from = omega (arith, ints, h); to = omega (arith, ints, h) }

pub variables_below : (m : ℕ) (list : List ℕ) → AllByRecursion (IsFormedItem m) (map Variable list) → AllByRecursion (λ x. x < m) list
variables_below m [] h = tt
variables_below m (x ∷ xs) h = (h.0, variables_below m xs h.1)

pub below_more : (m n : ℕ) (list : List ℕ) → m ≤ n → AllByRecursion (λ x. x < m) list → AllByRecursion (λ x. x < n) list
below_more m n [] le h = tt
below_more m n (x ∷ xs) le h = (omega (arith, le, h.0), below_more m n xs le h.1)
