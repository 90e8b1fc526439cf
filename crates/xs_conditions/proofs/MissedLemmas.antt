-- What parts miss first, and what the whole misses first.
use Rattle.std.proofs.Common.{◌≡◌, ℕ, ℤ, List, [], ◌∷◌, refl, sym, ap, ◌∙◌, Bool, true, false, not, ◌&&◌, cond, if◌then◌else◌, nat_le, ◌≤◌, Option, Some, None, Ok, Err}
use Rattle.std.specs.Result.{result_err}
use borrow.Author.Tests.{leb-true}
use Rattle.xs_fields.specs.Cells.{name_meets, reached, variable_meets, variables_of}
use Rattle.xs_fields.specs.Conditions.{all_meet, earlier_of, first_missed, judged, meets}
use Rattle.xs_fields.specs.Integers.{integer_of, is_small}
use Rattle.xs_fields.specs.Lists.{count_meets}
use Rattle.xs_fields.specs.Sizes.{brackets_of, size_of, size_meets}
use Rattle.xs_fields.specs.Variables.{bracket_of, bracket_meets, is_small_bracket, word_meets, word_of}
use Rattle.xs_fields.specs.declared.condition.Condition.{Condition}
use Rattle.xs_fields.specs.declared.condition.Condition.TheVariants.{Known, Nesting, Spelling, Magnitude, Naming, Counting, Fitting}
use Rattle.xs_fields.specs.declared.variable.Word.{Word}
use Rattle.xs_fields.proofs.FirstLemmas.{all_met, before_counting, count_alone, count_decides, met_at}
use Rattle.xs_fields.proofs.IntegerLemmas.{and_left, and_right}
use Rattle.xs_fields.proofs.NamingLemmas.{reached_missed}
use Rattle.xs_fields.proofs.OrderLemmas.{first_missed-both}
use Rattle.xs_model.specs.Outline.{Outline}
use Rattle.xs_conditions.specs.Single.{direct_meets, direct_spelt}
use Rattle.xs_conditions.specs.Spelling.{with_count}

-- a name that misses
pub name_missed : (os : List Outline) (word : List ℕ) (parsed : Word) (k : Condition) → parsed ≡ word_of word → reached os parsed ≡ Err k → Some k ≡ first_missed (name_meets os word)
name_missed os word parsed k is missed = sym (ap result_err (sym (ap (reached os) is) ∙ missed)) ∙ reached_missed os word

pub name_met : (os : List Outline) (word : List ℕ) (parsed : Word) (vs : List ℕ) → parsed ≡ word_of word → reached os parsed ≡ Ok vs → None ≡ first_missed (name_meets os word)
name_met os word parsed vs is found = sym (ap result_err (sym (ap (reached os) is) ∙ found)) ∙ reached_missed os word

pub all_true : (test : List ℕ → Condition → Bool) (k : Condition) (ps : List (List ℕ)) → ((p : List ℕ) → test p k ≡ true) → all_meet test ps k ≡ true
all_true test k [] h = refl
all_true test k (p ∷ ps) h = ap (λ (t : Bool). t && all_meet test ps k) (h p) ∙ all_true test k ps h

-- a word is asked for its spelling and its magnitude alone
module _ {A : Type 0} (small : A → Bool) where
  pub at_naming : (o : Option A) → meets small o Naming ≡ true
  at_naming None = refl
  at_naming (Some x) = refl

  pub at_counting : (o : Option A) → meets small o Counting ≡ true
  at_counting None = refl
  at_counting (Some x) = refl

  pub at_fitting : (o : Option A) → meets small o Fitting ≡ true
  at_fitting None = refl
  at_fitting (Some x) = refl

pub both : (a b : Bool) → a ≡ true → b ≡ true → (a && b) ≡ true
both a b g h = ap (λ (t : Bool). t && b) g ∙ h

pub spelt_naming : (w : List ℕ) → direct_spelt w Naming ≡ true
spelt_naming w = both _ _ (all_true bracket_meets Naming (brackets_of w) (λ p. at_naming is_small_bracket (bracket_of p))) (all_true size_meets Naming (brackets_of w) (λ p. at_naming is_small (size_of p)))

spelt_counting : (w : List ℕ) → direct_spelt w Counting ≡ true
spelt_counting w = both _ _ (all_true bracket_meets Counting (brackets_of w) (λ p. at_counting is_small_bracket (bracket_of p))) (all_true size_meets Counting (brackets_of w) (λ p. at_counting is_small (size_of p)))

pub spelt_fitting : (w : List ℕ) → direct_spelt w Fitting ≡ true
spelt_fitting w = both _ _ (all_true bracket_meets Fitting (brackets_of w) (λ p. at_fitting is_small_bracket (bracket_of p))) (all_true size_meets Fitting (brackets_of w) (λ p. at_fitting is_small (size_of p)))

-- the first missed of seven tests
abbrev first_of : (a b c d e f g : Bool) → Option Condition
first_of a b c d e f g = cond (not a) (Some Known) (cond (not b) (Some Nesting) (cond (not c) (Some Spelling) (cond (not d) (Some Magnitude) (cond (not e) (Some Naming) (cond (not f) (Some Counting) (cond (not g) (Some Fitting) None))))))

stays : (a b c d n : Bool) (k : Condition) → first_of a b c d true true true ≡ Some k → Some k ≡ first_of (a && true) (b && true) (c && true) (d && true) n true true
stays true true true true n k h = cc
stays true true true false n k h = sym h
stays true true false d n k h = sym h
stays true false c d n k h = sym h
stays false b c d n k h = sym h

-- what is missed of spelling and magnitude is asked before names
pub spelt_first : (t : Condition → Bool) (n : Condition → Bool) (k : Condition) → t Naming ≡ true → t Counting ≡ true → t Fitting ≡ true
    → n Known ≡ true → n Nesting ≡ true → n Spelling ≡ true → n Magnitude ≡ true → n Counting ≡ true → n Fitting ≡ true
    → first_missed t ≡ Some k → Some k ≡ first_missed (λ j. t j && n j)
spelt_first t n k naming counting fitting known nesting spelling magnitude counting' fitting' h =
    stays (t Known) (t Nesting) (t Spelling) (t Magnitude) (n Naming) k
    (ap (λ (v : Bool). first_of (t Known) (t Nesting) (t Spelling) (t Magnitude) true true v) (sym fitting)
    ∙ ap (λ (v : Bool). first_of (t Known) (t Nesting) (t Spelling) (t Magnitude) true v (t Fitting)) (sym counting)
    ∙ ap (λ (v : Bool). first_of (t Known) (t Nesting) (t Spelling) (t Magnitude) v (t Counting) (t Fitting)) (sym naming)
    ∙ h)
    ∙ ap (λ (v : Bool). first_of (t Known && true) (t Nesting && true) (t Spelling && true) (t Magnitude && true) (v && n Naming) true true) (sym naming)
    ∙ ap (λ (v : Bool). first_of (t Known && true) (t Nesting && true) (t Spelling && true) (t Magnitude && true) (t Naming && n Naming) (v && true) true) (sym counting)
    ∙ ap (λ (v : Bool). first_of (t Known && true) (t Nesting && true) (t Spelling && true) (t Magnitude && true) (t Naming && n Naming) (t Counting && true) (v && true)) (sym fitting)
    ∙ ap (λ (v : Bool). first_of (t Known && v) (t Nesting && true) (t Spelling && true) (t Magnitude && true) (t Naming && n Naming) (t Counting && true) (t Fitting && true)) (sym known)
    ∙ ap (λ (v : Bool). first_of (t Known && n Known) (t Nesting && v) (t Spelling && true) (t Magnitude && true) (t Naming && n Naming) (t Counting && true) (t Fitting && true)) (sym nesting)
    ∙ ap (λ (v : Bool). first_of (t Known && n Known) (t Nesting && n Nesting) (t Spelling && v) (t Magnitude && true) (t Naming && n Naming) (t Counting && true) (t Fitting && true)) (sym spelling)
    ∙ ap (λ (v : Bool). first_of (t Known && n Known) (t Nesting && n Nesting) (t Spelling && n Spelling) (t Magnitude && v) (t Naming && n Naming) (t Counting && true) (t Fitting && true)) (sym magnitude)
    ∙ ap (λ (v : Bool). first_of (t Known && n Known) (t Nesting && n Nesting) (t Spelling && n Spelling) (t Magnitude && n Magnitude) (t Naming && n Naming) (t Counting && v) (t Fitting && true)) (sym counting')
    ∙ ap (λ (v : Bool). first_of (t Known && n Known) (t Nesting && n Nesting) (t Spelling && n Spelling) (t Magnitude && n Magnitude) (t Naming && n Naming) (t Counting && n Counting) (t Fitting && v)) (sym fitting')

pub direct_first : (os : List Outline) (w : List ℕ) (k : Condition) → first_missed (direct_spelt w) ≡ Some k → Some k ≡ first_missed (direct_meets os w)
direct_first os w k h = spelt_first (direct_spelt w) (name_meets os w) k (spelt_naming w) (spelt_counting w) (spelt_fitting w) refl refl refl refl refl refl h

-- where nothing is missed of one part, the other decides
pub clean_front : (t u : Condition → Bool) → first_missed t ≡ None → first_missed u ≡ first_missed (λ k. t k && u k)
clean_front t u h = ap (λ m. earlier_of m (first_missed u)) (sym h) ∙ first_missed-both t u

-- a direct word that is looked up
pub direct_found : (os : List Outline) (w : List ℕ) → first_missed (variable_meets os w) ≡ None → first_missed (all_meet size_meets (brackets_of w)) ≡ None → None ≡ first_missed (direct_meets os w)
direct_found os w word sizes =
    sym (all_met (direct_meets os w) (λ k. both _ _ (both _ _ (and_left (word_meets w k) (name_meets os w k) (met_at (variable_meets os w) word k)) (met_at (all_meet size_meets (brackets_of w)) sizes k)) (and_right (word_meets w k) (name_meets os w k) (met_at (variable_meets os w) word k))))

-- a word that spells no integer
pub unspelt : (o : Option ℤ) → judged is_small o ≡ Err Spelling → o ≡ None
unspelt None h = refl
unspelt (Some z) h = by (is_small z) h
  where
    by : (v : Bool) → (if v then Ok z else Err Magnitude) ≡ Err Spelling → Some z ≡ None
    by true g = cc
    by false g = cc

-- what is missed where a count is asked too
pub counted : (t : Condition → Bool) (missed : Option Condition) (count told left : ℕ) → missed ≡ first_missed t → t Fitting ≡ true → (missed ≡ None → told ≡ count) → with_count missed told left ≡ first_missed (λ k. t k && count_meets count left k)
counted t None count told left is fits same = ap (λ n. if nat_le n left then None else Some Counting) (same refl) ∙ sym (count_decides t count left (sym is))
counted t (Some k) count told left is fits same = sym (before_counting t (count_meets count left) k (count_alone count left) fits (sym is))

pub counted_none : (missed : Option Condition) (count left : ℕ) → with_count missed count left ≡ None → missed ≡ None
counted_none None count left h = refl
counted_none (Some k) count left h = h

pub counted_few : (missed : Option Condition) (count left : ℕ) → with_count missed count left ≡ None → count ≤ left
counted_few None count left h = by (nat_le count left) refl h
  where
    by : (v : Bool) → nat_le count left ≡ v → (if v then None else Some Counting) ≡ None → count ≤ left
    by true e g = leb-true count left e
    by false e g = cc
counted_few (Some k) count left h = cc
