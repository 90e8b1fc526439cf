-- What lists miss first: their texts, and then counts and lengths.
use Rattle.std.proofs.Common.{◌≡◌, ℕ, ◌<◌, Bool, true, ◌&&◌, List, Option, None, Some, Ok, Result, IfOk, refl, ap, sym, subst, ◌∙◌, arith}
use Rattle.xf_text.specs.declared.fault.FieldStop.{FieldStop}
use Rattle.xs_fields.specs.Conditions.{IsOrMemory, answer, answer_on, earlier_of, first_missed, rank}
use Rattle.xs_fields.specs.Terms.{term_meets}
use Rattle.xs_fields.specs.Words.{words_of}
use Rattle.xs_fields.specs.declared.condition.Condition.{Condition}
use Rattle.xs_fields.specs.declared.condition.Condition.TheVariants.{Known, Nesting, Spelling, Magnitude, Naming, Counting, Fitting}
use Rattle.xs_fields.proofs.FirstLemmas.{stays_first}
use Rattle.xs_fields.proofs.OrderLemmas.{first_missed-both}
use Rattle.xs_fields.proofs.WordLemmas.{term_fits}
use Rattle.xs_model.specs.Outline.{Outline}
use Rattle.xs_objectives.specs.Lists.{coeffs_meet}
use Rattle.xs_var.specs.VarDomain.{fitting_meets}
use Rattle.xs_tables.proofs.TableLemmas.{all_fit, both_true}

-- lengths are asked last
last : (k : Condition) → rank Fitting < rank k → ⊥
last Known h = omega (arith, h)
last Nesting h = omega (arith, h)
last Spelling h = omega (arith, h)
last Magnitude h = omega (arith, h)
last Naming h = omega (arith, h)
last Counting h = omega (arith, h)
last Fitting h = omega (arith, h)

early : (fits : Bool) (k j : Condition) → rank j < rank k → fitting_meets fits j ≡ true
early fits k Known h = refl
early fits k Nesting h = refl
early fits k Spelling h = refl
early fits k Magnitude h = refl
early fits k Naming h = refl
early fits k Counting h = refl
early fits k Fitting h = absurd (last k h)

pub before_lengths : (t : Condition → Bool) (fits : Bool) (k : Condition) → first_missed t ≡ Some k → first_missed (λ j. t j && fitting_meets fits j) ≡ Some k
before_lengths t fits k h = stays_first t (fitting_meets fits) k h (early fits k)

-- where the first of two misses nothing, the second decides
pub second_decides : (t u : Condition → Bool) → first_missed t ≡ None → first_missed u ≡ first_missed (λ k. t k && u k)
second_decides t u h = sym (ap (λ o. earlier_of o (first_missed u)) h) ∙ first_missed-both t u

pub coeffs_fit : (os : List Outline) (left : ℕ) (o : Option (List ℕ)) → coeffs_meet os left o Fitting ≡ true
coeffs_fit os left None = refl
coeffs_fit os left (Some text) = both_true _ true (all_fit (term_meets os) (term_fits os) (words_of text)) refl

-- an answer by what is missed, where the value is told when nothing is
on_missed : {A : Type 0} (m : Option Condition) (value due : A) → (m ≡ None → value ≡ due) → IsOrMemory (answer_on m value) (answer_on m due)
on_missed None value due same = ap (λ v. Ok v) (same refl)
on_missed (Some k) value due same = refl

pub answered_as : {A : Type 0} (test : Condition → Bool) (m : Option Condition) (value due : A) (r : Result A FieldStop) → r ≡ answer_on m value → m ≡ first_missed test → (m ≡ None → value ≡ due) → IsOrMemory r (answer test due)
answered_as test m value due r is missed same =
    subst (λ x. IsOrMemory x (answer test due)) (sym is) (subst (λ (o : Option Condition). IsOrMemory (answer_on m value) (answer_on o due)) missed (on_missed m value due same))

pub answered_ok : {A : Type 0} (P : A → Type 0) (test : Condition → Bool) (m : Option Condition) (value due : A) (r : Result A FieldStop)
    → r ≡ answer_on m value → m ≡ first_missed test → (m ≡ None → value ≡ due) → (first_missed test ≡ None → P due) → IfOk r P
answered_ok P test m value due r is missed same holds = subst (λ x. IfOk x P) (sym is) (by m missed same)
  where
    by : (o : Option Condition) → o ≡ first_missed test → (o ≡ None → value ≡ due) → IfOk (answer_on o value) P
    by None e same = subst P (sym (same refl)) (holds (sym e))
    by (Some k) e same = tt
