-- What a unit misses first, by what its parts miss.
use Rattle.std.proofs.Common.{◌≡◌, ℕ, ◌<◌, ◌≤◌, Bool, true, false, not, ◌&&◌, nat_le, cond, if◌then◌else◌, List, [], ◌∷◌, Option, None, Some, Ok, Err, refl, ap, sym, ◌∙◌, subst, arith, ◌⊎◌, inl, inr}
use Rattle.std.specs.List.{find, list_all}
use borrow.Author.Tests.{le-leb}
use Rattle.xf_text.specs.declared.fault.FieldStop.{FieldStop}
use Rattle.xf_text.specs.declared.fault.FieldStop.TheVariants.{Memory, Refused}
use Rattle.xs_fields.specs.Conditions.{IsOrMemory, answer_on, earlier_of, first_missed, in_order, kind_of, rank}
use Rattle.xs_fields.specs.Lists.{count_meets}
use Rattle.xs_fields.specs.declared.condition.Condition.{Condition}
use Rattle.xs_fields.specs.declared.condition.Condition.TheVariants.{Known, Nesting, Spelling, Magnitude, Naming, Counting, Fitting}
use Rattle.xs_fields.proofs.IntegerLemmas.{and_left, and_right}
use Rattle.xs_fields.proofs.OrderLemmas.{first_missed-both}

-- what is found passes the test
found_passes : (test : Condition → Bool) (ks : List Condition) (k : Condition) → find test ks ≡ Some k → test k ≡ true
found_passes test [] k h = cc
found_passes test (j ∷ js) k h = by (test j) refl (found_passes test js k) h
  where
    by : (v : Bool) → test j ≡ v → (find test js ≡ Some k → test k ≡ true) → cond v (Some j) (find test js) ≡ Some k → test k ≡ true
    by true e more g = let same : j ≡ k = cc in ap test (sym same) ∙ e
    by false e more g = more g

opposite : (v : Bool) → not v ≡ true → v ≡ false
opposite true h = cc
opposite false h = refl

-- a condition that is missed first is missed
pub missed_here : (t : Condition → Bool) (k : Condition) → first_missed t ≡ Some k → t k ≡ false
missed_here t k h = opposite (t k) (found_passes (λ j. not (t j)) in_order k h)

either_side : (m n : ℕ) → (m ≤ n) ⊎ (n < m)
either_side m n = grind arith

ahead : (u : Condition → Bool) (k : Condition) → ((j : Condition) → rank j < rank k → u j ≡ true) → (r : Option Condition) → first_missed u ≡ r → earlier_of (Some k) r ≡ Some k
ahead u k met None h = refl
ahead u k met (Some j) h = by (either_side (rank k) (rank j))
  where
    by : (rank k ≤ rank j) ⊎ (rank j < rank k) → earlier_of (Some k) (Some j) ≡ Some k
    by (inl le) = ap (λ (v : Bool). if v then Some k else Some j) (le-leb (rank k) (rank j) le)
    by (inr lt) = let never : true ≡ false = sym (met j lt) ∙ missed_here u j h in cc

-- what a part misses first, the whole misses first, where the other part meets all that is asked before
pub stays_first : (t u : Condition → Bool) (k : Condition) → first_missed t ≡ Some k → ((j : Condition) → rank j < rank k → u j ≡ true) → first_missed (λ j. t j && u j) ≡ Some k
stays_first t u k h met =
    sym (first_missed-both t u) ∙ ap (λ r. earlier_of r (first_missed u)) h ∙ ahead u k met (first_missed u) refl

find_none : (t : Condition → Bool) (ks : List Condition) → find (λ k. not (t k)) ks ≡ None → list_all t ks ≡ true
find_none t [] h = refl
find_none t (k ∷ ks) h = by (t k) refl (find_none t ks) h
  where
    by : (v : Bool) → t k ≡ v → (find (λ j. not (t j)) ks ≡ None → list_all t ks ≡ true) → cond (not v) (Some k) (find (λ j. not (t j)) ks) ≡ None → (t k && list_all t ks) ≡ true
    by true e more g = ap (λ v. v && list_all t ks) e ∙ more g
    by false e more g = cc

met_in : (t : Condition → Bool) (k : Condition) → list_all t in_order ≡ true → t k ≡ true
met_in t Known h = and_left (t Known) (t Nesting && (t Spelling && (t Magnitude && (t Naming && (t Counting && (t Fitting && true)))))) h
met_in t Nesting h = and_left (t Nesting) (t Spelling && (t Magnitude && (t Naming && (t Counting && (t Fitting && true))))) (and_right (t Known) (t Nesting && (t Spelling && (t Magnitude && (t Naming && (t Counting && (t Fitting && true)))))) h)
met_in t Spelling h = and_left (t Spelling) (t Magnitude && (t Naming && (t Counting && (t Fitting && true)))) (and_right (t Nesting) (t Spelling && (t Magnitude && (t Naming && (t Counting && (t Fitting && true))))) (and_right (t Known) (t Nesting && (t Spelling && (t Magnitude && (t Naming && (t Counting && (t Fitting && true)))))) h))
met_in t Magnitude h = and_left (t Magnitude) (t Naming && (t Counting && (t Fitting && true))) (and_right (t Spelling) (t Magnitude && (t Naming && (t Counting && (t Fitting && true)))) (and_right (t Nesting) (t Spelling && (t Magnitude && (t Naming && (t Counting && (t Fitting && true))))) (and_right (t Known) (t Nesting && (t Spelling && (t Magnitude && (t Naming && (t Counting && (t Fitting && true)))))) h)))
met_in t Naming h = and_left (t Naming) (t Counting && (t Fitting && true)) (and_right (t Magnitude) (t Naming && (t Counting && (t Fitting && true))) (and_right (t Spelling) (t Magnitude && (t Naming && (t Counting && (t Fitting && true)))) (and_right (t Nesting) (t Spelling && (t Magnitude && (t Naming && (t Counting && (t Fitting && true))))) (and_right (t Known) (t Nesting && (t Spelling && (t Magnitude && (t Naming && (t Counting && (t Fitting && true)))))) h))))
met_in t Counting h = and_left (t Counting) (t Fitting && true) (and_right (t Naming) (t Counting && (t Fitting && true)) (and_right (t Magnitude) (t Naming && (t Counting && (t Fitting && true))) (and_right (t Spelling) (t Magnitude && (t Naming && (t Counting && (t Fitting && true)))) (and_right (t Nesting) (t Spelling && (t Magnitude && (t Naming && (t Counting && (t Fitting && true))))) (and_right (t Known) (t Nesting && (t Spelling && (t Magnitude && (t Naming && (t Counting && (t Fitting && true)))))) h)))))
met_in t Fitting h = and_left (t Fitting) true (and_right (t Counting) (t Fitting && true) (and_right (t Naming) (t Counting && (t Fitting && true)) (and_right (t Magnitude) (t Naming && (t Counting && (t Fitting && true))) (and_right (t Spelling) (t Magnitude && (t Naming && (t Counting && (t Fitting && true)))) (and_right (t Nesting) (t Spelling && (t Magnitude && (t Naming && (t Counting && (t Fitting && true))))) (and_right (t Known) (t Nesting && (t Spelling && (t Magnitude && (t Naming && (t Counting && (t Fitting && true)))))) h))))))

-- where nothing is missed, each condition is met
pub met_at : (t : Condition → Bool) → first_missed t ≡ None → (k : Condition) → t k ≡ true
met_at t h k = met_in t k (find_none t in_order h)

pub none_found : (t : Condition → Bool) (ks : List Condition) → list_all t ks ≡ true → find (λ k. not (t k)) ks ≡ None
none_found t [] h = refl
none_found t (k ∷ ks) h = ap (λ v. cond (not v) (Some k) (find (λ j. not (t j)) ks)) (and_left _ _ h) ∙ none_found t ks (and_right _ _ h)

pub all_met : (t : Condition → Bool) → ((k : Condition) → t k ≡ true) → first_missed t ≡ None
all_met t h = none_found t in_order (all in_order)
  where
    all : (ks : List Condition) → list_all t ks ≡ true
    all [] = refl
    all (k ∷ ks) = ap (λ v. v && list_all t ks) (h k) ∙ all ks

-- a refusal by what a part misses first is one by what the whole misses first
pub still_refused : {A B : Type 0} (t u : Condition → Bool) (stop : FieldStop) (v : A) (w : B) → ((k : Condition) → first_missed t ≡ Some k → first_missed u ≡ Some k)
    → IsOrMemory (Err stop) (answer_on (first_missed t) v) → IsOrMemory (Err stop) (answer_on (first_missed u) w)
still_refused t u Memory v w same h = tt
still_refused t u (Refused k) v w same h = by (first_missed t) refl h
  where
    by : (m : Option Condition) → first_missed t ≡ m → IsOrMemory (Err (Refused k)) (answer_on m v) → IsOrMemory (Err (Refused k)) (answer_on (first_missed u) w)
    by None e g = cc
    by (Some j) e g = let told : k ≡ kind_of j = cc in ap (λ x. Err (Refused x)) told ∙ sym (ap (λ m. answer_on m w) (same j e))

-- an answer without a refusal: nothing is missed, and it is the value
pub told_none : {A : Type 0} (x v : A) (missed : Option Condition) → IsOrMemory (Ok x) (answer_on missed v) → missed ≡ None
told_none x v None h = refl
told_none x v (Some k) h = cc

pub told_value : {A : Type 0} (x v : A) (missed : Option Condition) → IsOrMemory (Ok x) (answer_on missed v) → x ≡ v
told_value x v None h = cc
told_value x v (Some k) h = cc

past_counting : (k : Condition) → rank Counting < rank k → k ≡ Fitting
past_counting Known h = absurd (omega (arith, h))
past_counting Nesting h = absurd (omega (arith, h))
past_counting Spelling h = absurd (omega (arith, h))
past_counting Magnitude h = absurd (omega (arith, h))
past_counting Naming h = absurd (omega (arith, h))
past_counting Counting h = absurd (omega (arith, h))
past_counting Fitting h = refl

-- what is missed before a count is missed first, where all lengths fit; u is what is asked by `Counting` alone
pub before_counting : (t u : Condition → Bool) (k : Condition) → ((j : Condition) → (j ≡ Counting → ⊥) → u j ≡ true) → t Fitting ≡ true → first_missed t ≡ Some k → first_missed (λ j. t j && u j) ≡ Some k
before_counting t u k only fits h = stays_first t u k h (λ j lt. only j (λ e. never (past_counting k (subst (λ (x : Condition). rank x < rank k) e lt))))
  where
    never : k ≡ Fitting → ⊥
    never e = let both : true ≡ false = sym fits ∙ ap t (sym e) ∙ missed_here t k h in cc

pub count_alone : (count left : ℕ) (j : Condition) → (j ≡ Counting → ⊥) → count_meets count left j ≡ true
count_alone count left Known h = refl
count_alone count left Nesting h = refl
count_alone count left Spelling h = refl
count_alone count left Magnitude h = refl
count_alone count left Naming h = refl
count_alone count left Counting h = absurd (h refl)
count_alone count left Fitting h = refl

-- where nothing else is missed, the count decides
pub count_decides : (t : Condition → Bool) (count left : ℕ) → first_missed t ≡ None → first_missed (λ j. t j && count_meets count left j) ≡ (if nat_le count left then None else Some Counting)
count_decides t count left h =
    sym (first_missed-both t (count_meets count left)) ∙ ap (λ r. earlier_of r (first_missed (count_meets count left))) h ∙ by (nat_le count left)
  where
    by : (v : Bool) → cond (not v) (Some Counting) None ≡ (if v then None else Some Counting)
    by true = refl
    by false = refl
