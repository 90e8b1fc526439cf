-- What is answered where a constraint is judged by itself and by its fields.
use Rattle.std.proofs.Common.{◌≡◌, Bool, true, false, ◌&&◌, nat_le, if◌then◌else◌, Option, None, Some, Ok, Err, IfOk, Result, refl, ap, sym, subst, ◌∙◌}
use Rattle.xf_text.specs.declared.fault.FieldStop.{FieldStop}
use Rattle.xf_text.specs.declared.fault.FieldStop.TheVariants.{Refused}
use Rattle.xs_fields.specs.Conditions.{IsOrMemory, answer, answer_on, earlier_of, first_missed, kind_of, rank}
use Rattle.xs_fields.specs.declared.condition.Condition.{Condition}
use Rattle.xs_fields.proofs.OrderLemmas.{first_missed-both}

-- where the first of two is none, both are
pub none_behind : (a b : Option Condition) → earlier_of a b ≡ None → b ≡ None
none_behind None b h = h
none_behind (Some j) None h = refl
none_behind (Some j) (Some k) h = absurd (some_not (nat_le (rank j) (rank k)) h)
  where
    some_not : (v : Bool) → (if v then Some j else Some k) ≡ None → ⊥
    some_not true e = cc
    some_not false e = cc

told : {A : Type 0} (m : Option Condition) (value : A) (r : Result A FieldStop) → r ≡ answer_on m value → IsOrMemory r (answer_on m value)
told m value (Ok x) h = h
told None value (Err stop) h = absurd (cc h)
told (Some k) value (Err stop) h =
    let is : stop ≡ Refused (kind_of k) = cc in
    subst (λ (s : FieldStop). IsOrMemory (Err s) (answer_on (Some k) value)) (sym is) refl

valued : {A : Type 0} (m : Option Condition) (value due : A) → (m ≡ None → value ≡ due) → answer_on m value ≡ answer_on m due
valued None value due same = ap (λ v. Ok v) (same refl)
valued (Some k) value due same = refl

-- the answer is as told, where the fields give their value when they miss nothing
pub answered_so : {A : Type 0} (unit missed m : Option Condition) (value due : A) (f g : Condition → Bool) (r : Result A FieldStop)
    → r ≡ answer_on m value → m ≡ earlier_of unit missed → unit ≡ first_missed f → missed ≡ first_missed g → (missed ≡ None → value ≡ due)
    → IsOrMemory r (answer (λ k. f k && g k) due)
answered_so unit missed m value due f g r is both is_unit is_missed same =
    let joined : m ≡ first_missed (λ k. f k && g k) = both ∙ ap (λ u. earlier_of u missed) is_unit ∙ ap (λ x. earlier_of (first_missed f) x) is_missed ∙ first_missed-both f g in
    subst (λ x. IsOrMemory r (answer_on x due)) joined
    (subst (λ x. IsOrMemory r x) (valued m value due (λ e. same (none_behind unit missed (sym both ∙ e)))) (told m value r is))

-- what holds of the value where its fields miss nothing holds of the answer
pub answered_ok : {A : Type 0} (P : A → Type 0) (unit missed m : Option Condition) (value : A) (r : Result A FieldStop)
    → r ≡ answer_on m value → m ≡ earlier_of unit missed → (missed ≡ None → P value) → IfOk r P
answered_ok P unit missed m value r is both holds = subst (λ x. IfOk x P) (sym is) (by m both)
  where
    by : (x : Option Condition) → x ≡ earlier_of unit missed → IfOk (answer_on x value) P
    by None e = holds (none_behind unit missed (sym e))
    by (Some k) e = tt
