-- What holds of what is denoted where nothing is missed holds of what is answered.
use Rattle.std.proofs.Common.{◌≡◌, Bool, Option, None, Ok, Err, IfOk, Result, sym, subst}
use Rattle.xf_text.specs.declared.fault.FieldStop.{FieldStop}
use Rattle.xs_fields.specs.Conditions.{IsOrMemory, answer, first_missed}
use Rattle.xs_fields.specs.declared.condition.Condition.{Condition}
use Rattle.xs_fields.proofs.FirstLemmas.{told_none, told_value}

pub answer_ok : {A : Type 0} (P : A → Type 0) (test : Condition → Bool) (due : A) (r : Result A FieldStop) → (first_missed test ≡ None → P due) → IsOrMemory r (answer test due) → IfOk r P
answer_ok P test due (Ok x) holds h = subst P (sym (told_value x due (first_missed test) h)) (holds (told_none x due (first_missed test) h))
answer_ok P test due (Err stop) holds h = tt
