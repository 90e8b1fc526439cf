-- A `circuit` that misses nothing is well formed over declared variables, and has no more items than are left.
use Rattle.std.proofs.Common.{◌≡◌, ℕ, ◌≤◌, ℤ, nat_abs, Bool, true, ◌&&◌, nat_le, List, length, Option, None, Some, Ok, Err, Result, IfOk, sym, subst, arith}
use Rattle.std.proofs.lemmas.List.{length-map}
use borrow.Author.Tests.{leb-true}
use Rattle.xf_text.specs.declared.fault.FieldStop.{FieldStop}
use Rattle.xs_circuits.specs.Circuit.{are_parts, circuit_meets, circuit_of, fields_meet, items_in, list_text, size_meets, size_of, size_text, start_text, texts_meet}
use Rattle.xs_conditions.specs.Flags.{start_in, start_meets, start_of}
use Rattle.xs_conditions.proofs.BelowLemmas.{vars_below}
use Rattle.xs_conditions.proofs.FormedLemmas.{one_term_formed}
use Rattle.xs_fields.specs.Cells.{vars_meet, vars_of}
use Rattle.xs_fields.specs.Conditions.{IsOrMemory, answer, first_missed, meets}
use Rattle.xs_fields.specs.Integers.{integer_of, is_small, magnitudes}
use Rattle.xs_fields.specs.Lists.{count_meets}
use Rattle.xs_fields.specs.declared.condition.Condition.{Condition}
use Rattle.xs_fields.specs.declared.condition.Condition.TheVariants.{Counting, Magnitude, Spelling}
use Rattle.xs_fields.proofs.FirstLemmas.{all_met, met_at, told_none, told_value}
use Rattle.xs_fields.proofs.IntegerLemmas.{and_left, and_right}
use Rattle.xs_model.specs.Accepted.{IsFormed, items_of}
use Rattle.xs_model.specs.Fields.{Variable, optional, term}
use Rattle.xs_model.specs.Formed.{AreFormed}
use Rattle.xs_model.specs.Outline.{Outline, variables_in}
use Rattle.xs_model.specs.Sound.{IsSmall}
use Rattle.xs_model.specs.declared.concrete.Concrete.{Concrete}
use Rattle.xs_model.specs.declared.instance.Constraint.{Constraint}
use Rattle.xs_model.specs.declared.instance.Constraint.TheVariants.{Circuit}
use Rattle.xs_model.proofs.FormLemmas.{items_of_below}
use Rattle.xs_var.specs.Variable.{spelling_meets}

pub record IsGood (os : List Outline) (left : ℕ) (c : Constraint) : Type 0 where
  pub formed : IsFormed (variables_in os) c
  pub few : items_of c ≤ left

-- a start that misses nothing is small
integer_small : (o : Option ℤ) → ((k : Condition) → meets is_small o k ≡ true) → IsSmall (start_in o)
integer_small None h = cc (h Spelling)
integer_small (Some z) h = leb-true (nat_abs z) magnitudes (h Magnitude)

start_small : (start : Option (List ℕ)) → ((k : Condition) → start_meets start k ≡ true) → IsSmall (start_of start)
start_small None h = omega arith
start_small (Some text) h = integer_small (integer_of text) h

size_formed : (os : List Outline) (size : Option (List ℕ)) → ((k : Condition) → size_meets os size k ≡ true) → AreFormed (variables_in os) (optional term (size_of os size))
size_formed os None h = tt
size_formed os (Some text) h = ((one_term_formed os text (all_met (size_meets os (Some text)) h), tt), tt)

items_are : (os : List Outline) (vs : List ℕ) (start : ℤ) (size : Option (List ℕ)) → items_of (Circuit vs start (size_of os size)) ≡ items_in (length vs) size
items_are os vs start None = omega (arith, length-map vs Variable)
items_are os vs start (Some text) = omega (arith, length-map vs Variable)

module _ (os : List Outline) (left : ℕ) (list : List ℕ) (start size : Option (List ℕ)) (met : (k : Condition) → fields_meet os left list start size k ≡ true) where
  abbrev members : ℕ
  members = length (vars_of os list)

  behind : (k : Condition) → (start_meets start k && size_meets os size k) ≡ true
  behind k = and_right (vars_meet os list left k) (start_meets start k && size_meets os size k) (and_left (texts_meet os left list start size k) (count_meets (items_in members size) left k) (met k))

  few : items_in members size ≤ left
  few = leb-true (items_in members size) left (and_right (texts_meet os left list start size Counting) (nat_le (items_in members size) left) (met Counting))

  fields_good : IsGood os left (Circuit (vars_of os list) (start_of start) (size_of os size))
  fields_good = record {
    formed = record {
      fields = (
        items_of_below (variables_in os) (vars_of os list) (vars_below os list),
        (
          (start_small start (λ k. and_left (start_meets start k) (size_meets os size k) (behind k)), tt),
          size_formed os size (λ k. and_right (start_meets start k) (size_meets os size k) (behind k)),
        ),
      );
      fitting = tt;
    };
    few = omega (arith, items_are os (vars_of os list) (start_of start) size, few);
  }

pub circuit_good : (os : List Outline) (left : ℕ) (c : Concrete) → first_missed (circuit_meets os left c) ≡ None → IsGood os left (circuit_of os c)
circuit_good os left c h =
    let met = met_at (circuit_meets os left c) h in
    let fields : (k : Condition) → fields_meet os left (list_text c.parts) (start_text c.parts) (size_text c.parts) k ≡ true =
    λ k. and_right (spelling_meets (are_parts c.parts) k) (fields_meet os left (list_text c.parts) (start_text c.parts) (size_text c.parts) k) (met k) in
    fields_good os left (list_text c.parts) (start_text c.parts) (size_text c.parts) fields

-- what holds of what is due holds of an answer
pub answer_ok : {A : Type 0} (P : A → Type 0) (test : Condition → Bool) (due : A) (r : Result A FieldStop) → (first_missed test ≡ None → P due) → IsOrMemory r (answer test due) → IfOk r P
answer_ok P test due (Ok x) holds h = subst P (sym (told_value x due (first_missed test) h)) (holds (told_none x due (first_missed test) h))
answer_ok P test due (Err stop) holds h = tt
