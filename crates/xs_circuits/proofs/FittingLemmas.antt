-- What the texts of a `circuit` miss first, apart from its count.
use Rattle.std.proofs.Common.{◌≡◌, ℕ, Bool, true, false, List, Option, None, Some, nat_le, if◌then◌else◌, refl}
use Rattle.xs_circuits.specs.Circuit.{size_meets, texts_meet}
use Rattle.xs_conditions.specs.Flags.{start_meets}
use Rattle.xs_conditions.specs.Single.{single_meets}
use Rattle.xs_conditions.specs.Spelling.{word_in, word_meets}
use Rattle.xs_conditions.proofs.FormedLemmas.{single_fits}
use Rattle.xs_conditions.proofs.MissedLemmas.{all_true, at_fitting, both}
use Rattle.xs_fields.specs.Cells.{variable_meets, vars_meet}
use Rattle.xs_fields.specs.Conditions.{earlier_of, rank}
use Rattle.xs_fields.specs.Integers.{integer_of, is_small}
use Rattle.xs_fields.specs.Words.{words_of}
use Rattle.xs_fields.specs.declared.condition.Condition.{Condition}
use Rattle.xs_fields.specs.declared.condition.Condition.TheVariants.{Fitting}
use Rattle.xs_fields.proofs.WordLemmas.{variable_fits}
use Rattle.xs_model.specs.Outline.{Outline}

-- no text is asked whether lengths fit
vars_fit : (os : List Outline) (left : ℕ) (list : List ℕ) → vars_meet os list left Fitting ≡ true
vars_fit os left list = both _ _ (all_true (variable_meets os) Fitting (words_of list) (variable_fits os)) refl

start_fits : (start : Option (List ℕ)) → start_meets start Fitting ≡ true
start_fits None = refl
start_fits (Some text) = at_fitting is_small (integer_of text)

word_fits : (os : List Outline) (o : Option (List ℕ)) → word_meets (single_meets os) o Fitting ≡ true
word_fits os None = refl
word_fits os (Some w) = single_fits os w

size_fits : (os : List Outline) (size : Option (List ℕ)) → size_meets os size Fitting ≡ true
size_fits os None = refl
size_fits os (Some text) = word_fits os (word_in text)

pub texts_fit : (os : List Outline) (left : ℕ) (list : List ℕ) (start size : Option (List ℕ)) → texts_meet os left list start size Fitting ≡ true
texts_fit os left list start size = both _ _ (vars_fit os left list) (both _ _ (start_fits start) (size_fits os size))

-- where the first of two is none, both are
pub none_before : (a b : Option Condition) → earlier_of a b ≡ None → a ≡ None
none_before None b h = refl
none_before (Some j) None h = h
none_before (Some j) (Some k) h = absurd (some_not (nat_le (rank j) (rank k)) h)
  where
    some_not : (v : Bool) → (if v then Some j else Some k) ≡ None → ⊥
    some_not true e = cc
    some_not false e = cc
