-- What a list and its table miss first: their texts, and then counts and lengths.
use Rattle.std.proofs.Common.{◌≡◌, ℕ, ◌+◌, ◌-◌, ◌<◌, ◌≤◌, Bool, true, false, ◌&&◌, nat_le, if◌then◌else◌, List, [], ◌∷◌, Option, None, Some, Ok, Err, Result, refl, ap, sym, ◌∙◌, subst, arith}
use Rattle.std.specs.List.{list_all}
use borrow.Author.Tests.{leb-true, leb-false, le-leb, lt-leb}
use Rattle.xf_text.specs.declared.fault.FieldStop.{FieldStop}
use Rattle.xf_text.specs.declared.fault.FieldStop.TheVariants.{Refused}
use Rattle.xs_fields.specs.Cells.{variable_meets, vars_meet}
use Rattle.xs_fields.specs.Conditions.{IsOrMemory, all_meet, answer, answer_on, earlier_of, first_missed, kind_of, meets, rank}
use Rattle.xs_fields.specs.Lists.{has_small_ends, piece_meets, piece_of, pieces_meet}
use Rattle.xs_fields.specs.Words.{is_byte, parts, words_of}
use Rattle.xs_fields.specs.declared.condition.Condition.{Condition}
use Rattle.xs_fields.specs.declared.condition.Condition.TheVariants.{Known, Nesting, Spelling, Magnitude, Naming, Counting, Fitting}
use Rattle.xs_fields.proofs.FirstLemmas.{missed_here, stays_first}
use Rattle.xs_fields.proofs.OrderLemmas.{first_missed-both}
use Rattle.xs_fields.proofs.WordLemmas.{variable_fits}
use Rattle.xs_model.specs.Outline.{Outline}
use Rattle.xs_tables.specs.Groups.{groups_of, inner_of}
use Rattle.xs_tables.specs.Tables.{sizes_meet}
use Rattle.xs_tables.specs.Tuples.{entry_meets, entry_of, inside_meets, is_small_entry, tuple_meets, tuples_meet}

meets_fitting : {A : Type 0} (small : A → Bool) (o : Option A) → meets small o Fitting ≡ true
meets_fitting small None = refl
meets_fitting small (Some x) = refl

pub all_fit : (test : List ℕ → Condition → Bool) → ((w : List ℕ) → test w Fitting ≡ true) → (ws : List (List ℕ)) → all_meet test ws Fitting ≡ true
all_fit test fits [] = refl
all_fit test fits (w ∷ ws) = ap (λ v. v && all_meet test ws Fitting) (fits w) ∙ all_fit test fits ws

inside_fits : (o : Option (List ℕ)) → inside_meets o Fitting ≡ true
inside_fits None = refl
inside_fits (Some inner) = all_fit entry_meets (λ w. meets_fitting is_small_entry (entry_of w)) (parts (is_byte 44) inner)

pub both_true : (a b : Bool) → a ≡ true → b ≡ true → (a && b) ≡ true
both_true a b e f = ap (λ v. v && b) e ∙ f

pub vars_fit : (os : List Outline) (text : List ℕ) (left : ℕ) → vars_meet os text left Fitting ≡ true
vars_fit os text left = both_true (all_meet (variable_meets os) (words_of text) Fitting) true (all_fit (variable_meets os) (variable_fits os) (words_of text)) refl

pub tuple_fits : (g : List ℕ) → tuple_meets g Fitting ≡ true
tuple_fits g = inside_fits (inner_of g)

pub tuples_spelt_fit : (text : List ℕ) (left : ℕ) → tuples_meet text left Fitting ≡ true
tuples_spelt_fit text left =
    both_true (all_meet tuple_meets (groups_of text) Fitting && true) true (both_true (all_meet tuple_meets (groups_of text) Fitting) true (all_fit tuple_meets tuple_fits (groups_of text)) refl) refl

pub pieces_spelt_fit : (text : List ℕ) → pieces_meet text Fitting ≡ true
pieces_spelt_fit text = all_fit piece_meets (λ w. meets_fitting has_small_ends (piece_of w)) (words_of text)

late : (k : Condition) → rank Counting < rank k → k ≡ Fitting
late Known h = absurd (omega (arith, h))
late Nesting h = absurd (omega (arith, h))
late Spelling h = absurd (omega (arith, h))
late Magnitude h = absurd (omega (arith, h))
late Naming h = absurd (omega (arith, h))
late Counting h = absurd (omega (arith, h))
late Fitting h = refl

last : (k : Condition) → rank Fitting < rank k → ⊥
last Known h = omega (arith, h)
last Nesting h = omega (arith, h)
last Spelling h = omega (arith, h)
last Magnitude h = omega (arith, h)
last Naming h = omega (arith, h)
last Counting h = omega (arith, h)
last Fitting h = omega (arith, h)

early : (count left : ℕ) (fits : Bool) (k j : Condition) → (k ≡ Fitting → ⊥) → rank j < rank k → sizes_meet count left fits j ≡ true
early count left fits k Known never h = refl
early count left fits k Nesting never h = refl
early count left fits k Spelling never h = refl
early count left fits k Magnitude never h = refl
early count left fits k Naming never h = refl
early count left fits k Counting never h = absurd (never (late k h))
early count left fits k Fitting never h = absurd (last k h)

module _ (t : Condition → Bool) (count left : ℕ) (fits : Bool) where
  -- what the texts miss is missed first
  pub texts_first : t Fitting ≡ true → (k : Condition) → first_missed t ≡ Some k → first_missed (λ j. t j && sizes_meet count left fits j) ≡ Some k
  texts_first fitting k h =
      stays_first t (sizes_meet count left fits) k h (λ j lt. early count left fits k j (λ e. let both : true ≡ false = sym fitting ∙ ap t (sym e) ∙ missed_here t k h in cc) lt)

  pub refused : {A : Type 0} (due : A) → t Fitting ≡ true → (k : Condition) → first_missed t ≡ Some k → Err (Refused (kind_of k)) ≡ answer (λ j. t j && sizes_meet count left fits j) due
  refused due fitting k h = sym (ap (λ m. answer_on m due) (texts_first fitting k h))

  same : {A : Type 0} (m : Option Condition) (v : A) → IsOrMemory (answer_on m v) (answer_on m v)
  same None v = refl
  same (Some k) v = refl

  -- where they miss nothing, counts and lengths decide
  pub settled : {A : Type 0} (m : Option Condition) (made due : A) (r : Result A FieldStop) → r ≡ answer_on m made → first_missed t ≡ None → m ≡ first_missed (sizes_meet count left fits) → made ≡ due
      → IsOrMemory r (answer (λ j. t j && sizes_meet count left fits j) due)
  settled m made due r is none sizes are =
      let whole : m ≡ first_missed (λ j. t j && sizes_meet count left fits j) =
      sizes ∙ sym (ap (λ o. earlier_of o (first_missed (sizes_meet count left fits))) none) ∙ first_missed-both t (sizes_meet count left fits) in
      subst (λ x. IsOrMemory x (answer (λ j. t j && sizes_meet count left fits j) due)) (sym is)
      (subst (λ n. IsOrMemory (answer_on m made) (answer_on n due)) whole (subst (λ v. IsOrMemory (answer_on m made) (answer_on m v)) are (same m made)))

-- so many more are few where all together are
pub le_shift : (n m left : ℕ) → n ≤ left → nat_le m (left - n) ≡ nat_le (n + m) left
le_shift n m left h = by (nat_le m (left - n)) refl
  where
    by : (v : Bool) → nat_le m (left - n) ≡ v → v ≡ nat_le (n + m) left
    by true e = sym (le-leb (n + m) left (omega (arith, h, leb-true m (left - n) e)))
    by false e = sym (lt-leb (n + m) left (omega (arith, h, leb-false m (left - n) e)))

pub lt_shift : (n m left : ℕ) → left < n → false ≡ nat_le (n + m) left
lt_shift n m left h = sym (lt-leb (n + m) left (omega (arith, h)))

-- where the earlier of two is none, the first is
pub first_none : (a b : Option Condition) → earlier_of a b ≡ None → a ≡ None
first_none None b h = refl
first_none (Some j) None h = cc
first_none (Some j) (Some k) h = absurd (some_not (nat_le (rank j) (rank k)) h)
  where
    some_not : (v : Bool) → (if v then Some j else Some k) ≡ None → ⊥
    some_not true e = cc
    some_not false e = cc

-- and so is the other
pub second_none : (a b : Option Condition) → earlier_of a b ≡ None → b ≡ None
second_none None b h = h
second_none (Some j) None h = refl
second_none (Some j) (Some k) h = absurd (some_not (nat_le (rank j) (rank k)) h)
  where
    some_not : (v : Bool) → (if v then Some j else Some k) ≡ None → ⊥
    some_not true e = cc
    some_not false e = cc
