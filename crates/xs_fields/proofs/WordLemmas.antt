-- What one word of a list meets, and what it stands for.
use Rattle.std.proofs.Common.{◌≡◌, ℕ, Bool, true, false, ◌&&◌, if◌then◌else◌, List, [], ◌∷◌, length, map, Option, None, Some, Result, refl, ap, ◌∙◌}
use Rattle.std.specs.Result.{result_err}
use Rattle.xs_fields.specs.Cells.{variable_meets, variables_of}
use Rattle.xs_fields.specs.Conditions.{all_meet, first_missed, judged, meets}
use Rattle.xs_fields.specs.Lists.{is_small_run, members_of, run_meets, run_of}
use Rattle.xs_fields.specs.Scanning.{have_room, joined}
use Rattle.xs_fields.specs.Sizes.{brackets_of}
use Rattle.xs_fields.specs.Terms.{is_run, term_meets, word_terms}
use Rattle.xs_fields.specs.Variables.{bracket_meets, bracket_of, is_small_bracket}
use Rattle.xs_fields.specs.declared.condition.Condition.{Condition}
use Rattle.xs_fields.specs.declared.condition.Condition.TheVariants.{Fitting}
use Rattle.xs_fields.specs.declared.runs.Run.{Run}
use Rattle.xs_model.specs.Outline.{Outline}
use Rattle.xs_model.specs.declared.term.Term.{Term}
use Rattle.xs_model.specs.declared.term.Term.TheVariants.{Int, Var}
use Rattle.xs_fields.proofs.OrderLemmas.{judged_missed}

meets_fitting : {A : Type 0} (small : A → Bool) (o : Option A) → meets small o Fitting ≡ true
meets_fitting small None = refl
meets_fitting small (Some x) = refl

pub run_fits : (w : List ℕ) → run_meets w Fitting ≡ true
run_fits w = meets_fitting is_small_run (run_of w)

brackets_fit : (ps : List (List ℕ)) → all_meet bracket_meets ps Fitting ≡ true
brackets_fit [] = refl
brackets_fit (p ∷ ps) = ap (λ v. v && all_meet bracket_meets ps Fitting) (meets_fitting is_small_bracket (bracket_of p)) ∙ brackets_fit ps

-- no word is asked whether it fits
pub variable_fits : (os : List Outline) (w : List ℕ) → variable_meets os w Fitting ≡ true
variable_fits os w = ap (λ v. v && true) (brackets_fit (brackets_of w))

pub term_fits : (os : List Outline) (w : List ℕ) → term_meets os w Fitting ≡ true
term_fits os w = by (is_run w)
  where
    by : (v : Bool) → (if v then run_meets w Fitting else variable_meets os w Fitting) ≡ true
    by true = run_fits w
    by false = variable_fits os w

pub run_judged : (w : List ℕ) (r : Result Run Condition) → r ≡ judged is_small_run (run_of w) → result_err r ≡ first_missed (run_meets w)
run_judged w r is = ap result_err is ∙ judged_missed is_small_run (run_of w)

-- a word of a list of terms that is one of integers
module _ (os : List Outline) (w : List ℕ) (v : Bool) (is : v ≡ is_run w) where
  term_missed : first_missed (λ k. if v then run_meets w k else variable_meets os w k) ≡ first_missed (term_meets os w)
  term_missed = ap (λ (b : Bool). first_missed (λ k. if b then run_meets w k else variable_meets os w k)) is

  terms_are : (if v then map Int (members_of w) else map Var (variables_of os w)) ≡ word_terms os w
  terms_are = ap (λ (b : Bool). if b then map Int (members_of w) else map Var (variables_of os w)) is

pub term_run_missed : (os : List Outline) (w : List ℕ) → true ≡ is_run w → first_missed (run_meets w) ≡ first_missed (term_meets os w)
term_run_missed os w is = term_missed os w true is

pub term_run_are : (os : List Outline) (w : List ℕ) → true ≡ is_run w → map Int (members_of w) ≡ word_terms os w
term_run_are os w is = terms_are os w true is

-- and one that is a variable word
pub term_variable_missed : (os : List Outline) (w : List ℕ) → false ≡ is_run w → first_missed (variable_meets os w) ≡ first_missed (term_meets os w)
term_variable_missed os w is = term_missed os w false is

pub term_variable_are : (os : List Outline) (w : List ℕ) → false ≡ is_run w → map Var (variables_of os w) ≡ word_terms os w
term_variable_are os w is = terms_are os w false is

pub joined_same : (missed a b : Option Condition) (left : ℕ) (old xs ys : List Term) → a ≡ b → xs ≡ ys → joined missed a (have_room left old (length xs)) ≡ joined missed b (have_room left old (length ys))
joined_same missed a b left old xs ys e f = ap (λ m. joined missed m (have_room left old (length xs))) e ∙ ap (λ (zs : List Term). joined missed b (have_room left old (length zs))) f
