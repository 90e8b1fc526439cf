-- What parts miss first, and what the whole misses first.
use Rattle.std.proofs.Common.{◌≡◌, ℕ, ℤ, List, [], ◌∷◌, ◌++◌, refl, sym, ap, ◌∙◌, Bool, true, false, not, ◌&&◌, cond, if◌then◌else◌, Option, Some, None, Ok, Err}
use Rattle.std.specs.Result.{result_err}
use Rattle.xs_fields.specs.Cells.{name_meets, reached, variable_meets, variables_of}
use Rattle.xs_fields.specs.Conditions.{all_meet, earlier_of, first_missed, judged, meets}
use Rattle.xs_fields.specs.Sizes.{brackets_of, size_of, size_meets}
use Rattle.xs_fields.specs.Variables.{bracket_of, bracket_meets, is_small_bracket, word_meets, word_of}
use Rattle.xs_fields.specs.declared.condition.Condition.{Condition}
use Rattle.xs_fields.specs.declared.condition.Condition.TheVariants.{Known, Nesting, Spelling, Magnitude, Naming, Counting, Fitting}
use Rattle.xs_fields.specs.declared.variable.Word.{Word}
use Rattle.xs_fields.proofs.FirstLemmas.{all_met, met_at}
use Rattle.xs_fields.proofs.IntegerLemmas.{and_left, and_right}
use Rattle.xs_fields.proofs.NamingLemmas.{reached_missed}
use Rattle.xs_fields.proofs.OrderLemmas.{first_missed-words, earlier_assoc}
use Rattle.xs_model.specs.Outline.{Outline}
use Rattle.xs_model.specs.declared.expr.Expr.{Expr, Var}
use Rattle.xs_expr.specs.Tokens.{tokens_of}
use Rattle.xs_fields.specs.Integers.{integer_of, is_small}
use Rattle.xs_notation.specs.Nesting.{is_deeper, nesting_meets}
use Rattle.xs_notation.specs.Parse.{parse}
use Rattle.xs_notation.specs.Reading.{expr_meets, raw_meets, words_in}
use Rattle.xs_notation.specs.Terms.{direct_meets, settled, term_meets, term_meets_by, variable_in}
use Rattle.xs_notation.specs.declared.raw.Raw.{Raw}

pub settled-err : (o : Option Condition) (e : Expr) → result_err (settled o e) ≡ o
settled-err None e = refl
settled-err (Some k) e = refl

pub earlier-none : (o : Option Condition) → earlier_of o None ≡ o
earlier-none None = refl
earlier-none (Some k) = refl

-- a name that misses
pub name-missed : (os : List Outline) (word : List ℕ) (parsed : Word) (k : Condition) (e : Expr) → parsed ≡ word_of word → reached os parsed ≡ Err k → Err k ≡ settled (first_missed (name_meets os word)) e
name-missed os word parsed k e is missed =
    ap (λ o. settled o e) (ap result_err (sym missed ∙ ap (reached os) is) ∙ reached_missed os word)

all-true : (test : List ℕ → Condition → Bool) (k : Condition) (ps : List (List ℕ)) → ((p : List ℕ) → test p k ≡ true) → all_meet test ps k ≡ true
all-true test k [] h = refl
all-true test k (p ∷ ps) h = ap (λ (t : Bool). t && all_meet test ps k) (h p) ∙ all-true test k ps h

-- a word is asked for its spelling and its magnitude alone
module _ {A : Type 0} (small : A → Bool) where
  at-naming : (o : Option A) → meets small o Naming ≡ true
  at-naming None = refl
  at-naming (Some x) = refl

  at-counting : (o : Option A) → meets small o Counting ≡ true
  at-counting None = refl
  at-counting (Some x) = refl

  at-fitting : (o : Option A) → meets small o Fitting ≡ true
  at-fitting None = refl
  at-fitting (Some x) = refl

both : (a b : Bool) → a ≡ true → b ≡ true → (a && b) ≡ true
both a b g h = ap (λ (t : Bool). t && b) g ∙ h

direct-naming : (w : List ℕ) → direct_meets w Naming ≡ true
direct-naming w = both _ _ (all-true bracket_meets Naming (brackets_of w) (λ p. at-naming is_small_bracket (bracket_of p))) (all-true size_meets Naming (brackets_of w) (λ p. at-naming is_small (size_of p)))

direct-counting : (w : List ℕ) → direct_meets w Counting ≡ true
direct-counting w = both _ _ (all-true bracket_meets Counting (brackets_of w) (λ p. at-counting is_small_bracket (bracket_of p))) (all-true size_meets Counting (brackets_of w) (λ p. at-counting is_small (size_of p)))

direct-fitting : (w : List ℕ) → direct_meets w Fitting ≡ true
direct-fitting w = both _ _ (all-true bracket_meets Fitting (brackets_of w) (λ p. at-fitting is_small_bracket (bracket_of p))) (all-true size_meets Fitting (brackets_of w) (λ p. at-fitting is_small (size_of p)))

-- the first missed of seven tests
abbrev first_of : (a b c d e f g : Bool) → Option Condition
first_of a b c d e f g = cond (not a) (Some Known) (cond (not b) (Some Nesting) (cond (not c) (Some Spelling) (cond (not d) (Some Magnitude) (cond (not e) (Some Naming) (cond (not f) (Some Counting) (cond (not g) (Some Fitting) None))))))

stays : (a b c d n : Bool) (k : Condition) → first_of a b c d true true true ≡ Some k → Some k ≡ first_of (a && true) (b && true) (c && true) (d && true) n true true
stays true true true true n k h = cc
stays true true true false n k h = sym h
stays true true false d n k h = sym h
stays true false c d n k h = sym h
stays false b c d n k h = sym h

-- what a direct word misses of its spelling and its magnitude is asked before its name
pub direct-first : (os : List Outline) (w : List ℕ) (k : Condition) → first_missed (direct_meets w) ≡ Some k → Some k ≡ first_missed (λ j. direct_meets w j && name_meets os w j)
direct-first os w k h =
    let t : Condition → Bool = direct_meets w in
    let n : Bool = name_meets os w Naming in
    stays (t Known) (t Nesting) (t Spelling) (t Magnitude) n k
    (ap (λ (v : Bool). first_of (t Known) (t Nesting) (t Spelling) (t Magnitude) true true v) (sym (direct-fitting w))
    ∙ ap (λ (v : Bool). first_of (t Known) (t Nesting) (t Spelling) (t Magnitude) true v (t Fitting)) (sym (direct-counting w))
    ∙ ap (λ (v : Bool). first_of (t Known) (t Nesting) (t Spelling) (t Magnitude) v (t Counting) (t Fitting)) (sym (direct-naming w))
    ∙ h)
    ∙ ap (λ (v : Bool). first_of (t Known && true) (t Nesting && true) (t Spelling && true) (t Magnitude && true) (v && n) true true) (sym (direct-naming w))
    ∙ ap (λ (v : Bool). first_of (t Known && true) (t Nesting && true) (t Spelling && true) (t Magnitude && true) (t Naming && n) (v && true) true) (sym (direct-counting w))
    ∙ ap (λ (v : Bool). first_of (t Known && true) (t Nesting && true) (t Spelling && true) (t Magnitude && true) (t Naming && n) (t Counting && true) (v && true)) (sym (direct-fitting w))

-- a word that spells no integer
pub unspelt : (o : Option ℤ) → judged is_small o ≡ Err Spelling → o ≡ None
unspelt None h = refl
unspelt (Some z) h = by (is_small z) h
  where
    by : (v : Bool) → (if v then Ok z else Err Magnitude) ≡ Err Spelling → Some z ≡ None
    by true g = cc
    by false g = cc

-- words behind words
pub missed-both : (test : List ℕ → Condition → Bool) (xs ys : List (List ℕ)) → first_missed (all_meet test (xs ++ ys)) ≡ earlier_of (first_missed (all_meet test xs)) (first_missed (all_meet test ys))
missed-both test [] ys = refl
missed-both test (x ∷ xs) ys =
    first_missed-words test x (xs ++ ys)
    ∙ ap (earlier_of (first_missed (test x))) (missed-both test xs ys)
    ∙ sym (earlier_assoc (first_missed (test x)) (first_missed (all_meet test xs)) (first_missed (all_meet test ys)))
    ∙ ap (λ m. earlier_of m (first_missed (all_meet test ys))) (sym (first_missed-words test x xs))

pub missed-one : (test : List ℕ → Condition → Bool) (w : List ℕ) → first_missed (all_meet test (w ∷ [])) ≡ first_missed (test w)
missed-one test w = first_missed-words test w [] ∙ earlier-none (first_missed (test w))

-- one part more
pub missed-next : (test : List ℕ → Condition → Bool) (so_far judged_next all : Option Condition) (next more left : List (List ℕ)) → left ≡ next ++ more → judged_next ≡ first_missed (all_meet test next)
    → earlier_of so_far (first_missed (all_meet test left)) ≡ all → earlier_of (earlier_of so_far judged_next) (first_missed (all_meet test more)) ≡ all
missed-next test so_far judged_next all next more left cut is h =
    earlier_assoc so_far judged_next (first_missed (all_meet test more))
    ∙ ap (λ m. earlier_of so_far (earlier_of m (first_missed (all_meet test more)))) is
    ∙ ap (earlier_of so_far) (sym (missed-both test next more) ∙ ap (λ ws. first_missed (all_meet test ws)) (sym cut))
    ∙ h

-- the depth is asked first
known-true : {A : Type 0} (small : A → Bool) (o : Option A) → meets small o Known ≡ true
known-true small None = refl
known-true small (Some x) = refl

term-known : (os : List Outline) (w : List ℕ) (o : Option ℤ) → term_meets_by os w o Known ≡ true
term-known os w (Some z) = refl
term-known os w None =
    both _ _
    (both _ _ (all-true bracket_meets Known (brackets_of w) (λ p. known-true is_small_bracket (bracket_of p))) (all-true size_meets Known (brackets_of w) (λ p. known-true is_small (size_of p))))
    refl

raw-known : (os : List Outline) (o : Option Raw) → raw_meets os o Known ≡ true
raw-known os None = refl
raw-known os (Some r) = all-true (term_meets os) Known (words_in r) (λ w. term-known os w (integer_of w))

nesting-first : (v : Bool) (raw : Condition → Bool) (k : Condition) → raw Known ≡ true → cond (not (not v)) (Some Nesting) None ≡ Some k
    → Some k ≡ first_of (true && raw Known) (not v && raw Nesting) (true && raw Spelling) (true && raw Magnitude) (true && raw Naming) (true && raw Counting) (true && raw Fitting)
nesting-first true raw k h e = sym e ∙ ap (λ (w : Bool). cond (not w) (Some Known) (Some Nesting)) (sym h)
nesting-first false raw k h e = cc

pub deep-first : (os : List Outline) (text : List ℕ) (k : Condition) → first_missed (nesting_meets text) ≡ Some k → Some k ≡ first_missed (expr_meets os text)
deep-first os text k h = nesting-first (is_deeper 0 text) (raw_meets os (parse (tokens_of text))) k (raw-known os (parse (tokens_of text))) h

-- a direct word that is looked up
pub direct-settled : (os : List Outline) (w : List ℕ) (v : ℕ) → first_missed (variable_meets os w) ≡ None → first_missed (all_meet size_meets (brackets_of w)) ≡ None → variables_of os w ≡ v ∷ [] → Ok (Var v) ≡ settled (first_missed (λ k. direct_meets w k && name_meets os w k)) (variable_in (variables_of os w))
direct-settled os w v word sizes is =
    let met : (k : Condition) → (direct_meets w k && name_meets os w k) ≡ true =
    λ k. both _ _ (both _ _ (and_left (word_meets w k) (name_meets os w k) (met_at (variable_meets os w) word k)) (met_at (all_meet size_meets (brackets_of w)) sizes k)) (and_right (word_meets w k) (name_meets os w k) (met_at (variable_meets os w) word k)) in
    sym (ap (λ o. settled o (variable_in (variables_of os w))) (all_met (λ k. direct_meets w k && name_meets os w k) met) ∙ ap (λ vs. Ok (variable_in vs)) is)
