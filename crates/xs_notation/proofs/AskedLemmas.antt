-- What the text of an expression is not asked for.
use Rattle.std.proofs.Common.{◌≡◌, ℤ, List, [], ◌∷◌, refl, ap, ◌∙◌, ℕ, Bool, true, false, ◌&&◌, not, Option, None, Some}
use Rattle.xs_fields.specs.Conditions.{all_meet, meets}
use Rattle.xs_fields.specs.Integers.{integer_of, is_small}
use Rattle.xs_fields.specs.Sizes.{brackets_of, size_meets, size_of}
use Rattle.xs_fields.specs.Variables.{bracket_meets, bracket_of, is_small_bracket}
use Rattle.xs_fields.specs.declared.condition.Condition.{Condition}
use Rattle.xs_fields.specs.declared.condition.Condition.TheVariants.{Known, Nesting, Spelling, Magnitude, Naming, Counting, Fitting}
use Rattle.xs_model.specs.Outline.{Outline}
use Rattle.xs_expr.specs.Tokens.{tokens_of}
use Rattle.xs_notation.specs.Nesting.{is_deeper}
use Rattle.xs_notation.specs.Parse.{parse}
use Rattle.xs_notation.specs.Reading.{expr_meets, raw_meets, words_in}
use Rattle.xs_notation.specs.Terms.{direct_meets, term_meets, term_meets_by}
use Rattle.xs_notation.specs.declared.raw.Raw.{Raw}

-- no word is asked for these
abbrev pub is_unasked : Condition → Bool
is_unasked Known = true
is_unasked Nesting = true
is_unasked Spelling = false
is_unasked Magnitude = false
is_unasked Naming = false
is_unasked Counting = true
is_unasked Fitting = true

value-unasked : {A : Type 0} (small : A → Bool) (o : Option A) (k : Condition) → is_unasked k ≡ true → meets small o k ≡ true
value-unasked small None Known h = refl
value-unasked small None Nesting h = refl
value-unasked small None Spelling h = cc
value-unasked small None Magnitude h = cc
value-unasked small None Naming h = cc
value-unasked small None Counting h = refl
value-unasked small None Fitting h = refl
value-unasked small (Some x) Known h = refl
value-unasked small (Some x) Nesting h = refl
value-unasked small (Some x) Spelling h = cc
value-unasked small (Some x) Magnitude h = cc
value-unasked small (Some x) Naming h = cc
value-unasked small (Some x) Counting h = refl
value-unasked small (Some x) Fitting h = refl

both : (a b : Bool) → a ≡ true → b ≡ true → (a && b) ≡ true
both a b g h = ap (λ (t : Bool). t && b) g ∙ h

all-unasked : (test : List ℕ → Condition → Bool) (k : Condition) → ((w : List ℕ) → test w k ≡ true) → (ws : List (List ℕ)) → all_meet test ws k ≡ true
all-unasked test k h [] = refl
all-unasked test k h (w ∷ ws) = both (test w k) (all_meet test ws k) (h w) (all-unasked test k h ws)

direct-unasked : (w : List ℕ) (k : Condition) → is_unasked k ≡ true → direct_meets w k ≡ true
direct-unasked w Known h =
    both _ _ (all-unasked bracket_meets Known (λ b. value-unasked is_small_bracket (bracket_of b) Known h) (brackets_of w))
    (all-unasked size_meets Known (λ b. value-unasked is_small (size_of b) Known h) (brackets_of w))
direct-unasked w Nesting h =
    both _ _ (all-unasked bracket_meets Nesting (λ b. value-unasked is_small_bracket (bracket_of b) Nesting h) (brackets_of w))
    (all-unasked size_meets Nesting (λ b. value-unasked is_small (size_of b) Nesting h) (brackets_of w))
direct-unasked w Spelling h = cc
direct-unasked w Magnitude h = cc
direct-unasked w Naming h = cc
direct-unasked w Counting h =
    both _ _ (all-unasked bracket_meets Counting (λ b. value-unasked is_small_bracket (bracket_of b) Counting h) (brackets_of w))
    (all-unasked size_meets Counting (λ b. value-unasked is_small (size_of b) Counting h) (brackets_of w))
direct-unasked w Fitting h =
    both _ _ (all-unasked bracket_meets Fitting (λ b. value-unasked is_small_bracket (bracket_of b) Fitting h) (brackets_of w))
    (all-unasked size_meets Fitting (λ b. value-unasked is_small (size_of b) Fitting h) (brackets_of w))

named-unasked : (os : List Outline) (w : List ℕ) (k : Condition) → is_unasked k ≡ true → direct_meets w k ≡ true → term_meets_by os w None k ≡ true
named-unasked os w Known h d = both _ true d refl
named-unasked os w Nesting h d = both _ true d refl
named-unasked os w Spelling h d = cc
named-unasked os w Magnitude h d = cc
named-unasked os w Naming h d = cc
named-unasked os w Counting h d = both _ true d refl
named-unasked os w Fitting h d = both _ true d refl

term-unasked : (os : List Outline) (w : List ℕ) (k : Condition) → is_unasked k ≡ true → (o : Option ℤ) → term_meets_by os w o k ≡ true
term-unasked os w k h (Some z) = value-unasked is_small (Some z) k h
term-unasked os w k h None = named-unasked os w k h (direct-unasked w k h)

raw-unasked : (os : List Outline) (o : Option Raw) (k : Condition) → is_unasked k ≡ true → raw_meets os o k ≡ true
raw-unasked os None Known h = refl
raw-unasked os None Nesting h = refl
raw-unasked os None Spelling h = cc
raw-unasked os None Magnitude h = cc
raw-unasked os None Naming h = cc
raw-unasked os None Counting h = refl
raw-unasked os None Fitting h = refl
raw-unasked os (Some r) Known h = all-unasked (term_meets os) Known (λ w. term-unasked os w Known h (integer_of w)) (words_in r)
raw-unasked os (Some r) Nesting h = all-unasked (term_meets os) Nesting (λ w. term-unasked os w Nesting h (integer_of w)) (words_in r)
raw-unasked os (Some r) Spelling h = cc
raw-unasked os (Some r) Magnitude h = cc
raw-unasked os (Some r) Naming h = cc
raw-unasked os (Some r) Counting h = all-unasked (term_meets os) Counting (λ w. term-unasked os w Counting h (integer_of w)) (words_in r)
raw-unasked os (Some r) Fitting h = all-unasked (term_meets os) Fitting (λ w. term-unasked os w Fitting h (integer_of w)) (words_in r)

-- the form of a text is known
pub expr-known : (os : List Outline) (text : List ℕ) → expr_meets os text Known ≡ true
expr-known os text = raw-unasked os (parse (tokens_of text)) Known refl

-- of its depth alone it is asked whether it is nested too deep
pub expr-nesting : (os : List Outline) (text : List ℕ) → not (is_deeper 0 text) ≡ true → expr_meets os text Nesting ≡ true
expr-nesting os text h = both _ _ h (raw-unasked os (parse (tokens_of text)) Nesting refl)

-- no length may fit or not
pub expr-fitting : (os : List Outline) (text : List ℕ) → expr_meets os text Fitting ≡ true
expr-fitting os text = raw-unasked os (parse (tokens_of text)) Fitting refl

-- nothing is counted
pub expr-counting : (os : List Outline) (text : List ℕ) → expr_meets os text Counting ≡ true
expr-counting os text = raw-unasked os (parse (tokens_of text)) Counting refl
