-- A list of terms is well formed over declared variables.
use Rattle.std.proofs.Common.{◌≡◌, ℕ, ◌<◌, ℤ, nat_abs, Bool, true, false, ◌&&◌, List, [], ◌∷◌, ◌++◌, map, replicate, Option, None, Some, Ok, Err, refl, ap, ◌∙◌, if◌then◌else◌, zero, suc}
use Rattle.std.specs.List.{AllByRecursion, flat_map}
use borrow.Author.Tests.{leb-true}
use Rattle.xs_fields.specs.Cells.{variables_of}
use Rattle.xs_fields.specs.Conditions.{judged}
use Rattle.xs_fields.specs.Integers.{is_small}
use Rattle.xs_fields.specs.Lists.{is_small_run, members_in, members_of, run_of}
use Rattle.xs_fields.specs.Terms.{is_run, terms_of, word_terms}
use Rattle.xs_fields.specs.Words.{words_of}
use Rattle.xs_fields.specs.declared.condition.Condition.TheVariants.{Magnitude}
use Rattle.xs_fields.specs.declared.runs.Run.{Run}
use Rattle.xs_model.specs.Fields.{item_of}
use Rattle.xs_model.specs.Formed.{IsFormedItem}
use Rattle.xs_model.specs.Outline.{Outline, variables_in}
use Rattle.xs_model.specs.Sound.{magnitudes}
use Rattle.xs_model.specs.declared.term.Term.{Term}
use Rattle.xs_model.specs.declared.term.Term.TheVariants.{Int, Var}
use Rattle.xs_tables.proofs.BelowLemmas.{vars_below}

front : {A : Type 0} (P : A → Type 0) (xs ys : List A) → AllByRecursion P (xs ++ ys) → AllByRecursion P xs
front P [] ys h = tt
front P (x ∷ xs) ys h = (h.0, front P xs ys h.1)

behind : {A : Type 0} (P : A → Type 0) (xs ys : List A) → AllByRecursion P (xs ++ ys) → AllByRecursion P ys
behind P [] ys h = h
behind P (x ∷ xs) ys h = behind P xs ys h.1

abbrev AreFormedTerms : ℕ → List Term → Type 0
AreFormedTerms n ts = AllByRecursion (IsFormedItem n) (map item_of ts)

terms_more : (n : ℕ) (xs ys : List Term) → AreFormedTerms n xs → AreFormedTerms n ys → AreFormedTerms n (xs ++ ys)
terms_more n [] ys h g = g
terms_more n (x ∷ xs) ys h g = (h.0, terms_more n xs ys h.1 g)

variables_formed : (n : ℕ) (vs : List ℕ) → AllByRecursion (λ v. v < n) vs → AreFormedTerms n (map Var vs)
variables_formed n [] h = tt
variables_formed n (v ∷ vs) h = (h.0, variables_formed n vs h.1)

copies_formed : (n : ℕ) (z : ℤ) → is_small z ≡ true → (zs : List ℤ) → AllByRecursion (λ x. x ≡ z) zs → AreFormedTerms n (map Int zs)
copies_formed n z small [] h = tt
copies_formed n z small (x ∷ zs) h = (leb-true (nat_abs x) magnitudes (ap is_small h.0 ∙ small), copies_formed n z small zs h.1)

all_copies : {A : Type 0} (z : A) (k : ℕ) → AllByRecursion (λ x. x ≡ z) (replicate k z)
all_copies z zero = tt
all_copies z (suc k) = (refl, all_copies z k)

run_formed : (n : ℕ) (o : Option Run) → AreFormedTerms n (map Int (members_in (judged is_small_run o)))
run_formed n None = tt
run_formed n (Some r) = by (is_small r.value) (is_small r.times) refl
  where
    by : (v w : Bool) → is_small r.value ≡ v → AreFormedTerms n (map Int (members_in (if v && w then Ok r else Err Magnitude)))
    by true true e = copies_formed n r.value e (replicate (nat_abs r.times) r.value) (all_copies r.value (nat_abs r.times))
    by true false e = tt
    by false w e = tt

word_formed : (os : List Outline) (w : List ℕ) → AllByRecursion (λ v. v < variables_in os) (variables_of os w) → AreFormedTerms (variables_in os) (word_terms os w)
word_formed os w h = by (is_run w)
  where
    by : (v : Bool) → AreFormedTerms (variables_in os) (if v then map Int (members_of w) else map Var (variables_of os w))
    by true = run_formed (variables_in os) (run_of w)
    by false = variables_formed (variables_in os) (variables_of os w) h

words_formed : (os : List Outline) (ws : List (List ℕ)) → AllByRecursion (λ v. v < variables_in os) (flat_map (variables_of os) ws) → AreFormedTerms (variables_in os) (flat_map (word_terms os) ws)
words_formed os [] h = tt
words_formed os (w ∷ ws) h =
    terms_more (variables_in os) (word_terms os w) (flat_map (word_terms os) ws)
    (word_formed os w (front (λ v. v < variables_in os) (variables_of os w) (flat_map (variables_of os) ws) h))
    (words_formed os ws (behind (λ v. v < variables_in os) (variables_of os w) (flat_map (variables_of os) ws) h))

pub terms_formed : (os : List Outline) (text : List ℕ) → AllByRecursion (IsFormedItem (variables_in os)) (map item_of (terms_of os text))
terms_formed os text = words_formed os (words_of text) (vars_below os text)
