-- A table by the test of its members.
use Rattle.std.proofs.Common.{◌≡◌, ◌↔◌, ℕ, ℤ, Bool, true, false, ◌||◌, List, [], ◌∷◌, length, map, Option, refl, sym, ap, ◌∙◌}
use Rattle.std.specs.Prelude.{not}
use Rattle.std.specs.List.{AllByRecursion, list_any}
use Rattle.std.proofs.lemmas.List.{length-map}
use Rattle.xf_num.specs.Span.{Bounds}
use Rattle.xs_laws.specs.Meeting.{is_within}
use Rattle.xs_laws.specs.Tables.{is_matched}
use Rattle.xs_laws.proofs.Tables.{table_is_matched, ranges_are_held}
use Rattle.xs_model.specs.Fitting.{HaveLength}
use Rattle.xs_model.specs.Instance.{values}
use Rattle.xs_model.specs.Language.{IsInSpans, IsInTable}
use Rattle.xs_model.specs.Value.{at}
use Rattle.xs_tables.specs.Holding.{is_asked}

none_all : {A : Type 0} (f : A → Bool) (xs : List A) → list_any f xs ≡ false → AllByRecursion (λ x. f x ≡ false) xs
none_all f [] h = tt
none_all f (x ∷ xs) h = by (none_all f xs) (f x) refl h
  where
    by : (list_any f xs ≡ false → AllByRecursion (λ y. f y ≡ false) xs) → (v : Bool) → f x ≡ v → (v || list_any f xs) ≡ false → (f x ≡ false) × AllByRecursion (λ y. f y ≡ false) xs
    by rest true e g = cc
    by rest false e g = (e, rest g)

all_none : {A : Type 0} (f : A → Bool) (xs : List A) → AllByRecursion (λ x. f x ≡ false) xs → list_any f xs ≡ false
all_none f [] h = refl
all_none f (x ∷ xs) h = ap (λ v. v || list_any f xs) h.0 ∙ all_none f xs h.1

not_is : (b : Bool) → not b ≡ true → b ≡ false
not_is true h = cc
not_is false h = refl

is_not : (b : Bool) → b ≡ false → not b ≡ true
is_not true h = cc
is_not false h = refl

pub table_holds : (list : List ℕ) (tuples : List (List (Option ℤ))) (positive : Bool) (a : List ℤ) (some : Bool) → HaveLength (length list) tuples → some ≡ list_any (is_matched (values a list)) tuples
    → (is_asked positive some ≡ true) ↔ IsInTable positive tuples (values a list)
table_holds list tuples true a some long is =
    let law = table_is_matched (length list) true tuples (values a list) long (length-map list (at a)) in
    (λ h. law.1 (sym is ∙ h), λ h. is ∙ law.0 h)
table_holds list tuples false a some long is =
    let law = table_is_matched (length list) false tuples (values a list) long (length-map list (at a)) in
    (λ h. law.1 (none_all (is_matched (values a list)) tuples (sym is ∙ not_is some h)), λ h. is_not some (is ∙ all_none (is_matched (values a list)) tuples (law.0 h)))

pub ranges_hold : (spans : List Bounds) (positive : Bool) (x : ℤ) (some : Bool) → some ≡ list_any (λ b. is_within b x) spans → (is_asked positive some ≡ true) ↔ IsInSpans positive spans x
ranges_hold spans true x some is =
    let law = ranges_are_held true spans spans x (λ v. (λ h. h, λ h. h)) in
    (λ h. law.1 (sym is ∙ h), λ h. is ∙ law.0 h)
ranges_hold spans false x some is =
    let law = ranges_are_held false spans spans x (λ v. (λ h. h, λ h. h)) in
    (λ h. law.1 (none_all (λ b. is_within b x) spans (sym is ∙ not_is some h)), λ h. is_not some (is ∙ all_none (λ b. is_within b x) spans (law.0 h)))
