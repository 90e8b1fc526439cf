-- Tables and ranges by tests.
use Rattle.std.proofs.Common.{◌≡◌, ◌↔◌, inl, inr, ℤ, true, false, List, [], ◌∷◌, length, Option, None, Some, refl, sym, ◌∙◌, arith}
use Rattle.std.specs.List.{AllByRecursion, list_all}
use Rattle.std.specs.Ordering.{int_eq}
use Rattle.std.proofs.lemmas.Bool.{true≢false, and_parts, and_from, false_from_ne_true}
use Rattle.std.proofs.lemmas.Bool.Decides.{Decides-int_eq}
use Rattle.xf_num.specs.Domain.{IsMember}
use Rattle.xf_num.specs.Span.{Bounds}
use Rattle.xs_model.specs.Language.{Agrees}
use Rattle.xs_model.specs.Lists.{SomeOf}
use Rattle.xs_laws.specs.Meeting.{is_within}
use Rattle.xs_laws.specs.Tables.{matches, is_matched, TableLaw, RangesLaw, NoRangesLaw}
use Rattle.xs_laws.proofs.Somes.{some_from_any, any_from_some}
use Rattle.xs_laws.proofs.Meeting.{within_is}

pub matched_is : (t : List (Option ℤ)) (xs : List ℤ) → length t ≡ length xs → Agrees t xs ↔ (is_matched xs t ≡ true)
matched_is [] [] many = (λ h. refl, λ h. tt)
matched_is [] (x ∷ xs) many = absurd (omega arith)
matched_is (e ∷ es) [] many = absurd (omega arith)
matched_is (None ∷ es) (x ∷ xs) many = matched_is es xs (omega arith)
matched_is (Some z ∷ es) (x ∷ xs) many =
    let rest = matched_is es xs (omega arith) in (
      λ h. and_from (int_eq x z) (list_all (λ b. b) (matches es xs)) ((Decides-int_eq x z).1 h.0) (rest.0 h.1),
      λ h. let r = and_parts (int_eq x z) (list_all (λ b. b) (matches es xs)) h in ((Decides-int_eq x z).0 r.0, rest.1 r.1),
    )

-- some or all of a list, in other words for its members
some_among : {X : Type 0} (Q P R : X → Type 0) (xs : List X) → ((x : X) → Q x → P x → R x) → AllByRecursion Q xs → SomeOf P xs → SomeOf R xs
some_among Q P R [] f q h = h
some_among Q P R (x ∷ xs) f q (inl h) = inl (f x q.0 h)
some_among Q P R (x ∷ xs) f q (inr h) = inr (some_among Q P R xs f q.1 h)

all_among : {X : Type 0} (Q P R : X → Type 0) (xs : List X) → ((x : X) → Q x → P x → R x) → AllByRecursion Q xs → AllByRecursion P xs → AllByRecursion R xs
all_among Q P R [] f q h = tt
all_among Q P R (x ∷ xs) f q h = (f x q.0 h.0, all_among Q P R xs f q.1 h.1)

pub table_is_matched : TableLaw
table_is_matched n true tuples xs all many = (
  λ h. any_from_some (is_matched xs) tuples (some_among (λ t. length t ≡ n) (λ t. Agrees t xs) (λ t. is_matched xs t ≡ true) tuples (λ t e. (matched_is t xs (e ∙ sym many)).0) all h),
  λ h. some_among (λ t. length t ≡ n) (λ t. is_matched xs t ≡ true) (λ t. Agrees t xs) tuples (λ t e. (matched_is t xs (e ∙ sym many)).1) all (some_from_any (is_matched xs) tuples h),
)
table_is_matched n false tuples xs all many = (
  λ h. all_among (λ t. length t ≡ n) (λ t. ¬ (Agrees t xs)) (λ t. is_matched xs t ≡ false) tuples (λ t e f. false_from_ne_true (is_matched xs t) (λ m. f ((matched_is t xs (e ∙ sym many)).1 m))) all h,
  λ h. all_among (λ t. length t ≡ n) (λ t. is_matched xs t ≡ false) (λ t. ¬ (Agrees t xs)) tuples (λ t e f a. true≢false (sym ((matched_is t xs (e ∙ sym many)).0 a) ∙ f)) all h,
)

member_some : (bs : List Bounds) (x : ℤ) → IsMember bs x → SomeOf (λ b. is_within b x ≡ true) bs
member_some [] x h = h
member_some (b ∷ bs) x (inl h) = inl ((within_is b x).0 h)
member_some (b ∷ bs) x (inr h) = inr (member_some bs x h)

some_member : (bs : List Bounds) (x : ℤ) → SomeOf (λ b. is_within b x ≡ true) bs → IsMember bs x
some_member [] x h = h
some_member (b ∷ bs) x (inl h) = inl ((within_is b x).1 h)
some_member (b ∷ bs) x (inr h) = inr (some_member bs x h)

none_holds : (bs : List Bounds) (x : ℤ) → (IsMember bs x → ⊥) → AllByRecursion (λ b. is_within b x ≡ false) bs
none_holds [] x h = tt
none_holds (b ∷ bs) x h = (false_from_ne_true (is_within b x) (λ e. h (inl ((within_is b x).1 e))), none_holds bs x (λ m. h (inr m)))

holds_none : (bs : List Bounds) (x : ℤ) → AllByRecursion (λ b. is_within b x ≡ false) bs → IsMember bs x → ⊥
holds_none [] x h m = m
holds_none (b ∷ bs) x h (inl m) = true≢false (sym ((within_is b x).0 m) ∙ h.0)
holds_none (b ∷ bs) x h (inr m) = holds_none bs x h.1 m

pub ranges_are_held : RangesLaw
ranges_are_held true ranges merged x same = (
  λ h. any_from_some (λ b. is_within b x) merged (member_some merged x ((same x).1 h)),
  λ h. (same x).0 (some_member merged x (some_from_any (λ b. is_within b x) merged h)),
)
ranges_are_held false ranges merged x same = (
  λ h. none_holds merged x (λ m. h ((same x).0 m)),
  λ h m. holds_none merged x h ((same x).1 m),
)

pub no_ranges : NoRangesLaw
no_ranges x = (λ h. h, λ h. h)
