-- Values found in a sorted list, and what is counted by them.
use Rattle.std.proofs.Common.{◌≡◌, ◌≢◌, ◌↔◌, ℕ, zero, suc, ◌+◌, ◌-◌, ◌<◌, ◌≤◌, ◌⊎◌, inl, inr, ℤ, pos, ◌≤ℤ◌, ◌<ℤ◌, Bool, true, false, not, ◌&&◌, ◌||◌, nat_eq, nat_le, nat_lt, List, [], ◌∷◌, length, map, refl, ap, ap₂, sym, ◌∙◌, subst, arith}
use Rattle.std.specs.Prelude.{int_le, int_lt}
use Rattle.std.specs.List.{AllByRecursion, AllZip, list_any, sum_by}
use Rattle.std.specs.List.Sorted.{IsPermutation, IsSorted}
use Rattle.std.specs.Ordering.{int_cmp, int_eq}
use Rattle.std.proofs.lemmas.Bool.{true≢false, cases_Bool, cases_lt, and_parts, and_from, or_cases, not-true, not_from_false, false_from_ne_true, eqb-true, eq-eqb, leb-true}
use Rattle.std.proofs.lemmas.Bool.Decides.{Decides-int_eq}
use Rattle.std.proofs.lemmas.Int.{ints}
use Rattle.std.proofs.lemmas.List.Recursion.{is_sum_by}
use Rattle.std.proofs.lemmas.List.Sorted.{IsPermutation-refl, length_permutation}
use borrow.Author.Tests.{le-leb, lt-ltb, ltb-true}
use Rattle.xf_num.specs.Span.{Bounds}
use Rattle.xs_model.specs.declared.term.Occurrence.{Occurrence}
use Rattle.xs_model.specs.declared.term.Occurrence.TheVariants.{Term, Span}
use Rattle.xs_model.specs.Comparing.{AreDifferent}
use Rattle.xs_model.specs.Conditions.{value_of}
use Rattle.xs_model.specs.Counting.{IsCardinality, distinct_count, places_among}
use Rattle.xs_model.specs.Formed.{total}
use Rattle.xs_model.specs.Instance.{OccursAs}
use Rattle.xs_model.specs.Lists.{is_among, how_often}
use Rattle.xs_model.specs.Value.{at}
use Rattle.xs_laws.specs.Ascending.{IsRun, IsSortedCopy, new_places}
use Rattle.xs_laws.proofs.Ascending.{ascends, ascends_far, closed_is_sum, sorted_among, sorted_distinct, sorted_run}
use Rattle.xs_laws.proofs.Cumulative.{le_says, le_met, lt_says, lt_met}
use Rattle.xs_laws.proofs.Meeting.{within_is}
use Rattle.xs_laws.proofs.Members.{passes, passes_is, passes_yes, passes_no, passes_permuted}
use Rattle.xs_laws.proofs.Somes.{any_as}
use Rattle.xs_counted.specs.Tests.{precedes, IsCut, is_said, are_said, fills, is_full}

-- two tests of the same
same_test : (a b : Bool) → (a ≡ true → b ≡ true) → (b ≡ true → a ≡ true) → a ≡ b
same_test true true to from = refl
same_test true false to from = sym (to refl)
same_test false true to from = from refl
same_test false false to from = refl

-- what precedes, and what does not
lesser : (past : Bool) (v x y : ℤ) → x ≤ℤ y → precedes past v y ≡ true → precedes past v x ≡ true
lesser true v x y le h = le_met x v (let k = le_says y v h in omega (arith, ints, le, k))
lesser false v x y le h = lt_met x v (let k = lt_says y v h in omega (arith, ints, le, k))

greater : (past : Bool) (v x y : ℤ) → x ≤ℤ y → precedes past v x ≡ false → precedes past v y ≡ false
greater past v x y le h = false_from_ne_true (precedes past v y) (λ t. true≢false (sym (lesser past v x y le t) ∙ h))

pub before_all : (past : Bool) (v : ℤ) (ys : List ℤ) (m j : ℕ) → IsSorted int_cmp ys → m < length ys → precedes past v (at ys m) ≡ true → j < m + 1 → precedes past v (at ys j) ≡ true
before_all past v ys m j sorted lt h le = lesser past v (at ys j) (at ys m) (ascends_far ys j m (ascends ys sorted) (omega (arith, le)) lt) h

pub behind_all : (past : Bool) (v : ℤ) (ys : List ℤ) (m j : ℕ) → IsSorted int_cmp ys → precedes past v (at ys m) ≡ false → m ≤ j → j < length ys → precedes past v (at ys j) ≡ false
behind_all past v ys m j sorted h le lt = greater past v (at ys m) (at ys j) (ascends_far ys m j (ascends ys sorted) le lt) h

-- between two cuts stands a run
cuts_run : (v : ℤ) (ys : List ℤ) (a b : ℕ) → IsCut false v ys a → IsCut true v ys b → IsRun v ys a b
cuts_run v ys a b low high = record {
  from = elim (cases_lt b a) [
    | inl lt ↦
        let less = lt_says (at ys b) v (low.before b lt) in
        let more = le_met (at ys b) v (weaker (at ys b) v less) in
        absurd (true≢false (sym more ∙ high.behind b (omega arith) (let f = low.fits in omega (arith, f, lt))))
    | inr le ↦ le
  ];
  to = high.fits;
  before = λ k lt. lt_says (at ys k) v (low.before k lt);
  within = λ k le lt.
      let most = le_says (at ys k) v (high.before k lt) in
      let no = low.behind k le (let f = high.fits in omega (arith, f, lt)) in
      exact (at ys k) v most (λ less. true≢false (sym (lt_met (at ys k) v less) ∙ no));
  behind = λ k le lt. more (at ys k) v (λ most. true≢false (sym (le_met (at ys k) v most) ∙ high.behind k le lt));
}
  where
    weaker : (x y : ℤ) → x <ℤ y → x ≤ℤ y
    weaker x y l = omega (arith, ints, l)

    exact : (x y : ℤ) → x ≤ℤ y → (x <ℤ y → ⊥) → x ≡ y
    exact x y le not_less = grind (arith, ints)

    more : (x y : ℤ) → (x ≤ℤ y → ⊥) → y <ℤ x
    more x y not_most = grind (arith, ints)

pub run_length : (v : ℤ) (ys : List ℤ) (a b : ℕ) → IsCut false v ys a → IsCut true v ys b → b - a ≡ how_often v ys
run_length v ys a b low high = sym (sorted_run v ys ys a b (IsPermutation-refl ys) (cuts_run v ys a b low high))

-- a value occurs where it is among them
passes_some : (p : ℤ → Bool) (ys : List ℤ) → list_any p ys ≡ true → 0 < passes p ys
passes_some p [] h = absurd (true≢false (sym h))
passes_some p (y ∷ ys) h = elim (cases_Bool (p y)) [
  | inl e ↦ let k = passes_yes p y ys e in omega (arith, k)
  | inr e ↦ let k = passes_no p y ys e in let r = passes_some p ys (sym (ap (λ (t : Bool). t || list_any p ys) e) ∙ h) in omega (arith, k, r)
]

some_passes : (p : ℤ → Bool) (ys : List ℤ) → 0 < passes p ys → list_any p ys ≡ true
some_passes p [] h = absurd (omega (arith, h))
some_passes p (y ∷ ys) h = elim (cases_Bool (p y)) [
  | inl e ↦ ap (λ (t : Bool). t || list_any p ys) e
  | inr e ↦ ap (λ (t : Bool). t || list_any p ys) e ∙ some_passes p ys (let k = passes_no p y ys e in omega (arith, k, h))
]

pub occurs_among : (v : ℤ) (ys : List ℤ) (r : Bool) → (r ≡ true → 0 < how_often v ys) → (0 < how_often v ys → r ≡ true) → r ≡ is_among ys v
occurs_among v ys r to from =
    let is = passes_is (int_eq v) ys in
    same_test r (is_among ys v) (λ h. some_passes (int_eq v) ys (let k = to h in omega (arith, k, is))) (λ h. from (let k = passes_some (int_eq v) ys h in omega (arith, k, is)))

-- places with a value of a permutation
pub among_permuted : (vs ws xs : List ℤ) → IsPermutation vs ws → places_among ws xs ≡ places_among vs xs
among_permuted vs ws xs h = passes_is (is_among ws) xs ∙ alike xs ∙ sym (passes_is (is_among vs) xs)
  where
    alike : (xs : List ℤ) → passes (is_among ws) xs ≡ passes (is_among vs) xs
    alike [] = refl
    alike (x ∷ xs) = elim (cases_Bool (is_among vs x)) [
      | inl e ↦ passes_yes (is_among ws) x xs (sym (sorted_among vs ws x h) ∙ e) ∙ ap (λ (n : ℕ). 1 + n) (alike xs) ∙ sym (passes_yes (is_among vs) x xs e)
      | inr e ↦ passes_no (is_among ws) x xs (sym (sorted_among vs ws x h) ∙ e) ∙ alike xs ∙ sym (passes_no (is_among vs) x xs e)
    ]

pub often_permuted : (v : ℤ) (xs ys : List ℤ) → IsPermutation xs ys → how_often v ys ≡ how_often v xs
often_permuted v xs ys h = passes_is (int_eq v) ys ∙ passes_permuted (int_eq v) xs ys h ∙ sym (passes_is (int_eq v) xs)

-- cardinality
said_is : (a : List ℤ) (o : Occurrence) (n : ℕ) → OccursAs a o n ↔ (is_said a o n ≡ true)
said_is a (Term t) n = ((Decides-int_eq (pos n) (value_of a t)).1, (Decides-int_eq (pos n) (value_of a t)).0)
said_is a (Span b) n = within_is b (pos n)

all_said : (a vs : List ℤ) (os : List Occurrence) (xs ys : List ℤ) → IsPermutation xs ys → AllZip (λ v o. OccursAs a o (how_often v xs)) vs os ↔ (are_said a vs os ys ≡ true)
all_said a [] [] xs ys h = (λ z. refl, λ z. tt)
all_said a [] (o ∷ os) xs ys h = (λ z. absurd z, λ z. absurd (true≢false (sym z)))
all_said a (v ∷ vs) [] xs ys h = (λ z. absurd z, λ z. absurd (true≢false (sym z)))
all_said a (v ∷ vs) (o ∷ os) xs ys h =
    let here = said_is a o (how_often v ys) in
    let often = often_permuted v xs ys h in
    let rest = all_said a vs os xs ys h in (
      λ z. and_from (is_said a o (how_often v ys)) (are_said a vs os ys) (here.0 (subst (OccursAs a o) (sym often) z.0)) (rest.0 z.1),
      λ z. let r = and_parts (is_said a o (how_often v ys)) (are_said a vs os ys) z in (subst (OccursAs a o) often (here.1 r.0), rest.1 r.1),
    )

totals : (xs ys vs : List ℤ) → IsPermutation xs ys → total (map (λ v. how_often v ys) vs) ≡ sum_by (λ v. how_often v xs) vs
totals xs ys vs h = is_sum_by (λ vs. total (map (λ v. how_often v ys) vs)) (λ v. how_often v xs) refl (λ v vs. ap (λ (n : ℕ). n + total (map (λ v. how_often v ys) vs)) (often_permuted v xs ys h)) vs

-- what is left over for the others
fills_is : (left : ℕ) (vs xs : List ℤ) → fills left vs xs ≡ nat_eq (total (map (λ v. how_often v xs) vs)) left
fills_is left [] xs = same_test (nat_eq left 0) (nat_eq 0 left) (λ h. eq-eqb 0 left (sym (eqb-true left 0 h))) (λ h. eq-eqb left 0 (sym (eqb-true 0 left h)))
fills_is left (v ∷ vs) xs = by (nat_le (how_often v xs) left) refl (fills_is (left - how_often v xs) vs xs)
  where
    rest : ℕ
    rest = total (map (λ w. how_often w xs) vs)

    by : (t : Bool) → nat_le (how_often v xs) left ≡ t → fills (left - how_often v xs) vs xs ≡ nat_eq rest (left - how_often v xs) → (t && fills (left - how_often v xs) vs xs) ≡ nat_eq (how_often v xs + rest) left
    by true e h =
        let le : how_often v xs ≤ left = leb-true _ _ e in
        h ∙ same_test (nat_eq rest (left - how_often v xs)) (nat_eq (how_often v xs + rest) left)
        (λ k. let is = eqb-true rest (left - how_often v xs) k in eq-eqb (how_often v xs + rest) left (omega (arith, is, le)))
        (λ k. let is = eqb-true (how_often v xs + rest) left k in eq-eqb rest (left - how_often v xs) (omega (arith, is, le)))
    by false e h = sym (false_from_ne_true (nat_eq (how_often v xs + rest) left) (λ k.
        let is = eqb-true (how_often v xs + rest) left k in
        true≢false (sym (le-leb (how_often v xs) left (omega (arith, is))) ∙ e)))

closed_is : (closed : Bool) (vs xs ys : List ℤ) → AreDifferent vs → IsPermutation xs ys → length ys ≡ length xs → (closed ≡ true → AllByRecursion (λ x. is_among vs x ≡ true) xs) ↔ ((not closed || is_full vs ys) ≡ true)
closed_is true vs xs ys different h same =
    let law = closed_is_sum vs xs different in
    let sums = totals xs ys vs h in
    let full = fills_is (length ys) vs ys in (
      λ z. full ∙ eq-eqb (total (map (λ v. how_often v ys) vs)) (length ys) (sums ∙ law.0 (z refl) ∙ sym same),
      λ z e. law.1 (sym sums ∙ eqb-true (total (map (λ v. how_often v ys) vs)) (length ys) (sym full ∙ z) ∙ same),
    )
closed_is false vs xs ys different h same = (λ z. refl, λ z e. absurd (true≢false (sym e)))

pub cardinality_is : (a : List ℤ) (closed : Bool) (vs : List ℤ) (os : List Occurrence) (xs ys : List ℤ) → AreDifferent vs → IsPermutation xs ys → length ys ≡ length xs
    → ((are_said a vs os ys && (not closed || is_full vs ys)) ≡ true) ↔ IsCardinality (OccursAs a) closed vs os xs
cardinality_is a closed vs os xs ys different h same =
    let said = all_said a vs os xs ys h in
    let full = closed_is closed vs xs ys different h same in (
      λ z. let r = and_parts (are_said a vs os ys) (not closed || is_full vs ys) z in (said.1 r.0, full.1 r.1),
      λ z. and_from (are_said a vs os ys) (not closed || is_full vs ys) (said.0 z.0) (full.0 z.1),
    )

pub cardinality_of_sorted : (a : List ℤ) (closed : Bool) (vs : List ℤ) (os : List Occurrence) (xs ys : List ℤ) → AreDifferent vs → IsPermutation xs ys
    → ((are_said a vs os ys && (not closed || is_full vs ys)) ≡ true) ↔ IsCardinality (OccursAs a) closed vs os xs
cardinality_of_sorted a closed vs os xs ys different h = cardinality_is a closed vs os xs ys different h (length_permutation xs ys h)

pub occurs_is : (v : ℤ) (ys : List ℤ) (n : ℕ) → n ≡ how_often v ys → nat_lt 0 n ≡ is_among ys v
occurs_is v ys n is = occurs_among v ys (nat_lt 0 n) (λ h. let lt : 0 < n = ltb-true 0 n h in omega (arith, lt, is)) (λ h. lt-ltb 0 n (omega (arith, h, is)))
