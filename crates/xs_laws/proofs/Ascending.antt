-- Tests on a sorted copy of a list.
use Rattle.std.proofs.Common.{◌≡◌, ◌≢◌, ◌↔◌, ℕ, zero, suc, ◌+◌, ◌-◌, ◌<◌, ◌≤◌, inl, inr, ℤ, pos, ◌≤ℤ◌, Bool, true, false, not, ◌&&◌, ◌||◌, List, [], ◌∷◌, length, take, refl, ap, ap₂, sym, ◌∙◌, subst, arith}
use Rattle.std.specs.Prelude.{min, int_lt, if◌then◌else◌}
use Rattle.std.proofs.Common.{Less, Equal, Greater}
use Rattle.std.specs.List.{AllByRecursion, sum_by}
use Rattle.std.specs.List.Sorted.{IsPermutation, IsSorted}
use Rattle.std.specs.Ordering.{is_lt, int_cmp, int_eq}
use Rattle.std.proofs.Math.Seq.{take-suc}
use Rattle.std.proofs.lemmas.Bool.{true≢false, cases_Bool, cases_eq, cases_lt, or_cases, false_from_ne_true}
use Rattle.std.proofs.lemmas.Bool.Decides.{Decides-int_eq}
use Rattle.std.proofs.lemmas.Int.{ints}
use Rattle.std.proofs.lemmas.List.Recursion.{is_sum_by}
use Rattle.std.proofs.lemmas.List.Sorted.{list_any-IsPermutation}
use Rattle.xs_model.specs.Lists.{is_among, how_often, Consecutive}
use Rattle.xs_model.specs.Value.{at}
use Rattle.xs_laws.specs.Indices.{count_below}
use Rattle.xs_laws.specs.Firsts.{is_first}
use Rattle.xs_laws.specs.Neighbours.{Pairwise}
use Rattle.xs_laws.specs.Ascending.{SortedDifferentLaw, SortedDifferentButLaw, is_new, SortedDistinctLaw, SortedRunLaw, SortedAmongLaw, ClosedLaw}
use Rattle.xs_laws.proofs.Finite.{count_yes, count_no}
use Rattle.xs_laws.proofs.Places.{consecutive_at, consecutive_of}
use Rattle.xs_laws.proofs.Somes.{all_map}
use Rattle.xs_laws.proofs.Distinct.{among_more, eq_turned, distinct_places}
use Rattle.xs_laws.proofs.Neighbours.{pairwise_of, pairs_of, differ}
use Rattle.xs_laws.proofs.Members.{passes, passes_is, passes_yes, passes_no, passes_permuted, none_pass, if_none_pass, passes_all, if_all_pass, passes_or, passes_below, all_among, distinct_permuted}

-- what sorting leaves ascends
not_less : (x y : ℤ) → is_lt (int_cmp x y) ≡ false → y ≤ℤ x
not_less x y h = by (int_lt x y) refl
  where
    by : (t : Bool) → int_lt x y ≡ t → y ≤ℤ x
    by true e = absurd (true≢false (sym (ap (λ (t : Bool). is_lt (if t then Less else (if int_lt y x then Greater else Equal))) e) ∙ h))
    by false e = grind (arith, ints)

pub ascends : (ys : List ℤ) → IsSorted int_cmp ys → Consecutive (λ x y. x ≤ℤ y) ys
ascends ys h = consecutive_of (λ x y. x ≤ℤ y) ys (pos 0) (λ i lt.
    let e : i + 1 ≡ suc i = omega arith in
    subst (λ (k : ℕ). at ys i ≤ℤ at ys k) e (not_less (at ys (i + 1)) (at ys i) (h i (pos 0) (omega arith) (omega arith))))

ascends_all : (x : ℤ) (ys : List ℤ) → Consecutive (λ x y. x ≤ℤ y) (x ∷ ys) → AllByRecursion (λ y. x ≤ℤ y) ys
ascends_all x [] h = tt
ascends_all x (y ∷ ys) h = (h.0, all_map (λ z. y ≤ℤ z) (λ z. x ≤ℤ z) ys (λ z le. let k = h.0 in omega (arith, ints, k, le)) (ascends_all y ys h.1))

pub ascends_far : (ys : List ℤ) (i j : ℕ) → Consecutive (λ x y. x ≤ℤ y) ys → i ≤ j → j < length ys → at ys i ≤ℤ at ys j
ascends_far ys i zero up le lt = let e : i ≡ 0 = omega arith in let k = ap (at ys) e in omega (arith, ints, k)
ascends_far ys i (suc j) up le lt = elim (cases_eq i (suc j)) [
  | inl e ↦ let k = ap (at ys) e in omega (arith, ints, k)
  | inr ne ↦
      let before = ascends_far ys i j up (omega (arith, ne)) (omega arith) in
      let step = consecutive_at (λ x y. x ≤ℤ y) ys j (pos 0) up lt in omega (arith, ints, before, step)
]

-- values that are not exceptions occur once
seldom : (except xs : List ℤ) → Pairwise (λ x y. x ≡ y → is_among except x ≡ true) xs → (v : ℤ) → is_among except v ≡ false → passes (int_eq v) xs ≤ 1
seldom except [] h v out = omega arith
seldom except (x ∷ xs) h v out = elim (cases_Bool (int_eq v x)) [
  | inl e ↦
      let same = (Decides-int_eq v x).0 e in
      let a = passes_yes (int_eq v) x xs e in
      let b = none_pass (int_eq v) xs (all_map (λ y. x ≡ y → is_among except x ≡ true) (λ y. int_eq v y ≡ false) xs (λ y f. (differ v y).0 (λ g. true≢false (sym (ap (is_among except) same ∙ f (sym same ∙ g)) ∙ out))) h.0) in
      omega arith
  | inr e ↦ let a = passes_no (int_eq v) x xs e in let b = seldom except xs h.1 v out in omega arith
]

if_seldom : (except xs : List ℤ) → ((v : ℤ) → is_among except v ≡ false → passes (int_eq v) xs ≤ 1) → Pairwise (λ x y. x ≡ y → is_among except x ≡ true) xs
if_seldom except [] h = tt
if_seldom except (x ∷ xs) h = (
  elim (cases_Bool (is_among except x)) [
    | inl m ↦ always xs m
    | inr out ↦
        let a = passes_yes (int_eq x) x xs ((Decides-int_eq x x).1 refl) in
        let b = h x out in
        all_map (λ y. int_eq x y ≡ false) (λ y. x ≡ y → is_among except x ≡ true) xs (λ y f e. absurd (true≢false (sym ((Decides-int_eq x y).1 e) ∙ f))) (if_none_pass (int_eq x) xs (omega arith))
  ],
  if_seldom except xs (λ v out. let b = h v out in elim (cases_Bool (int_eq v x)) [
    | inl e ↦ let a = passes_yes (int_eq v) x xs e in omega arith
    | inr e ↦ let a = passes_no (int_eq v) x xs e in omega arith
  ]),
)
  where
    always : (ys : List ℤ) → is_among except x ≡ true → AllByRecursion (λ y. x ≡ y → is_among except x ≡ true) ys
    always [] m = tt
    always (y ∷ ys) m = (λ e. m, always ys m)

pairs_permuted : (except xs ys : List ℤ) → IsPermutation xs ys → Pairwise (λ x y. x ≡ y → is_among except x ≡ true) xs ↔ Pairwise (λ x y. x ≡ y → is_among except x ≡ true) ys
pairs_permuted except xs ys h = (
  λ p. if_seldom except ys (λ v out. let a = seldom except xs p v out in let b = passes_permuted (int_eq v) xs ys h in omega arith),
  λ p. if_seldom except xs (λ v out. let a = seldom except ys p v out in let b = passes_permuted (int_eq v) xs ys h in omega arith),
)

neighbours : (R : ℤ → ℤ → Type 0) (ys : List ℤ) → Pairwise R ys → Consecutive R ys
neighbours R [] h = tt
neighbours R (x ∷ []) h = tt
neighbours R (x ∷ y ∷ ys) h = (h.0.0, neighbours R (y ∷ ys) h.1)

from_neighbours : (except ys : List ℤ) → Consecutive (λ x y. x ≤ℤ y) ys → Consecutive (λ x y. x ≡ y → is_among except x ≡ true) ys → Pairwise (λ x y. x ≡ y → is_among except x ≡ true) ys
from_neighbours except [] up h = tt
from_neighbours except (x ∷ []) up h = (tt, tt)
from_neighbours except (x ∷ y ∷ ys) up h = (
  (h.0, all_map (λ z. y ≤ℤ z) (λ z. x ≡ z → is_among except x ≡ true) ys (λ z le e. h.0 (let k = up.0 in omega (arith, ints, k, le, e))) (ascends_all y ys up.1)),
  from_neighbours except (y ∷ ys) up.1 h.1,
)

pub sorted_different_but : SortedDifferentButLaw
sorted_different_but except xs ys s =
    let R : ℤ → ℤ → Type 0 = λ x y. x ≡ y → is_among except x ≡ true in
    let turn = pairs_permuted except xs ys s.permutation in (
      λ h. neighbours R ys (turn.0 (pairwise_of R xs h)),
      λ h. pairs_of R xs (turn.1 (from_neighbours except ys (ascends ys s.sorted) h)),
    )

consecutive_as : (R S : ℤ → ℤ → Type 0) (ys : List ℤ) → ((x y : ℤ) → R x y → S x y) → Consecutive R ys → Consecutive S ys
consecutive_as R S [] f h = tt
consecutive_as R S (x ∷ []) f h = tt
consecutive_as R S (x ∷ y ∷ ys) f h = (f x y h.0, consecutive_as R S (y ∷ ys) f h.1)

pub sorted_different : SortedDifferentLaw
sorted_different xs ys s =
    let law = sorted_different_but [] xs ys s in
    let R : ℤ → ℤ → Type 0 = λ x y. x ≡ y → is_among [] x ≡ true in
    let D : ℤ → ℤ → Type 0 = λ x y. x ≢ y in (
      λ h. consecutive_as R D ys (λ x y f e. true≢false (sym (f e))) (law.0 (λ i j d lt hj e. absurd (h i j d lt hj e))),
      λ h. λ i j d lt hj e. true≢false (sym (law.1 (consecutive_as D R ys (λ x y f e. absurd (f e)) h) i j d lt hj e)),
    )

-- distinct values
among_before : (ys : List ℤ) (v : ℤ) (j : ℕ) → j ≤ length ys → is_among (take j ys) v ≡ true → (k : ℕ) × (k < j) × (at ys k ≡ v)
among_before ys v zero le m = absurd (true≢false (sym m))
among_before [] v (suc j) le m = absurd (omega arith)
among_before (y ∷ ys) v (suc j) le m = elim (or_cases (int_eq v y) (is_among (take j ys) v) m) [
  | inl here ↦ (0, omega arith, sym ((Decides-int_eq v y).0 here))
  | inr later ↦ let r = among_before ys v j (omega arith) later in (suc r.0, (let k = r.1 in omega arith), r.2)
]

new_is_first : (except ys : List ℤ) → Consecutive (λ x y. x ≤ℤ y) ys → (j : ℕ) → j < length ys → is_first except ys j ≡ is_new except ys j
new_is_first except ys up zero lt = refl
new_is_first except ys up (suc j) lt =
    let v = at ys (suc j) in
    let others : int_eq (at ys j) v ≡ false → is_among (take j ys) v ≡ false = λ f. false_from_ne_true (is_among (take j ys) v) (λ m.
    let r = among_before ys v j (omega arith) m in
    let a = ascends_far ys r.0 j up (let k = r.1 in omega arith) (omega arith) in
    let b = consecutive_at (λ x y. x ≤ℤ y) ys j (pos 0) up lt in
    let c = r.2 in
    (differ (at ys j) v).1 f (omega (arith, ints, a, b, c))) in
    ap (λ (b : Bool). not b && not (is_among except v))
    (ap (λ (zs : List ℤ). is_among zs v) (take-suc ys j (pos 0) (omega arith)) ∙ among_more (take j ys) (at ys j) v ∙ alone (is_among (take j ys) v) (int_eq (at ys j) v) others)
  where
    alone : (a b : Bool) → (b ≡ false → a ≡ false) → (a || b) ≡ b
    alone true true f = refl
    alone false b f = refl
    alone true false f = f refl

count_same : (f g : ℕ → Bool) (n : ℕ) → ((j : ℕ) → j < n → f j ≡ g j) → count_below f n ≡ count_below g n
count_same f g zero h = refl
count_same f g (suc n) h = ap₂ (λ (b : Bool) (k : ℕ). if b then suc k else k) (h n (omega arith)) (count_same f g n (λ j lt. h j (omega arith)))

pub sorted_distinct : SortedDistinctLaw
sorted_distinct except xs ys s = distinct_permuted except xs ys s.permutation ∙ distinct_places except ys ∙ count_same (is_first except ys) (is_new except ys) (length ys) (new_is_first except ys (ascends ys s.sorted))

-- runs
run_counted : (f : ℕ → Bool) (a b n : ℕ) → a ≤ b → ((k : ℕ) → k < a → f k ≡ false) → ((k : ℕ) → a ≤ k → k < b → f k ≡ true) → ((k : ℕ) → b ≤ k → k < n → f k ≡ false) → count_below f n ≡ min n b - a
run_counted f a b zero le before within behind = omega arith
run_counted f a b (suc n) le before within behind =
    let rest = run_counted f a b n le before within (λ k ge lt. behind k ge (omega arith)) in
    elim (cases_lt n a) [
      | inl lt ↦ let c = count_no f n (before n lt) in omega arith
      | inr ge ↦ elim (cases_lt n b) [
        | inl lt ↦ let c = count_yes f n (within n ge lt) in omega arith
        | inr past ↦ let c = count_no f n (behind n past (omega arith)) in omega arith
      ]
    ]

pub sorted_run : SortedRunLaw
sorted_run v xs ys a b h r =
    let f : ℕ → Bool = λ j. int_eq v (at ys j) in
    let c = run_counted f a b (length ys) r.from
    (λ k lt. (differ v (at ys k)).0 (λ e. let l = r.before k lt in omega (arith, ints, l, e)))
    (λ k ge lt. (Decides-int_eq v (at ys k)).1 (sym (r.within k ge lt)))
    (λ k ge lt. (differ v (at ys k)).0 (λ e. let l = r.behind k ge lt in omega (arith, ints, l, e))) in
    let t = r.to in
    passes_is (int_eq v) xs ∙ sym (passes_permuted (int_eq v) xs ys h) ∙ passes_below (int_eq v) ys ∙ (omega (arith, c, t))

pub sorted_among : SortedAmongLaw
sorted_among vs ws x h = list_any-IsPermutation (int_eq x) vs ws h

-- closed
abbrev summed : List ℤ → List ℤ → ℕ
summed xs [] = 0
summed xs (v ∷ vs) = how_often v xs + summed xs vs

summed_is : (vs xs : List ℤ) → Pairwise (λ x y. x ≢ y) vs → summed xs vs ≡ passes (is_among vs) xs
summed_is [] xs apart = sym (none_pass (is_among []) xs (never xs))
  where
    never : (ys : List ℤ) → AllByRecursion (λ y. is_among [] y ≡ false) ys
    never [] = tt
    never (y ∷ ys) = (refl, never ys)
summed_is (v ∷ vs) xs apart =
    let a = summed_is vs xs apart.1 in
    let b = passes_or (int_eq v) (is_among vs) (is_among (v ∷ vs)) xs (λ x. ap (λ (t : Bool). t || is_among vs x) (eq_turned x v))
    (λ x e m. all_among (λ w. v ≢ w) vs x apart.0 m ((Decides-int_eq v x).0 e)) in
    let c = passes_is (int_eq v) xs in
    omega arith

pub closed_is_sum : ClosedLaw
closed_is_sum vs xs apart =
    let s : sum_by (λ v. how_often v xs) vs ≡ passes (is_among vs) xs = sym (is_sum_by (summed xs) (λ v. how_often v xs) refl (λ v vs. refl) vs) ∙ summed_is vs xs (pairwise_of (λ x y. x ≢ y) vs apart) in (
      λ h. s ∙ passes_all (is_among vs) xs h,
      λ e. if_all_pass (is_among vs) xs (sym s ∙ e),
    )
