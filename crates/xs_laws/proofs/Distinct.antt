-- Distinct values are counted where they first stand.
use Rattle.std.proofs.Common.{◌≡◌, ℕ, zero, suc, ◌+◌, inl, inr, ℤ, pos, ◌+ℤ◌, Bool, true, false, not, ◌&&◌, ◌||◌, List, [], ◌∷◌, ◌++◌, length, take, map, refl, ap, ap₂, sym, ◌∙◌, arith}
use Rattle.std.proofs.lemmas.List.{append_assoc, append-nil}
use Rattle.std.specs.Prelude.{filter, if◌then◌else◌}
use Rattle.std.specs.List.{range_with_len}
use Rattle.std.specs.Ordering.{int_eq}
use Rattle.std.proofs.lemmas.Bool.{cases_Bool}
use Rattle.std.proofs.lemmas.Bool.Decides.{Decides-int_eq, same_from_decides}
use Rattle.std.proofs.lemmas.List.FromFn.{map-range_with_len_more}
use Rattle.std.proofs.lemmas.List.Recursion.{is_count_by}
use Rattle.std.proofs.lemmas.Int.{ints}
use Rattle.std.proofs.lemmas.List.Folds.{list_any-append}
use Rattle.xs_model.specs.Counting.{distinct, distinct_count}
use Rattle.xs_model.specs.Lists.{is_among}
use Rattle.xs_model.specs.Value.{at, sum_of, truth}
use Rattle.xs_laws.specs.Indices.{count_below}
use Rattle.xs_laws.specs.Firsts.{firsts, DistinctLaw, DistinctSumLaw, CountLaw, PlacesAmongLaw, OccurrencesLaw, PlacesLaw}

-- filters
filter_as : (p q : ℤ → Bool) (xs : List ℤ) → ((x : ℤ) → p x ≡ q x) → filter p xs ≡ filter q xs
filter_as p q [] h = refl
filter_as p q (x ∷ xs) h = elim (cases_Bool (q x)) [
  | inl e ↦ rw (h x ∙ e) (rw e (ap (λ (ys : List ℤ). x ∷ ys) (filter_as p q xs h)))
  | inr e ↦ rw (h x ∙ e) (rw e (filter_as p q xs h))
]

filter_both : (p q : ℤ → Bool) (xs : List ℤ) → filter p (filter q xs) ≡ filter (λ x. q x && p x) xs
filter_both p q [] = refl
filter_both p q (x ∷ xs) = elim (cases_Bool (q x)) [
  | inl e ↦ rw e (elim (cases_Bool (p x)) [
    | inl f ↦ rw f (ap (λ (ys : List ℤ). x ∷ ys) (filter_both p q xs))
    | inr f ↦ rw f (filter_both p q xs)
  ])
  | inr e ↦ rw e (filter_both p q xs)
]

-- where a test p fails at x, what passes p is not x
other_is : (p : ℤ → Bool) (x y : ℤ) → p x ≡ false → (not (int_eq x y) && p y) ≡ p y
other_is p x y h = by (int_eq x y) refl
  where
    by : (t : Bool) → int_eq x y ≡ t → (not t && p y) ≡ p y
    by true e = sym (ap p (sym ((Decides-int_eq x y).0 e)) ∙ h)
    by false e = refl

swapped : (a b : Bool) → (a && b) ≡ (b && a)
swapped true true = refl
swapped true false = refl
swapped false true = refl
swapped false false = refl

-- how many values fail f, each counted where it first stands
firsts_but : (ℤ → Bool) → List ℤ → ℕ
firsts_but f [] = 0
firsts_but f (x ∷ xs) = if f x then firsts_but f xs else suc (firsts_but (λ y. f y || int_eq x y) xs)

distinct_filter : (p : ℤ → Bool) (xs : List ℤ) → distinct (filter p xs) ≡ filter p (distinct xs)
distinct_filter p [] = refl
distinct_filter p (x ∷ xs) = elim (cases_Bool (p x)) [
  | inl e ↦ rw e (ap (λ (ys : List ℤ). x ∷ ys) (
      ap (filter (λ y. not (int_eq x y))) (distinct_filter p xs)
      ∙ filter_both (λ y. not (int_eq x y)) p (distinct xs)
      ∙ filter_as (λ y. p y && not (int_eq x y)) (λ y. not (int_eq x y) && p y) (distinct xs) (λ y. swapped (p y) (not (int_eq x y)))
      ∙ sym (filter_both p (λ y. not (int_eq x y)) (distinct xs))))
  | inr e ↦ rw e (
      distinct_filter p xs
      ∙ sym (filter_both p (λ y. not (int_eq x y)) (distinct xs) ∙ filter_as (λ y. not (int_eq x y) && p y) p (distinct xs) (λ y. other_is p x y e)))
]

counted_but : (f : ℤ → Bool) (xs : List ℤ) → length (filter (λ y. not (f y)) (distinct xs)) ≡ firsts_but f xs
unfolding firsts_but
counted_but f [] = refl
counted_but f (x ∷ xs) = elim (cases_Bool (f x)) [
  | inl e ↦ rw e (
      ap length (filter_both (λ y. not (f y)) (λ y. not (int_eq x y)) (distinct xs) ∙ filter_as (λ y. not (int_eq x y) && not (f y)) (λ y. not (f y)) (distinct xs) (λ y. other_is (λ z. not (f z)) x y (ap not e)))
      ∙ counted_but f xs)
  | inr e ↦ rw e (ap suc (
      ap length (filter_both (λ y. not (f y)) (λ y. not (int_eq x y)) (distinct xs)
      ∙ filter_as (λ y. not (int_eq x y) && not (f y)) (λ y. not (f y || int_eq x y)) (distinct xs) (λ y. neither (f y) (int_eq x y)))
      ∙ counted_but (λ y. f y || int_eq x y) xs))
]
  where
    neither : (a b : Bool) → (not b && not a) ≡ not (a || b)
    neither true true = refl
    neither true false = refl
    neither false true = refl
    neither false false = refl

distinct_but : (except xs : List ℤ) → distinct_count except xs ≡ firsts_but (is_among except) xs
distinct_but except xs = ap length (distinct_filter (λ x. not (is_among except x)) xs) ∙ counted_but (is_among except) xs

-- as a sum
pub eq_turned : (x y : ℤ) → int_eq x y ≡ int_eq y x
eq_turned x y = same_from_decides (int_eq x y) (int_eq y x) (Decides-int_eq x y) (λ h. sym ((Decides-int_eq y x).0 h), λ e. (Decides-int_eq y x).1 (sym e))

pub among_more : (vs : List ℤ) (x y : ℤ) → is_among (vs ++ x ∷ []) y ≡ (is_among vs y || int_eq x y)
among_more vs x y = list_any-append (int_eq y) vs (x ∷ []) ∙ ap (λ (b : Bool). is_among vs y || b) (last (int_eq y x) ∙ eq_turned y x)
  where
    last : (b : Bool) → (b || false) ≡ b
    last true = refl
    last false = refl

summed : (except earlier xs : List ℤ) (f : ℤ → Bool) → ((y : ℤ) → f y ≡ (is_among earlier y || is_among except y)) → sum_of (firsts except earlier xs) ≡ pos (firsts_but f xs)
unfolding firsts_but
summed except earlier [] f h = refl
summed except earlier (x ∷ xs) f h =
    let bit : (not (is_among earlier x) && not (is_among except x)) ≡ not (f x) = tested (is_among earlier x) (is_among except x) (f x) (h x) in
    elim (cases_Bool (f x)) [
      | inl e ↦
          let rest = summed except (earlier ++ x ∷ []) xs f (λ y. h y ∙ joined y (f y) (is_among earlier y) (is_among except y) (h y) (λ t. ap f (sym ((Decides-int_eq x y).0 t)) ∙ e) ∙ ap (λ (b : Bool). b || is_among except y) (sym (among_more earlier x y))) in
          rw bit (rw e (omega (arith, ints, rest)))
      | inr e ↦
          let rest = summed except (earlier ++ x ∷ []) xs (λ y. f y || int_eq x y) (λ y. ap (λ (b : Bool). b || int_eq x y) (h y) ∙ moved (is_among earlier y) (is_among except y) (int_eq x y) ∙ ap (λ (b : Bool). b || is_among except y) (sym (among_more earlier x y))) in
          rw bit (rw e (omega (arith, ints, rest)))
    ]
  where
    tested : (a b t : Bool) → t ≡ (a || b) → (not a && not b) ≡ not t
    tested true b t e = ap not (sym e)
    tested false b t e = ap not (sym e)

    joined : (y : ℤ) (t a b : Bool) → t ≡ (a || b) → (int_eq x y ≡ true → t ≡ true) → (a || b) ≡ ((a || int_eq x y) || b)
    joined y t a b e g = by a b (int_eq x y) (λ u. sym e ∙ g u)
      where
        by : (a b c : Bool) → (c ≡ true → (a || b) ≡ true) → (a || b) ≡ ((a || c) || b)
        by true b c f = refl
        by false b true f = f refl
        by false b false f = refl

    moved : (a b c : Bool) → ((a || b) || c) ≡ ((a || c) || b)
    moved true b c = refl
    moved false true true = refl
    moved false true false = refl
    moved false false true = refl
    moved false false false = refl

pub distinct_sum : DistinctSumLaw
distinct_sum except xs = ap pos (distinct_but except xs) ∙ sym (summed except [] xs (is_among except) (λ y. refl))

-- truth values
tally : (ℤ → Bool) → List ℤ → ℕ
tally test [] = 0
tally test (x ∷ xs) = if test x then 1 + tally test xs else tally test xs

tally_sum : (test : ℤ → Bool) (xs : List ℤ) → pos (tally test xs) ≡ sum_of (map (λ x. truth (test x)) xs)
unfolding tally
tally_sum test [] = refl
tally_sum test (x ∷ xs) = elim (cases_Bool (test x)) [
  | inl e ↦ let r = tally_sum test xs in rw e (omega (arith, ints, r))
  | inr e ↦ let r = tally_sum test xs in rw e (omega (arith, ints, r))
]

pub count_sum : CountLaw
unfolding tally
count_sum test xs = ap pos (sym (is_count_by (tally test) test refl (λ x xs. refl) xs)) ∙ tally_sum test xs

pub places_among_sum : PlacesAmongLaw
places_among_sum vs xs = count_sum (is_among vs) xs

same_map : (f g : ℤ → ℤ) (xs : List ℤ) → ((x : ℤ) → f x ≡ g x) → map f xs ≡ map g xs
same_map f g [] h = refl
same_map f g (x ∷ xs) h = ap₂ (λ (y : ℤ) (ys : List ℤ). y ∷ ys) (h x) (same_map f g xs h)

pub occurrences_sum : OccurrencesLaw
occurrences_sum v xs = count_sum (int_eq v) xs ∙ ap sum_of (same_map (λ x. truth (int_eq v x)) (λ x. truth (int_eq x v)) xs (λ x. ap truth (eq_turned v x)))

sum_more : (xs : List ℤ) (y : ℤ) → sum_of (xs ++ y ∷ []) ≡ (sum_of xs +ℤ y)
sum_more [] y = omega (arith, ints)
sum_more (x ∷ xs) y = let r = sum_more xs y in omega (arith, ints, r)

pub places_sum : PlacesLaw
places_sum test zero = refl
places_sum test (suc n) =
    let r = places_sum test n in
    let e : range_with_len 0 (suc n) ≡ range_with_len 0 (n + 1) = ap (range_with_len 0) (let k : suc n ≡ n + 1 = omega arith in k) in
    let more = ap (λ (js : List ℕ). sum_of (map (λ p. truth (test p)) js)) e ∙ ap sum_of (map-range_with_len_more (λ p. truth (test p)) 0 n n (omega arith)) ∙ sum_more (map (λ p. truth (test p)) (range_with_len 0 n)) (truth (test n)) in
    step (test n) ∙ ap (λ (z : ℤ). z +ℤ truth (test n)) r ∙ sym more
  where
    step : (b : Bool) → pos (if b then suc (count_below test n) else count_below test n) ≡ (pos (count_below test n) +ℤ truth b)
    step true = omega (arith, ints)
    step false = omega (arith, ints)

-- place by place
pub count_as : (f g : ℕ → Bool) (n : ℕ) → ((j : ℕ) → f j ≡ g j) → count_below f n ≡ count_below g n
count_as f g zero h = refl
count_as f g (suc n) h = ap₂ (λ (b : Bool) (k : ℕ). if b then suc k else k) (h n) (count_as f g n h)

pub count_front : (f : ℕ → Bool) (n : ℕ) → count_below f (suc n) ≡ (if f 0 then suc (count_below (λ k. f (suc k)) n) else count_below (λ k. f (suc k)) n)
count_front f zero = refl
count_front f (suc n) = ap (λ (k : ℕ). if f (suc n) then suc k else k) (count_front f n) ∙ turned (f (suc n)) (f 0) (count_below (λ k. f (suc k)) n)
  where
    turned : (a b : Bool) (k : ℕ) → (if a then suc (if b then suc k else k) else (if b then suc k else k)) ≡ (if b then suc (if a then suc k else k) else (if a then suc k else k))
    turned true true k = refl
    turned true false k = refl
    turned false true k = refl
    turned false false k = refl

abbrev follows : List ℤ → List ℤ → List ℤ → ℕ → Bool
follows except earlier xs j = not (is_among (earlier ++ take j xs) (at xs j)) && not (is_among except (at xs j))

follows_on : (except earlier : List ℤ) (x : ℤ) (xs : List ℤ) (j : ℕ) → follows except earlier (x ∷ xs) (suc j) ≡ follows except (earlier ++ x ∷ []) xs j
follows_on except earlier x xs j = ap (λ (vs : List ℤ). not (is_among vs (at xs j)) && not (is_among except (at xs j))) (sym (append_assoc earlier (x ∷ []) (take j xs)))

placed : (except earlier xs : List ℤ) → sum_of (firsts except earlier xs) ≡ pos (count_below (follows except earlier xs) (length xs))
placed except earlier [] = refl
placed except earlier (x ∷ xs) =
    let rest = placed except (earlier ++ x ∷ []) xs in
    let n = length xs in
    let alike = count_as (λ j. follows except earlier (x ∷ xs) (suc j)) (follows except (earlier ++ x ∷ []) xs) n (follows_on except earlier x xs) in
    ap₂ (λ (b : Bool) (z : ℤ). truth b +ℤ z) (ap (λ (vs : List ℤ). not (is_among vs x) && not (is_among except x)) (sym (append-nil earlier))) (rest ∙ ap pos (sym alike))
    ∙ step (follows except earlier (x ∷ xs) 0) (count_below (λ j. follows except earlier (x ∷ xs) (suc j)) n)
    ∙ ap pos (sym (count_front (follows except earlier (x ∷ xs)) n))
  where
    step : (b : Bool) (k : ℕ) → (truth b +ℤ pos k) ≡ pos (if b then suc k else k)
    step true k = omega (arith, ints)
    step false k = omega (arith, ints)

pub distinct_places : DistinctLaw
distinct_places except xs = same (distinct_sum except xs ∙ placed except [] xs)
  where
    same : {a b : ℕ} → pos a ≡ pos b → a ≡ b
    same e = omega (arith, ints)
