-- Rows and columns of a matrix.
use Rattle.std.proofs.Common.{◌≡◌, ◌≢◌, ◌↔◌, ℕ, zero, suc, ◌+◌, ◌-◌, ◌<◌, ◌≤◌, ◌⊎◌, inl, inr, ℤ, pos, Bool, true, false, ◌&&◌, List, [], ◌∷◌, length, map, get_or, refl, ap, ap₂, sym, ◌∙◌, subst, arith}
use Rattle.std.specs.List.{AllByRecursion, list_all, range_with_len}
use Rattle.std.proofs.lemmas.Bool.{cases_eq, and_parts, and_from}
use Rattle.std.proofs.lemmas.List.{length-map}
use Rattle.xs_model.specs.declared.term.Rel.{Rel}
use Rattle.xs_model.specs.Comparing.{AreDifferent, AreDifferentLines, InLexOrder, IsLexMatrix, IsLexOrdered}
use Rattle.xs_model.specs.Fitting.{HaveLength}
use Rattle.xs_model.specs.Instance.{rows_of, values}
use Rattle.xs_model.specs.Lists.{Consecutive, column, columns, width}
use Rattle.xs_model.specs.Value.{at}
use Rattle.xs_laws.proofs.Somes.{all_map, all_says, all_met}
use Rattle.xs_testing.specs.Rows.{AreBelow, HasPlace}
use Rattle.xs_compared.specs.Tests.{all_below, all_next, are_different, in_order}
use Rattle.xs_compared.proofs.TestLemmas.{all_different_is, next_among, order_is}

pub below_at : (test : ℕ → Bool) (n : ℕ) → all_below test n ≡ true → (j : ℕ) → j < n → test j ≡ true
below_at test zero h j lt = absurd (omega arith)
below_at test (suc n) h j lt =
    let r = and_parts (test n) (all_below test n) h in
    elim (cases_eq j n) [ inl e ↦ subst (λ (k : ℕ). test k ≡ true) (sym e) r.0 | inr ne ↦ below_at test n r.1 j (omega (arith, ne)) ]

pub below_of : (test : ℕ → Bool) (n : ℕ) → ((j : ℕ) → j < n → test j ≡ true) → all_below test n ≡ true
below_of test zero h = refl
below_of test (suc n) h = and_from (test n) (all_below test n) (h n (omega arith)) (below_of test n (λ j lt. h j (omega arith)))

-- members of a list that is made by numbers from k on
made_at : {X : Type 0} (P : X → Type 0) (f : ℕ → X) (k n : ℕ) → AllByRecursion P (map f (range_with_len k n)) → (j : ℕ) → j < n → P (f (k + j))
made_at P f k zero h j lt = absurd (omega arith)
made_at P f k (suc n) h zero lt = let e : k ≡ k + 0 = omega arith in subst (λ (i : ℕ). P (f i)) e h.0
made_at P f k (suc n) h (suc j) lt = let e : (k + 1) + j ≡ k + suc j = omega arith in subst (λ (i : ℕ). P (f i)) e (made_at P f (k + 1) n h.1 j (omega arith))

made_of : {X : Type 0} (P : X → Type 0) (f : ℕ → X) (k n : ℕ) → ((j : ℕ) → j < n → P (f (k + j))) → AllByRecursion P (map f (range_with_len k n))
made_of P f k zero h = tt
made_of P f k (suc n) h =
    let e : k + 0 ≡ k = omega arith in
    (subst (λ (i : ℕ). P (f i)) e (h 0 (omega arith)), made_of P f (k + 1) n (λ j lt. let d : k + suc j ≡ (k + 1) + j = omega arith in subst (λ (i : ℕ). P (f i)) d (h (suc j) (omega arith))))

next_at : {X : Type 0} (R : X → X → Type 0) (f : ℕ → X) (k n : ℕ) → Consecutive R (map f (range_with_len k n)) → (j : ℕ) → suc j < n → R (f (k + j)) (f (suc (k + j)))
next_at R f k zero h j lt = absurd (omega arith)
next_at R f k (suc zero) h j lt = absurd (omega arith)
next_at R f k (suc (suc n)) h zero lt =
    let e : k ≡ k + 0 = omega arith in
    let d : k + 1 ≡ suc (k + 0) = omega arith in
    subst (λ (i : ℕ). R (f (k + 0)) (f i)) d (subst (λ (i : ℕ). R (f i) (f (k + 1))) e h.0)
next_at R f k (suc (suc n)) h (suc j) lt =
    let e : (k + 1) + j ≡ k + suc j = omega arith in
    subst (λ (i : ℕ). R (f i) (f (suc i))) e (next_at R f (k + 1) (suc n) h.1 j (omega arith))

next_of : {X : Type 0} (R : X → X → Type 0) (f : ℕ → X) (k n : ℕ) → ((j : ℕ) → suc j < n → R (f (k + j)) (f (suc (k + j)))) → Consecutive R (map f (range_with_len k n))
next_of R f k zero h = tt
next_of R f k (suc zero) h = tt
next_of R f k (suc (suc n)) h =
    let e : k + 0 ≡ k = omega arith in
    let d : suc (k + 0) ≡ k + 1 = omega arith in (
      subst (λ (i : ℕ). R (f k) (f i)) d (subst (λ (i : ℕ). R (f i) (f (suc (k + 0)))) e (h 0 (omega arith))),
      next_of R f (k + 1) (suc n) (λ j lt. let g : k + suc j ≡ (k + 1) + j = omega arith in subst (λ (i : ℕ). R (f i) (f (suc i))) g (h (suc j) (omega arith))),
    )

-- from 0 on
first_at : {X : Type 0} (P : X → Type 0) (f : ℕ → X) (n : ℕ) → AllByRecursion P (map f (range_with_len 0 n)) → (j : ℕ) → j < n → P (f j)
first_at P f n h j lt = let e : 0 + j ≡ j = omega arith in subst (λ (i : ℕ). P (f i)) e (made_at P f 0 n h j lt)

first_of : {X : Type 0} (P : X → Type 0) (f : ℕ → X) (n : ℕ) → ((j : ℕ) → j < n → P (f j)) → AllByRecursion P (map f (range_with_len 0 n))
first_of P f n h = made_of P f 0 n (λ j lt. let e : j ≡ 0 + j = omega arith in subst (λ (i : ℕ). P (f i)) e (h j lt))

first_next : {X : Type 0} (R : X → X → Type 0) (f : ℕ → X) (n : ℕ) → Consecutive R (map f (range_with_len 0 n)) → (j : ℕ) → suc j < n → R (f j) (f (suc j))
first_next R f n h j lt = let e : 0 + j ≡ j = omega arith in subst (λ (i : ℕ). R (f i) (f (suc i))) e (next_at R f 0 n h j lt)

next_first : {X : Type 0} (R : X → X → Type 0) (f : ℕ → X) (n : ℕ) → ((j : ℕ) → suc j < n → R (f j) (f (suc j))) → Consecutive R (map f (range_with_len 0 n))
next_first R f n h = next_of R f 0 n (λ j lt. let e : j ≡ 0 + j = omega arith in subst (λ (i : ℕ). R (f i) (f (suc i))) e (h j lt))

-- a number less
pub below_next : (test : ℕ → Bool) (m n : ℕ) → m ≡ n + 1 → test n ≡ true → all_below test m ≡ all_below test n
below_next test zero n is h = absurd (omega arith)
below_next test (suc m) n is h =
    let e : n ≡ m = omega arith in
    ap (λ (b : Bool). b && all_below test m) (subst (λ (k : ℕ). test k ≡ true) e h) ∙ ap (all_below test) (sym e)

pub below_stops : (test : ℕ → Bool) (m n : ℕ) → m ≡ n + 1 → test n ≡ false → all_below test m ≡ false
below_stops test zero n is h = absurd (omega arith)
below_stops test (suc m) n is h =
    let e : n ≡ m = omega arith in
    ap (λ (b : Bool). b && all_below test m) (subst (λ (k : ℕ). test k ≡ false) e h)

-- rows of values
width_of : (a : List ℤ) (rows : List (List ℕ)) → width (rows_of a rows) ≡ width rows
width_of a [] = refl
width_of a (r ∷ rs) = length-map r (at a)

pub long_rows : (a : List ℤ) (n : ℕ) (rows : List (List ℕ)) → HaveLength n rows → AllByRecursion (λ xs. length xs ≡ n) (rows_of a rows)
long_rows a n [] h = tt
long_rows a n (r ∷ rs) h = (length-map r (at a) ∙ h.0, long_rows a n rs h.1)

pub have_place : (n j : ℕ) (rows : List (List ℕ)) → HaveLength n rows → j < n → AllByRecursion (HasPlace j) rows
have_place n j [] h lt = tt
have_place n j (r ∷ rs) h lt = (omega (arith, lt, h.0), have_place n j rs h.1 lt)

pub lines_are : (a : List ℤ) (rows : List (List ℕ))
    → AreDifferentLines (rows_of a rows) ↔ ((list_all (are_different []) (rows_of a rows) && all_below (λ j. are_different [] (column (rows_of a rows) j)) (width rows)) ≡ true)
lines_are a rows =
    let vs = rows_of a rows in
    let test : ℕ → Bool = λ j. are_different [] (column vs j) in
    let wide = width_of a rows in (
      λ h. and_from (list_all (are_different []) vs) (all_below test (width rows))
          (all_met (are_different []) vs (all_map AreDifferent (λ xs. are_different [] xs ≡ true) vs (λ xs. (all_different_is xs).0) h.0))
          (below_of test (width rows) (λ j lt. (all_different_is (column vs j)).0 (first_at AreDifferent (column vs) (width vs) h.1 j (omega (arith, lt, wide))))),
      λ h.
          let r = and_parts (list_all (are_different []) vs) (all_below test (width rows)) h in (
            all_map (λ xs. are_different [] xs ≡ true) AreDifferent vs (λ xs. (all_different_is xs).1) (all_says (are_different []) vs r.0),
            first_of AreDifferent (column vs) (width vs) (λ j lt. (all_different_is (column vs j)).1 (below_at test (width rows) r.1 j (omega (arith, lt, wide)))),
          ),
    )

pub rows_in_order : (rel : Rel) (n : ℕ) (lists : List (List ℤ)) → AllByRecursion (λ xs. length xs ≡ n) lists → IsLexOrdered rel lists ↔ (all_next (in_order rel) lists ≡ true)
rows_in_order rel n lists long = next_among (λ xs. length xs ≡ n) (InLexOrder rel) (in_order rel) (λ xs ys p q. order_is rel xs ys (p ∙ sym q)) lists long

same_long : (rows : List (List ℤ)) (i j : ℕ) → length (column rows i) ≡ length (column rows j)
same_long rows i j = length-map rows (λ r. at r i) ∙ sym (length-map rows (λ r. at r j))

pub columns_in_order : (rel : Rel) (a : List ℤ) (rows : List (List ℕ))
    → IsLexOrdered rel (columns (rows_of a rows)) ↔ (all_below (λ j. in_order rel (column (rows_of a rows) j) (column (rows_of a rows) (suc j))) (width rows - 1) ≡ true)
columns_in_order rel a rows =
    let vs = rows_of a rows in
    let test : ℕ → Bool = λ j. in_order rel (column vs j) (column vs (suc j)) in
    let wide = width_of a rows in
    let is = λ (j : ℕ). order_is rel (column vs j) (column vs (suc j)) (same_long vs j (suc j)) in (
      λ h. below_of test (width rows - 1) (λ j lt. (is j).0 (first_next (InLexOrder rel) (column vs) (width vs) h j (omega (arith, lt, wide)))),
      λ h. next_first (InLexOrder rel) (column vs) (width vs) (λ j lt. (is j).1 (below_at test (width rows - 1) h j (omega (arith, lt, wide)))),
    )

pub lines_in_order : (rel : Rel) (a : List ℤ) (n : ℕ) (rows : List (List ℕ)) → HaveLength n rows
    → IsLexMatrix rel (rows_of a rows)
    ↔ ((all_next (in_order rel) (rows_of a rows) && all_below (λ j. in_order rel (column (rows_of a rows) j) (column (rows_of a rows) (suc j))) (width rows - 1)) ≡ true)
lines_in_order rel a n rows long =
    let of_rows = rows_in_order rel n (rows_of a rows) (long_rows a n rows long) in
    let of_columns = columns_in_order rel a rows in
    let s = all_next (in_order rel) (rows_of a rows) in
    let t = all_below (λ j. in_order rel (column (rows_of a rows) j) (column (rows_of a rows) (suc j))) (width rows - 1) in (
      λ h. and_from s t (of_rows.0 h.0) (of_columns.0 h.1),
      λ h. let r = and_parts s t h in (of_rows.1 r.0, of_columns.1 r.1),
    )
