-- How great the items of fields are, and how many.
use Rattle.std.proofs.Common.{◌≡◌, ℕ, zero, suc, ◌+◌, ◌<◌, List, [], ◌∷◌, ◌++◌, length, map, take, drop, refl, sym, ◌∙◌, ap, subst, arith}
use Rattle.std.specs.Prelude.{get_or}
use Rattle.std.specs.List.{AllByRecursion, flat_map}
use Rattle.std.proofs.lemmas.List.{length-append}
use Rattle.xf_num.specs.Span.{Bounds}
use Rattle.xs_judge.specs.Weights.{measured, weight_of_items, weight_of_fields}
use Rattle.xs_model.specs.Fields.{Item, Items, Field}
use Rattle.xs_model.specs.Formed.{IsFormedItem, AreFormed, total, count_in}
use Rattle.xs_model.specs.Magnitude.{item_magnitude, field_magnitude}
use Rattle.xs_forms.proofs.FieldLemmas.{count_in-append}

pub total_map-append : {X : Type 0} (h : X → ℕ) (xs ys : List X) → total (map h (xs ++ ys)) ≡ total (map h xs) + total (map h ys)
total_map-append h [] ys = omega arith
total_map-append h (x ∷ xs) ys = omega (arith, total_map-append h xs ys)

-- the items of both
pub weight-append : (ss : List Bounds) (is js : List Item) → measured (total (map (item_magnitude ss) is) + total (map (item_magnitude ss) js)) (length is + length js) ≡ weight_of_items ss (is ++ js)
weight-append ss is js = sym (ap (λ (m : ℕ). measured m (length (is ++ js))) (total_map-append (item_magnitude ss) is js) ∙ ap (λ (n : ℕ). measured (total (map (item_magnitude ss) is) + total (map (item_magnitude ss) js)) n) (length-append is js))

pub weight_of_fields-append : (ss : List Bounds) (fs gs : List Field) → measured (total (map (field_magnitude ss) fs) + total (map (field_magnitude ss) gs)) (count_in fs + count_in gs) ≡ weight_of_fields ss (fs ++ gs)
weight_of_fields-append ss fs gs = sym (ap (λ (m : ℕ). measured m (count_in (fs ++ gs))) (total_map-append (field_magnitude ss) fs gs) ∙ ap (λ (n : ℕ). measured (total (map (field_magnitude ss) fs) + total (map (field_magnitude ss) gs)) n) (count_in-append fs gs))

append_end : {X : Type 0} (xs : List X) → xs ≡ xs ++ []
append_end [] = refl
append_end (x ∷ xs) = ap (λ ys. x ∷ ys) (append_end xs)

joined_right : {X : Type 0} (xs ys zs : List X) → (xs ++ ys) ++ zs ≡ xs ++ (ys ++ zs)
joined_right [] ys zs = refl
joined_right (x ∷ xs) ys zs = ap (λ us. x ∷ us) (joined_right xs ys zs)

-- one more
next-suc : {X Y : Type 0} (f : X → List Y) (xs : List X) (k : ℕ) (x : X) → k < length xs → x ≡ get_or xs k x → flat_map f (take (suc k) xs) ≡ flat_map f (take k xs) ++ f x
next-suc f [] k x h is = absurd (omega (arith, h))
next-suc f (y ∷ xs) zero x h is = sym (append_end (f y)) ∙ ap f (sym is)
next-suc f (y ∷ xs) (suc k) x h is = ap (λ us. f y ++ us) (next-suc f xs k x (omega (arith, h)) is) ∙ sym (joined_right (f y) (flat_map f (take k xs)) (f x))

pub flat_map-next : {X Y : Type 0} (f : X → List Y) (xs : List X) (k : ℕ) (x : X) → k < length xs → x ≡ get_or xs k x → flat_map f (take (k + 1) xs) ≡ flat_map f (take k xs) ++ f x
flat_map-next f xs k x h is = let place : k + 1 ≡ suc k = omega arith in ap (λ (n : ℕ). flat_map f (take n xs)) place ∙ next-suc f xs k x h is

rest-suc : {X Y : Type 0} (f : X → List Y) (xs : List X) (k : ℕ) (x : X) → k < length xs → x ≡ get_or xs k x → flat_map f (drop k xs) ≡ f x ++ flat_map f (drop (suc k) xs)
rest-suc f [] k x h is = absurd (omega (arith, h))
rest-suc f (y ∷ xs) zero x h is = ap (λ z. f z ++ flat_map f xs) (sym is)
rest-suc f (y ∷ xs) (suc k) x h is = rest-suc f xs k x (omega (arith, h)) is

pub flat_map-rest : {X Y : Type 0} (f : X → List Y) (xs : List X) (k : ℕ) (x : X) → k < length xs → x ≡ get_or xs k x → flat_map f (drop k xs) ≡ f x ++ flat_map f (drop (k + 1) xs)
flat_map-rest f xs k x h is = let place : suc k ≡ k + 1 = omega arith in rest-suc f xs k x h is ∙ ap (λ (n : ℕ). f x ++ flat_map f (drop n xs)) place

pub all-left : {X : Type 0} (P : X → Type 0) (xs ys : List X) → AllByRecursion P (xs ++ ys) → AllByRecursion P xs
all-left P [] ys h = tt
all-left P (x ∷ xs) ys h = (h.0, all-left P xs ys h.1)

pub all-right : {X : Type 0} (P : X → Type 0) (xs ys : List X) → AllByRecursion P (xs ++ ys) → AllByRecursion P ys
all-right P [] ys h = h
all-right P (x ∷ xs) ys h = all-right P xs ys h.1

pub all-both : {X : Type 0} (P : X → Type 0) (xs ys : List X) → AllByRecursion P xs → AllByRecursion P ys → AllByRecursion P (xs ++ ys)
all-both P [] ys h k = k
all-both P (x ∷ xs) ys h k = (h.0, all-both P xs ys h.1 k)

-- one item of each
pub flat_map-single : {X Y : Type 0} (f : X → Y) (xs : List X) → flat_map (λ x. f x ∷ []) xs ≡ map f xs
flat_map-single f [] = refl
flat_map-single f (x ∷ xs) = ap (λ ys. f x ∷ ys) (flat_map-single f xs)

-- a list is a field of its items
pub weight_of_one : (ss : List Bounds) (is js : List Item) → is ≡ js → weight_of_items ss is ≡ weight_of_fields ss (Items js ∷ [])
weight_of_one ss is js e =
    let m : total (map (item_magnitude ss) js) ≡ total (map (item_magnitude ss) js) + 0 = omega arith in
    let n : length js ≡ length js + 0 = omega arith in
    ap (weight_of_items ss) e ∙ ap (λ (k : ℕ). measured k (length js)) m ∙ ap (λ (k : ℕ). measured (total (map (item_magnitude ss) js) + 0) k) n

pub formed_one : (n : ℕ) (is js : List Item) → is ≡ js → AreFormed n (Items js ∷ []) → AllByRecursion (IsFormedItem n) is
formed_one n is js e h = subst (AllByRecursion (IsFormedItem n)) (sym e) h.0

-- rows are a field each of their items
pub formed_rows : {X : Type 0} (f : X → List Item) (g : X → Item) → ((xs : List X) → flat_map f xs ≡ map g xs) → (n : ℕ) (rows : List (List X)) → AreFormed n (map (λ row. Items (map g row)) rows) → AllByRecursion (IsFormedItem n) (flat_map (λ row. flat_map f row) rows)
formed_rows f g same n [] h = tt
formed_rows f g same n (row ∷ rows) h = all-both (IsFormedItem n) (flat_map f row) (flat_map (λ r. flat_map f r) rows) (subst (AllByRecursion (IsFormedItem n)) (sym (same row)) h.0) (formed_rows f g same n rows h.1)

total_rows : {X : Type 0} (f : X → List Item) (g : X → Item) → ((xs : List X) → flat_map f xs ≡ map g xs) → (ss : List Bounds) (rows : List (List X)) → total (map (item_magnitude ss) (flat_map (λ row. flat_map f row) rows)) ≡ total (map (field_magnitude ss) (map (λ row. Items (map g row)) rows))
total_rows f g same ss [] = refl
total_rows f g same ss (row ∷ rows) =
    total_map-append (item_magnitude ss) (flat_map f row) (flat_map (λ r. flat_map f r) rows)
    ∙ ap (λ (m : ℕ). m + total (map (item_magnitude ss) (flat_map (λ r. flat_map f r) rows))) (ap (λ (is : List Item). total (map (item_magnitude ss) is)) (same row))
    ∙ ap (λ (m : ℕ). total (map (item_magnitude ss) (map g row)) + m) (total_rows f g same ss rows)

length_rows : {X : Type 0} (f : X → List Item) (g : X → Item) → ((xs : List X) → flat_map f xs ≡ map g xs) → (rows : List (List X)) → length (flat_map (λ row. flat_map f row) rows) ≡ count_in (map (λ row. Items (map g row)) rows)
length_rows f g same [] = refl
length_rows f g same (row ∷ rows) =
    length-append (flat_map f row) (flat_map (λ r. flat_map f r) rows)
    ∙ ap (λ (m : ℕ). m + length (flat_map (λ r. flat_map f r) rows)) (ap (λ (is : List Item). length is) (same row))
    ∙ ap (λ (m : ℕ). length (map g row) + m) (length_rows f g same rows)

pub weight_of_rows : {X : Type 0} (f : X → List Item) (g : X → Item) → ((xs : List X) → flat_map f xs ≡ map g xs) → (ss : List Bounds) (rows : List (List X)) → weight_of_items ss (flat_map (λ row. flat_map f row) rows) ≡ weight_of_fields ss (map (λ row. Items (map g row)) rows)
weight_of_rows f g same ss rows = ap (λ (m : ℕ). measured m (length (flat_map (λ row. flat_map f row) rows))) (total_rows f g same ss rows) ∙ ap (λ (n : ℕ). measured (total (map (field_magnitude ss) (map (λ row. Items (map g row)) rows))) n) (length_rows f g same rows)

-- a fact of each, of one
pub all-at : {X Y : Type 0} (P : Y → Type 0) (f : X → Y) (xs : List X) (k : ℕ) (d : X) → k < length xs → AllByRecursion P (map f xs) → P (f (get_or xs k d))
all-at P f [] k d h all = absurd (omega (arith, h))
all-at P f (y ∷ xs) zero d h all = all.0
all-at P f (y ∷ xs) (suc k) d h all = all-at P f xs k d (omega (arith, h)) all.1

pub each-at : {X : Type 0} (P : X → Type 0) (xs : List X) (k : ℕ) (d : X) → k < length xs → AllByRecursion P xs → P (get_or xs k d)
each-at P [] k d h all = absurd (omega (arith, h))
each-at P (y ∷ xs) zero d h all = all.0
each-at P (y ∷ xs) (suc k) d h all = each-at P xs k d (omega (arith, h)) all.1
