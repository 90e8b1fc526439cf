-- Members by their places.
use Rattle.std.proofs.Common.{◌≡◌, ◌↔◌, ℕ, zero, suc, ◌+◌, ◌*◌, ◌<◌, ℤ, pos, negsuc, ◌+ℤ◌, ◌-ℤ◌, ◌*ℤ◌, List, [], ◌∷◌, ◌++◌, length, get_or, ap, ap₂, sym, ◌∙◌, subst, arith, length-append, true}
use Rattle.std.specs.List.{AllByRecursion}
use Rattle.std.proofs.Math.IntN.{zero-*ℤ, suc_ℤ-*ℤ, pos-*ℤ-pos}
use Rattle.std.proofs.Math.Nat.{mul-suc}
use Rattle.std.proofs.lemmas.Int.{ints}
use Rattle.std.proofs.lemmas.List.{get_or_append_left, get_or-append-add}
use Rattle.xs_model.specs.Conditions.{Meets}
use Rattle.xs_model.specs.Counting.{HasMemberAt, HasCellAt}
use Rattle.xs_model.specs.Value.{at}
use Rattle.xs_laws.specs.Indices.{IsIndex, place_of}
use Rattle.xs_laws.specs.Meeting.{meets}
use Rattle.xs_laws.specs.Elements.{HasPlaceAt, ElementLaw, IsFromOne, FromOneLaw, SomeElementLaw, HasCellPlaceAt, CellPlaceLaw, flatten, flat_index, HasFlatCellAt, CellLaw, FlatIndexLaw, FlatIndexByLaw}
use Rattle.xs_laws.proofs.Places.{index_unique, index_place, place_of_index}
use Rattle.xs_laws.proofs.Somes.{some_map, some_from_any, any_from_some}
use Rattle.xs_laws.proofs.Meeting.{meets_is}

index_of : (start : ℤ) (n k : ℕ) (i : ℤ) → k < n → i ≡ (start +ℤ pos k) → IsIndex start n i
index_of start n k i lt e = (omega (arith, ints, lt, e), omega (arith, ints, lt, e))

pub element_at : (P : ℤ → Type 0) (start i : ℤ) (xs : List ℤ) → HasMemberAt P start i xs ↔ HasPlaceAt P start i xs
element_at P start i xs = (
  λ h. (index_of start (length xs) h.0 i h.1 h.2, subst P (ap (at xs) (sym (ap (place_of start) h.2 ∙ place_of_index start h.0))) h.3),
  λ h. let r = index_place start (length xs) i h.0.0 h.0.1 in (r.0, r.1, r.2, subst P (ap (at xs) (ap (place_of start) r.2 ∙ place_of_index start r.0)) h.1),
)

pub element_is_place : ElementLaw
element_is_place a cond start i xs = element_at (Meets a cond) start i xs

pub element_from_one : (P : ℤ → Type 0) (start i k : ℤ) (xs : List ℤ) → IsFromOne start i k → HasMemberAt P start i xs ↔ HasMemberAt P (pos 1) k xs
element_from_one P start i k xs e = (
  λ h. (h.0, h.1, to start i k h.0 e h.2, h.3),
  λ h. (h.0, h.1, from start i k h.0 e h.2, h.3),
)
  where
    to : (start i k : ℤ) (p : ℕ) → IsFromOne start i k → i ≡ (start +ℤ pos p) → k ≡ (pos 1 +ℤ pos p)
    to start i k p e f = omega (arith, ints, e, f)

    from : (start i k : ℤ) (p : ℕ) → IsFromOne start i k → k ≡ (pos 1 +ℤ pos p) → i ≡ (start +ℤ pos p)
    from start i k p e f = omega (arith, ints, e, f)

pub element_is_from_one : FromOneLaw
element_is_from_one a cond start i k xs e = element_from_one (Meets a cond) start i k xs e

pub some_element_is_found : SomeElementLaw
some_element_is_found a cond xs = (
  λ h. any_from_some (meets a cond) xs (some_map (Meets a cond) (λ x. meets a cond x ≡ true) xs (λ x. (meets_is a cond x).0) h),
  λ h. some_map (λ x. meets a cond x ≡ true) (Meets a cond) xs (λ x. (meets_is a cond x).1) (some_from_any (meets a cond) xs h),
)

pub cell_at_place : (P : ℤ → Type 0) (s t i j : ℤ) (rows : List (List ℤ)) → HasCellAt P s t i j rows ↔ HasCellPlaceAt P s t i j rows
cell_at_place P s t i j rows = (
  λ h.
      let place : place_of s i ≡ h.0 = ap (place_of s) h.2 ∙ place_of_index s h.0 in
      (index_of s (length rows) h.0 i h.1 h.2, subst (λ (k : ℕ). HasPlaceAt P t j (get_or rows k [])) (sym place) ((element_at P t j (get_or rows h.0 [])).0 h.3)),
  λ h.
      let r = index_place s (length rows) i h.0.0 h.0.1 in
      let place : place_of s i ≡ r.0 = ap (place_of s) r.2 ∙ place_of_index s r.0 in
      (r.0, r.1, r.2, (element_at P t j (get_or rows r.0 [])).1 (subst (λ (k : ℕ). HasPlaceAt P t j (get_or rows k [])) place h.1)),
)

pub cell_is_place : CellPlaceLaw
cell_is_place a cond s t i j rows = cell_at_place (Meets a cond) s t i j rows

-- the members of a matrix one after the other
cell_at : (m : ℕ) (rows : List (List ℤ)) → AllByRecursion (λ row. length row ≡ m) rows → (k l : ℕ) → k < length rows → l < m → (m * k + l < length (flatten rows)) × (at (flatten rows) (m * k + l) ≡ at (get_or rows k []) l)
cell_at m [] all k l hk hl = absurd (omega arith)
cell_at m (row ∷ rows) all zero l hk hl =
    let long = all.0 in
    let place : m * 0 + l ≡ l = omega arith in
    (omega (arith, long, place, length-append {A = ℤ}), ap (at (row ++ flatten rows)) place ∙ get_or_append_left row (flatten rows) (pos 0) l (omega (arith, long)))
cell_at m (row ∷ rows) all (suc k) l hk hl =
    let long = all.0 in
    let r = cell_at m rows all.1 k l (omega arith) hl in
    let fits = r.0 in
    let step = mul-suc m k in
    let place : m * suc k + l ≡ length row + (m * k + l) = omega (arith, long, step) in
    (omega (arith, long, step, fits, length-append {A = ℤ}), ap (at (row ++ flatten rows)) place ∙ get_or-append-add row (flatten rows) (m * k + l) (pos 0) ∙ r.1)

-- products over sums
spread : (m : ℕ) (a b : ℤ) → (pos m *ℤ (a +ℤ b)) ≡ ((pos m *ℤ a) +ℤ (pos m *ℤ b))
spread zero a b = zero-*ℤ (a +ℤ b) ∙ sym (ap₂ (λ (x y : ℤ). x +ℤ y) (zero-*ℤ a) (zero-*ℤ b))
spread (suc m) a b = suc_ℤ-*ℤ (pos m) (a +ℤ b) ∙ ap (λ (z : ℤ). z +ℤ (a +ℤ b)) (spread m a b) ∙ moved (pos m *ℤ a) (pos m *ℤ b) a b ∙ sym (ap₂ (λ (x y : ℤ). x +ℤ y) (suc_ℤ-*ℤ (pos m) a) (suc_ℤ-*ℤ (pos m) b))
  where
    moved : (x y a b : ℤ) → ((x +ℤ y) +ℤ (a +ℤ b)) ≡ ((x +ℤ a) +ℤ (y +ℤ b))
    moved x y a b = omega (arith, ints)

parts : (m : ℕ) (i s : ℤ) → (pos m *ℤ i) ≡ ((pos m *ℤ (i -ℤ s)) +ℤ (pos m *ℤ s))
parts m i s = ap (λ (z : ℤ). pos m *ℤ z) (back i s) ∙ spread m (i -ℤ s) s
  where
    back : (i s : ℤ) → i ≡ ((i -ℤ s) +ℤ s)
    back i s = omega (arith, ints)

flat_place : (s t : ℤ) (m k l : ℕ) (i j : ℤ) → i ≡ (s +ℤ pos k) → j ≡ (t +ℤ pos l) → flat_index s t m i j ≡ (pos 1 +ℤ pos (m * k + l))
flat_place s t m k l i j hi hj = added (pos m *ℤ (i -ℤ s)) (m * k) (j -ℤ t) l (ap (λ (z : ℤ). pos m *ℤ z) (less i s k hi) ∙ pos-*ℤ-pos m k) (less j t l hj)
  where
    less : (i s : ℤ) (k : ℕ) → i ≡ (s +ℤ pos k) → (i -ℤ s) ≡ pos k
    less i s k e = omega (arith, ints, e)

    added : (x : ℤ) (n : ℕ) (y : ℤ) (l : ℕ) → x ≡ pos n → y ≡ pos l → ((x +ℤ y) +ℤ pos 1) ≡ (pos 1 +ℤ pos (n + l))
    added x n y l e f = omega (arith, ints, e, f)

pub cell_is_flat_at : (P : ℤ → Type 0) (s t : ℤ) (m : ℕ) (i j : ℤ) (rows : List (List ℤ)) → AllByRecursion (λ row. length row ≡ m) rows → HasCellAt P s t i j rows ↔ HasFlatCellAt P s t m i j rows
cell_is_flat_at P s t m i j rows all = (to, from)
  where
    long : (rows : List (List ℤ)) (k : ℕ) → AllByRecursion (λ row. length row ≡ m) rows → k < length rows → length (get_or rows k []) ≡ m
    long [] k all lt = absurd (omega arith)
    long (row ∷ rows) zero all lt = all.0
    long (row ∷ rows) (suc k) all lt = long rows k all.1 (omega arith)

    to : HasCellAt P s t i j rows → HasFlatCellAt P s t m i j rows
    to h =
        let k = h.0 in
        let c = h.3 in
        let l = c.0 in
        let n = long rows k all h.1 in
        let lt : l < m = (let f = c.1 in omega (arith, n, f)) in
        let d = cell_at m rows all k l h.1 lt in
        (index_of s (length rows) k i h.1 h.2, index_of t m l j lt c.2, (m * k + l, d.0, flat_place s t m k l i j h.2 c.2, subst P (sym d.1) c.3))

    from : HasFlatCellAt P s t m i j rows → HasCellAt P s t i j rows
    from h =
        let r = index_place s (length rows) i h.0.0 h.0.1 in
        let c = index_place t m j h.1.0 h.1.1 in
        let d = cell_at m rows all r.0 c.0 r.1 c.1 in
        let n = long rows r.0 all r.1 in
        let q = h.2.0 in
        let same : q ≡ m * r.0 + c.0 = index_unique (pos 1) q (m * r.0 + c.0) (sym h.2.2 ∙ flat_place s t m r.0 c.0 i j r.2 c.2) in
        (r.0, r.1, r.2, (c.0, (let f = c.1 in omega (arith, n, f)), c.2, subst P (ap (at (flatten rows)) same ∙ d.1) h.2.3))

pub cell_is_flat : CellLaw
cell_is_flat a cond s t m i j rows all = cell_is_flat_at (Meets a cond) s t m i j rows all

pub flat_index_is_linear : FlatIndexLaw
flat_index_is_linear s t m i j k = (
  λ h. to (pos m *ℤ i) (pos m *ℤ s) (pos m *ℤ (i -ℤ s)) j t k (parts m i s) h,
  λ h. from (pos m *ℤ i) (pos m *ℤ s) (pos m *ℤ (i -ℤ s)) j t k (parts m i s) h,
)
  where
    to : (x y z j t k : ℤ) → x ≡ (z +ℤ y) → (x +ℤ ((pos 1 *ℤ j) +ℤ ((negsuc 0 *ℤ k) +ℤ pos 0))) ≡ ((y +ℤ t) -ℤ pos 1) → k ≡ ((z +ℤ (j -ℤ t)) +ℤ pos 1)
    to x y z j t k e h = omega (arith, ints, e, h)

    from : (x y z j t k : ℤ) → x ≡ (z +ℤ y) → k ≡ ((z +ℤ (j -ℤ t)) +ℤ pos 1) → (x +ℤ ((pos 1 *ℤ j) +ℤ ((negsuc 0 *ℤ k) +ℤ pos 0))) ≡ ((y +ℤ t) -ℤ pos 1)
    from x y z j t k e h = omega (arith, ints, e, h)

pub flat_index_is_three : FlatIndexByLaw
flat_index_is_three s t m i j p q k = (
  λ h.
      let a = first s i p h.0 in
      let b = first t j q h.1 in
      (a, b, to (pos m *ℤ p) (pos m *ℤ (i -ℤ s)) (pos m) q (j -ℤ t) k (past p a) b h.2),
  λ h. (last s i p h.0, last t j q h.1, from (pos m *ℤ p) (pos m *ℤ (i -ℤ s)) (pos m) q (j -ℤ t) k (past p h.0) h.1 h.2),
)
  where
    first : (s i p : ℤ) → IsFromOne s i p → p ≡ ((i -ℤ s) +ℤ pos 1)
    first s i p e = omega (arith, ints, e)

    last : (s i p : ℤ) → p ≡ ((i -ℤ s) +ℤ pos 1) → IsFromOne s i p
    last s i p e = omega (arith, ints, e)

    one : (x : ℤ) → (pos m *ℤ pos 1) ≡ pos m
    one x = pos-*ℤ-pos m 1 ∙ ap pos (let e : m * 1 ≡ m = omega arith in e)

    past : (p : ℤ) → p ≡ ((i -ℤ s) +ℤ pos 1) → (pos m *ℤ p) ≡ ((pos m *ℤ (i -ℤ s)) +ℤ pos m)
    past p e = ap (λ (z : ℤ). pos m *ℤ z) e ∙ spread m (i -ℤ s) (pos 1) ∙ ap (λ (z : ℤ). (pos m *ℤ (i -ℤ s)) +ℤ z) (one p)

    to : (x z n q d k : ℤ) → x ≡ (z +ℤ n) → q ≡ (d +ℤ pos 1) → (x +ℤ ((pos 1 *ℤ q) +ℤ ((negsuc 0 *ℤ k) +ℤ pos 0))) ≡ n → k ≡ ((z +ℤ d) +ℤ pos 1)
    to x z n q d k e f h = omega (arith, ints, e, f, h)

    from : (x z n q d k : ℤ) → x ≡ (z +ℤ n) → q ≡ (d +ℤ pos 1) → k ≡ ((z +ℤ d) +ℤ pos 1) → (x +ℤ ((pos 1 *ℤ q) +ℤ ((negsuc 0 *ℤ k) +ℤ pos 0))) ≡ n
    from x z n q d k e f h = omega (arith, ints, e, f, h)
