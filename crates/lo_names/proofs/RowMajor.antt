-- The indices at each place of an array are those in row-major order.
use Rattle.std.proofs.Common.{◌≡◌, ℕ, zero, suc, ◌+◌, ◌*◌, ◌/◌, ◌%◌, ◌<◌, ◌≤◌, ℤ, List, [], ◌∷◌, ◌++◌, length, map, get_or, drop, refl, ap, sym, ◌∙◌, arith}
use Rattle.std.specs.List.{flat_map, range_with_len}
use Rattle.std.proofs.lemmas.List.{map-append, drop_more}
use Rattle.std.proofs.lemmas.List.FromFn.{length-map-range_with_len, get_or-map-range_with_len}
use Rattle.std.proofs.lemmas.Nat.{div-mul-add, mod-mul-add}
use Rattle.xs_model.specs.Names.{places_of, row_major}
use Rattle.xs_model.specs.Sound.{cell_count}
use Rattle.lo_names.specs.Indices.{indices_at}

range_append : (a m n : ℕ) → range_with_len a (m + n) ≡ range_with_len a m ++ range_with_len (a + m) n
range_append a zero n =
    let e : zero + n ≡ n = omega arith in
    let f : a ≡ a + zero = omega arith in
    ap (range_with_len a) e ∙ ap (λ k. range_with_len k n) f
range_append a (suc m) n =
    let e : suc m + n ≡ suc (m + n) = omega arith in
    let f : a + 1 + m ≡ a + suc m = omega arith in
    ap (range_with_len a) e ∙ ap (λ zs. a ∷ zs) (range_append (a + 1) m n) ∙ ap (λ k. (a ∷ range_with_len (a + 1) m) ++ range_with_len k n) f

-- the places that share their first index
one_row : (n : ℤ) (ns : List ℤ) (a j m : ℕ) → j + m ≤ cell_count ns → map (indices_at (n ∷ ns)) (range_with_len (a * cell_count ns + j) m) ≡ map (λ t. a ∷ t) (map (indices_at ns) (range_with_len j m))
one_row n ns a j zero le = refl
one_row n ns a j (suc m) le =
    let c : ℕ = cell_count ns in
    let lt : j < c = omega arith in
    let next : a * c + j + 1 ≡ a * c + (j + 1) = omega arith in
    let quotient : (a * c + j) / c ≡ a = div-mul-add a c j lt in
    let left : (a * c + j) % c ≡ j = mod-mul-add a c j lt in
    ap (λ k. (k ∷ indices_at ns ((a * c + j) % c)) ∷ map (indices_at (n ∷ ns)) (range_with_len (a * c + j + 1) m)) quotient
    ∙ ap (λ k. (a ∷ indices_at ns k) ∷ map (indices_at (n ∷ ns)) (range_with_len (a * c + j + 1) m)) left
    ∙ ap (λ k. (a ∷ indices_at ns j) ∷ map (indices_at (n ∷ ns)) (range_with_len k m)) next
    ∙ ap (λ rows. (a ∷ indices_at ns j) ∷ rows) (one_row n ns a (j + 1) m (omega arith))

rows : (n : ℤ) (ns : List ℤ) (a m : ℕ) → row_major ns ≡ map (indices_at ns) (range_with_len 0 (cell_count ns))
    → flat_map (λ i. map (λ t. i ∷ t) (row_major ns)) (range_with_len a m) ≡ map (indices_at (n ∷ ns)) (range_with_len (a * cell_count ns) (m * cell_count ns))
rows n ns a zero ih =
    let e : 0 ≡ zero * cell_count ns = omega arith in
    ap (λ k. map (indices_at (n ∷ ns)) (range_with_len (a * cell_count ns) k)) e
rows n ns a (suc m) ih =
    let c : ℕ = cell_count ns in
    let G : ℕ → List ℕ = indices_at (n ∷ ns) in
    let start : a * c + 0 ≡ a * c = omega arith in
    let later : (a + 1) * c ≡ a * c + c = omega arith in
    let all : c + m * c ≡ suc m * c = omega arith in
    let first : map (λ t. a ∷ t) (row_major ns) ≡ map G (range_with_len (a * c) c) =
    ap (map (λ t. a ∷ t)) ih ∙ sym (one_row n ns a 0 c (omega arith)) ∙ ap (λ k. map G (range_with_len k c)) start in
    let others = rows n ns (a + 1) m ih ∙ ap (λ k. map G (range_with_len k (m * c))) later in
    ap (λ xs. xs ++ flat_map (λ i. map (λ t. i ∷ t) (row_major ns)) (range_with_len (a + 1) m)) first
    ∙ ap (λ xs. map G (range_with_len (a * c) c) ++ xs) others
    ∙ sym (map-append G (range_with_len (a * c) c) (range_with_len (a * c + c) (m * c)))
    ∙ ap (map G) (sym (range_append (a * c) c (m * c)))
    ∙ ap (λ k. map G (range_with_len (a * c) k)) all

pub row_major_is : (ns : List ℤ) → row_major ns ≡ map (indices_at ns) (range_with_len 0 (cell_count ns))
row_major_is [] = refl
row_major_is (n ∷ ns) =
    let start : 0 * cell_count ns ≡ 0 = omega arith in
    rows n ns 0 (places_of n) (row_major_is ns) ∙ ap (λ k. map (indices_at (n ∷ ns)) (range_with_len k (places_of n * cell_count ns))) start

pub length-row_major : (ns : List ℤ) → length (row_major ns) ≡ cell_count ns
length-row_major ns = ap length (row_major_is ns) ∙ length-map-range_with_len (indices_at ns) 0 (cell_count ns)

-- what is left of the rows at a place
pub row_at : (ns : List ℤ) (k : ℕ) → k < cell_count ns → drop k (row_major ns) ≡ indices_at ns k ∷ drop (k + 1) (row_major ns)
row_at ns k lt =
    let zeroed : 0 + k ≡ k = omega arith in
    let is : get_or (row_major ns) k [] ≡ indices_at ns k = ap (λ xs. get_or xs k []) (row_major_is ns) ∙ get_or-map-range_with_len (indices_at ns) 0 (cell_count ns) k k [] lt zeroed in
    drop_more (row_major ns) k [] (omega (arith, length-row_major ns)) ∙ ap (λ t. t ∷ drop (k + 1) (row_major ns)) is
