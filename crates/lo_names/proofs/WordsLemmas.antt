-- The words of sound declarations are direct words.
use Rattle.std.proofs.Common.{◌≡◌, ℕ, zero, suc, ◌+◌, ◌<◌, ◌≤◌, ◌^◌, ◌/◌, ◌%◌, ℤ, List, [], ◌∷◌, ◌++◌, Option, None, Some, length, map, refl, ap, sym, ◌∙◌, subst, arith, true, ◌&&◌, codes, append-nil}
use Rattle.std.specs.List.{AllByRecursion, flat_map, list_all, range_with_len}
use Rattle.std.specs.Fmt.{decimal}
use Rattle.std.specs.Str.Parse.{AllDigits}
use Rattle.std.proofs.lemmas.Bool.Decides.{nat_tests}
use Rattle.std.proofs.lemmas.Fmt.{decimal_is_IsNumeral_wide}
use Rattle.std.proofs.lemmas.Str.Parse.{digit_from_value}
use Rattle.std.proofs.Math.Nat.{div-le_self, mod-le}
use Rattle.xf_num.specs.Span.{Bounds}
use Rattle.xs_model.specs.declared.decl.Decl.{Decl}
use Rattle.xs_model.specs.declared.decl.Decl.TheVariants.{One, Array}
use Rattle.xs_model.specs.Identifier.{IsIdentifier, is_digit}
use Rattle.xs_model.specs.Names.{words, words_of, bracket, cell_word, cell_words, row_major}
use Rattle.xs_model.specs.Sound.{IsSoundDecl, cells_of, cell_count}
use Rattle.lo_names.specs.Indices.{indices_at}
use Rattle.lo_names.specs.Spelling.{IsIndex, IsDirectWord}
use Rattle.lo_names.proofs.RowMajor.{row_major_is}

digits_are : (ds : List ℕ) → AllDigits 10 ds → list_all is_digit ds ≡ true
digits_are [] d = refl
digits_are (c ∷ cs) d =
    let r = digit_from_value c d.0 in
    let here : is_digit c ≡ true = grind (arith, nat_tests, r.0, r.1) in
    ap (λ t. t && list_all is_digit cs) here ∙ digits_are cs d.1

index_is : (k : ℕ) → k < 2 ^ 64 → IsIndex (decimal k)
index_is k small = let n = (decimal_is_IsNumeral_wide k (omega (arith, small))).0 in (omega (arith, n.0), digits_are (decimal k) n.1)

abbrev AreFew : List ℕ → Type 0
AreFew is = AllByRecursion (λ i. i < 2 ^ 64) is

indices_are : (is : List ℕ) → AreFew is → AllByRecursion IsIndex (map decimal is)
indices_are [] h = tt
indices_are (i ∷ is) h = (index_is i h.0, indices_are is h.1)

bracketed_is : (is : List ℕ) → flat_map bracket is ≡ flat_map (λ ds. codes "[" ++ (ds ++ codes "]")) (map decimal is)
bracketed_is [] = refl
bracketed_is (i ∷ is) = ap (λ ws. bracket i ++ ws) (bracketed_is is)

cell_direct : (name is : List ℕ) → IsIdentifier name → AreFew is → IsDirectWord (cell_word name is)
cell_direct name is h few = record { name = name; indices = map decimal is; identifier = h; each = indices_are is few; whole = ap (λ ws. name ++ ws) (bracketed_is is) }

cells_direct : (name : List ℕ) (ts : List (List ℕ)) (cells : List (Option (List Bounds))) → IsIdentifier name → AllByRecursion AreFew ts → AllByRecursion IsDirectWord (cell_words name ts cells)
cells_direct name [] cells h few = tt
cells_direct name (t ∷ ts) [] h few = tt
cells_direct name (t ∷ ts) (None ∷ cells) h few = cells_direct name ts cells h few.1
cells_direct name (t ∷ ts) (Some d ∷ cells) h few = (cell_direct name t h few.0, cells_direct name ts cells h few.1)

-- the indices of a place are no greater than the place
indices_few : (ns : List ℤ) (k : ℕ) → k < 2 ^ 64 → AreFew (indices_at ns k)
indices_few [] k lt = tt
indices_few (n ∷ ns) k lt =
    let c : ℕ = cell_count ns in
    let quotient : k / c ≤ k = div-le_self k c in
    let left : k % c ≤ k = mod-le k c in
    (omega (arith, quotient, lt), indices_few ns (k % c) (omega (arith, left, lt)))

places_few : (ns : List ℤ) (a m : ℕ) → a + m ≤ 2 ^ 64 → AllByRecursion AreFew (map (indices_at ns) (range_with_len a m))
places_few ns a zero le = tt
places_few ns a (suc m) le = (indices_few ns a (omega (arith, le)), places_few ns (a + 1) m (omega (arith, le)))

rows_few : (ns : List ℤ) → cell_count ns < 2 ^ 64 → AllByRecursion AreFew (row_major ns)
rows_few ns lt = subst (AllByRecursion AreFew) (sym (row_major_is ns)) (places_few ns 0 (cell_count ns) (omega (arith, lt)))

one_direct : (d : Decl) → IsSoundDecl d → cells_of d < 2 ^ 64 → AllByRecursion IsDirectWord (words_of d)
one_direct (One name domain) h few = (record { name = name; indices = []; identifier = h.0; each = tt; whole = sym (append-nil name) }, tt)
one_direct (Array name sizes cells) h few = cells_direct name (row_major sizes) cells h.0 (rows_few sizes (omega (arith, h.3, few)))

all_join : {X : Type 0} (P : X → Type 0) (xs ys : List X) → AllByRecursion P xs → AllByRecursion P ys → AllByRecursion P (xs ++ ys)
all_join P [] ys h k = k
all_join P (x ∷ xs) ys h k = (h.0, all_join P xs ys h.1 k)

pub words_direct : (ds : List Decl) → AllByRecursion IsSoundDecl ds → AllByRecursion (λ d. cells_of d < 2 ^ 64) ds → AllByRecursion IsDirectWord (words ds)
words_direct [] h few = tt
words_direct (d ∷ ds) h few = all_join IsDirectWord (words_of d) (words ds) (one_direct d h.0 few.0) (words_direct ds h.1 few.1)
