-- The cells of a declaration, and the number of them.
use Rattle.std.proofs.Common.{◌≡◌, ℕ, zero, suc, ◌+◌, ◌*◌, ◌<◌, ◌≤◌, ◌^◌, Bool, true, false, is_some, nat_le, List, [], ◌∷◌, length, map, drop, get_or, drop-cons, Option, None, Some, ℤ, pos, negsuc, ◌≤ℤ◌, refl, ap, sym, subst, ◌∙◌, arith}
use Rattle.std.specs.List.{AllByRecursion}
use Rattle.std.proofs.lemmas.Int.{ints}
use Rattle.std.proofs.lemmas.List.{get_or_past}
use Rattle.std.proofs.Math.Nat.{mul-le-mul_left, mul_assoc, mul_comm}
use borrow.Author.Tests.{leb-false, leb-true}
use Rattle.xs_model.specs.Names.{places_of}
use Rattle.xs_model.specs.Outline.{IsSoundOutline, Outline, cell_numbers, defined_count, number_cells, numbers_from, sizes_at}
use Rattle.xs_model.specs.Sound.{IsSize, cell_count}
use Rattle.xs_words.specs.Compact.{is_defined}

cells_some : (ns : List ℤ) → AllByRecursion IsSize ns → 1 ≤ cell_count ns
cells_some [] h = omega arith
cells_some (negsuc m ∷ ns) h = absurd (omega (arith, ints, h.0))
cells_some (pos m ∷ ns) h =
    let one : 1 ≤ m = omega (arith, ints, h.0) in
    omega (arith, cells_some ns h.1, one, mul-le-mul_left m (cells_some ns h.1))

-- what is known of the next size
pub record NextSize (n : ℤ) (here rest : List ℤ) : Type 0 where
  pub one : pos 1 ≤ℤ n
  pub places : 1 ≤ places_of n
  pub more : AllByRecursion IsSize rest
  pub count : cell_count here ≡ places_of n * cell_count rest
  pub some : 1 ≤ cell_count rest

place_some : (n : ℤ) → pos 1 ≤ℤ n → 1 ≤ places_of n
place_some (pos m) h = omega (arith, ints, h)
place_some (negsuc m) h = absurd (omega (arith, ints, h))

pub next_size : (sizes : List ℤ) (i : ℕ) → i < length sizes → AllByRecursion IsSize (drop i sizes) → NextSize (get_or sizes i (pos 0)) (drop i sizes) (drop (i + 1) sizes)
next_size sizes i h e =
    let s : suc i ≡ i + 1 = omega arith in
    let cut = drop-cons sizes i (pos 0) h in
    let all : AllByRecursion IsSize (get_or sizes i (pos 0) ∷ drop (suc i) sizes) = subst (λ (ns : List ℤ). AllByRecursion IsSize ns) cut e in
    subst (λ (k : ℕ). NextSize (get_or sizes i (pos 0)) (drop i sizes) (drop k sizes)) s
    (subst (λ (ns : List ℤ). NextSize (get_or sizes i (pos 0)) ns (drop (suc i) sizes)) (sym cut) (record { one = all.0; places = place_some _ all.0; more = all.1; count = refl; some = cells_some _ all.1 }))

-- each product before is within the number of cells
pub within : (count p r here total : ℕ) → 1 ≤ r → here ≡ p * r → count * here ≡ total → count * p ≤ total
within count p r here total some is all =
    let more : (count * p) * 1 ≤ (count * p) * r = mul-le-mul_left (count * p) some in
    let same : (count * p) * r ≡ count * (p * r) = mul_assoc count p r in
    let step : count * here ≡ count * (p * r) = ap (λ x. count * x) is in
    omega (arith, more, same, step, all)

pub product_next : (count p r here total : ℕ) → here ≡ p * r → count * here ≡ total → (count * p) * r ≡ total
product_next count p r here total is all = mul_assoc count p r ∙ ap (λ x. count * x) (sym is) ∙ all

pub product_some : (count p : ℕ) → 1 ≤ count → 1 ≤ p → 1 ≤ count * p
product_some count p c h =
    let more : count * 1 ≤ count * p = mul-le-mul_left count h in
    omega (arith, more, c)

-- a declaration has a cell for each place
numbers_len : (n : ℕ) (cells : List Bool) → length (number_cells n cells) ≡ length cells
numbers_len n [] = refl
numbers_len n (true ∷ cells) = omega (arith, numbers_len (n + 1) cells)
numbers_len n (false ∷ cells) = omega (arith, numbers_len n cells)

cells_from : (n : ℕ) (os : List Outline) (at : ℕ) → at < length os → AllByRecursion IsSoundOutline os → length (get_or (numbers_from n os) at []) ≡ cell_count (get_or (map (λ o. o.sizes) os) at [])
cells_from n [] at h sound = absurd (omega arith)
cells_from n (o ∷ os) zero h sound = numbers_len n o.cells ∙ sound.0.cells
cells_from n (o ∷ os) (suc at) h sound = cells_from (n + defined_count o.cells) os at (omega arith) sound.1

pub defined_within : (os : List Outline) (at place : ℕ) → at < length os → AllByRecursion IsSoundOutline os → is_defined os at place ≡ true → place < cell_count (sizes_at os at)
defined_within os at place h sound is = by (nat_le_of place) refl
  where
    nat_le_of : ℕ → Bool
    nat_le_of p = nat_le (length (cell_numbers os at)) p

    by : (v : Bool) → nat_le_of place ≡ v → place < cell_count (sizes_at os at)
    by false e = omega (arith, leb-false _ _ e, cells_from 0 os at h sound)
    by true e =
        let none : get_or (cell_numbers os at) place None ≡ None = get_or_past (cell_numbers os at) place None (leb-true _ _ e) in
        let no : true ≡ false = sym is ∙ ap is_some none in
        absurd (cc no)

pub size_within : (count p total : ℕ) → 1 ≤ count → count * p ≤ total → p ≤ total
size_within count p total some few =
    let more : p * 1 ≤ p * count = mul-le-mul_left p some in
    let same : p * count ≡ count * p = mul_comm p count in
    omega (arith, more, same, few)
