-- The number of cells, size after size.
use Rattle.std.proofs.Common.{◌≡◌, ℕ, zero, suc, ◌+◌, ◌*◌, ◌<◌, ◌≤◌, true, false, ◌&&◌, List, [], ◌∷◌, length, drop, get_or, drop-cons, ℤ, pos, negsuc, ◌≤ℤ◌, refl, ap, sym, subst, ◌∙◌, arith, rules}
use Rattle.std.specs.Prelude.{int_le}
use Rattle.std.specs.List.{AllByRecursion}
use Rattle.std.proofs.lemmas.Int.{ints}
use Rattle.std.proofs.Math.Nat.{mul-le-mul_left, mul_assoc}
use Rattle.xs_fields.proofs.IntegerLemmas.{and_left, and_right}
use Rattle.xs_model.specs.Names.{places_of}
use Rattle.xs_model.specs.Sound.{IsSize, cell_count}
use Rattle.xs_array.specs.Cells.{are_positive, is_same_list}

pub are_sizes : (ns : List ℤ) → are_positive ns ≡ true → AllByRecursion IsSize ns
are_sizes [] h = tt
are_sizes (n ∷ ns) h = (let one : int_le (pos 1) n ≡ true = and_left (int_le (pos 1) n) (are_positive ns) h in omega (arith, ints, one), are_sizes ns (and_right (int_le (pos 1) n) (are_positive ns) h))

cells_some : (ns : List ℤ) → AllByRecursion IsSize ns → 1 ≤ cell_count ns
cells_some [] h = omega arith
cells_some (negsuc m ∷ ns) h = absurd (omega (arith, ints, h.0))
cells_some (pos m ∷ ns) h =
    let one : 1 ≤ m = omega (arith, ints, h.0) in
    omega (arith, cells_some ns h.1, one, mul-le-mul_left m (cells_some ns h.1))

-- what is known of the next size
pub record NextSize (n : ℤ) (here rest : List ℤ) : Type 0 where
  pub one : pos 1 ≤ℤ n
  pub places : 1 ≤ places_of n
  pub more : are_positive rest ≡ true
  pub count : cell_count here ≡ places_of n * cell_count rest
  pub some : 1 ≤ cell_count rest

place_some : (n : ℤ) → pos 1 ≤ℤ n → 1 ≤ places_of n
place_some (pos m) h = omega (arith, ints, h)
place_some (negsuc m) h = absurd (omega (arith, ints, h))

next_of : (n : ℤ) (ns : List ℤ) → are_positive (n ∷ ns) ≡ true → NextSize n (n ∷ ns) ns
next_of n ns h =
    let s = are_sizes (n ∷ ns) h in
    record { one = s.0; places = place_some n s.0; more = and_right (int_le (pos 1) n) (are_positive ns) h; count = refl; some = cells_some ns s.1 }

pub next_size : (sizes : List ℤ) (i : ℕ) → i < length sizes → are_positive (drop i sizes) ≡ true → NextSize (get_or sizes i (pos 0)) (drop i sizes) (drop (i + 1) sizes)
next_size sizes i h e =
    let s : suc i ≡ i + 1 = omega arith in
    let cut = drop-cons sizes i (pos 0) h in
    subst (λ (k : ℕ). NextSize (get_or sizes i (pos 0)) (drop i sizes) (drop k sizes)) s
    (subst (λ (ns : List ℤ). NextSize (get_or sizes i (pos 0)) ns (drop (suc i) sizes)) (sym cut) (next_of (get_or sizes i (pos 0)) (drop (suc i) sizes) (ap are_positive (sym cut) ∙ e)))

pub longer : (ys zs : List ℤ) (i : ℕ) (rest : List ℤ) → i < length ys → length rest ≡ 0 → is_same_list (drop i ys) rest ≡ is_same_list ys zs → false ≡ is_same_list ys zs
longer ys zs i (n ∷ ns) h none e = absurd (omega (arith, none))
longer ys zs i [] h none e = ap (λ (ns : List ℤ). is_same_list ns []) (sym (drop-cons ys i (pos 0) h)) ∙ e

-- the number of cells is past each product before
pub too_many : (count p r here total most : ℕ) → 1 ≤ r → here ≡ p * r → count * here ≡ total → total ≤ most → count * p ≤ most
too_many count p r here total most some is all few =
    let more : (count * p) * 1 ≤ (count * p) * r = mul-le-mul_left (count * p) some in
    let same : (count * p) * r ≡ count * (p * r) = mul_assoc count p r in
    let step : count * here ≡ count * (p * r) = ap (λ x. count * x) is in
    omega (arith, more, same, step, all, few)

pub product_next : (count p r here total : ℕ) → here ≡ p * r → count * here ≡ total → (count * p) * r ≡ total
product_next count p r here total is all = mul_assoc count p r ∙ ap (λ x. count * x) (sym is) ∙ all

pub product_some : (count p : ℕ) → 1 ≤ count → 1 ≤ p → 1 ≤ count * p
product_some count p h g = omega (arith, h, mul-le-mul_left count g)

-- no size of an array makes no cell
pub no_cells : (ns : List ℤ) → are_positive ns ≡ false → cell_count ns ≡ 0
no_cells [] h = cc
no_cells (pos zero ∷ ns) h = omega arith
no_cells (pos (suc m) ∷ ns) h =
    let one : int_le (pos 1) (pos (suc m)) ≡ true = search rules in
    let rest : cell_count ns ≡ 0 = no_cells ns (ap (λ v. v && are_positive ns) (sym one) ∙ h) in
    ap (λ x. suc m * x) rest ∙ omega arith
no_cells (negsuc m ∷ ns) h = omega arith
