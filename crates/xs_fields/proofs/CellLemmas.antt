-- The cells that brackets cover, dimension after dimension.
use Rattle.std.proofs.Common.{◌≡◌, ℕ, zero, suc, ◌+◌, ◌*◌, ◌-◌, ◌<◌, ◌≤◌, ◌++◌, ◌^◌, Bool, true, false, ◌&&◌, List, [], ◌∷◌, length, map, drop, get_or, drop-cons, ℤ, pos, negsuc, ◌≤ℤ◌, refl, ap, sym, subst, ◌∙◌, arith, rules, append_assoc, append-nil}
use Rattle.std.specs.List.{AllByRecursion, flat_map, range_with_len}
use Rattle.std.proofs.lemmas.List.{drop_all, map-append}
use Rattle.std.proofs.lemmas.List.FromFn.{map-range_with_len_more}
use Rattle.std.proofs.lemmas.Int.{ints}
use Rattle.std.proofs.Math.Nat.{mul-le-mul_left, mul-le-mul_right, mul_assoc}
use Rattle.xs_model.specs.Names.{places_of}
use Rattle.xs_model.specs.Sound.{IsSize, cell_count}
use Rattle.xs_fields.specs.declared.variable.Bracket.{Bracket}
use Rattle.xs_fields.specs.declared.variable.Bracket.TheVariants.{At, Between, Every}
use Rattle.xs_fields.specs.Cells.{HaveRoom, are_inside, covered, covered_places, first_index, index_count, indices, is_inside, place_from, widened_by}
use Rattle.xs_fields.proofs.IntegerLemmas.{and_left, and_right}

-- another number of brackets
pub not_inside : (sizes : List ℤ) (bs : List Bracket) → (length sizes ≡ length bs → ⊥) → false ≡ are_inside sizes bs
not_inside [] [] h = absurd (h refl)
not_inside [] (b ∷ bs) h = refl
not_inside (n ∷ ns) [] h = refl
not_inside (n ∷ ns) (b ∷ bs) h = by (is_inside n b) (not_inside ns bs (λ e. h (omega (arith, e))))
  where
    by : (v : Bool) → false ≡ are_inside ns bs → false ≡ (v && are_inside ns bs)
    by true rest = rest
    by false rest = refl

same : (xs : List ℕ) → map (λ x. x) xs ≡ xs
same [] = refl
same (x ∷ xs) = ap (λ ys. x ∷ ys) (same xs)

pub range_more : (a n j : ℕ) → a + n ≡ j → range_with_len a (n + 1) ≡ range_with_len a n ++ j ∷ []
range_more a n j e = sym (same (range_with_len a (n + 1))) ∙ map-range_with_len_more (λ x. x) a n j e ∙ ap (λ xs. xs ++ j ∷ []) (same (range_with_len a n))

-- one place more of a run
pub run_more : (old places : List ℕ) (start place : ℕ) → start ≤ place → places ≡ old ++ range_with_len start (place - start) → places ++ place ∷ [] ≡ old ++ range_with_len start ((place + 1) - start)
run_more old places start place h so_far =
    let one : (place - start) + 1 ≡ (place + 1) - start = omega arith in
    ap (λ xs. xs ++ place ∷ []) so_far
    ∙ append_assoc old (range_with_len start (place - start)) (place ∷ [])
    ∙ ap (λ xs. old ++ xs) (sym (range_more start (place - start) place (omega arith)) ∙ ap (range_with_len start) one)

-- one item more of a list that is flat-mapped
pub flat_more : (f : ℕ → List ℕ) (xs done all : List ℕ) (i : ℕ) → i < length xs → done ++ flat_map f (drop i xs) ≡ all → (done ++ f (get_or xs i 0)) ++ flat_map f (drop (i + 1) xs) ≡ all
flat_more f xs done all i h so_far =
    let s : i + 1 ≡ suc i = omega arith in
    append_assoc done (f (get_or xs i 0)) (flat_map f (drop (i + 1) xs))
    ∙ ap (λ n. done ++ (f (get_or xs i 0) ++ flat_map f (drop n xs))) s
    ∙ ap (λ ys. done ++ flat_map f ys) (sym (drop-cons xs i 0 h))
    ∙ so_far

pub flat_all : (f : ℕ → List ℕ) (xs done all : List ℕ) (i : ℕ) → length xs ≤ i → done ++ flat_map f (drop i xs) ≡ all → done ≡ all
flat_all f xs done all i h so_far = sym (append-nil done) ∙ ap (λ ys. done ++ flat_map f ys) (sym (drop_all i xs h)) ∙ so_far

pub room_there : (count most : ℕ) (xs : List ℕ) (i : ℕ) → i < length xs → HaveRoom count most xs → (get_or xs i 0 + 1) * count < most
room_there count most [] i h room = absurd (omega arith)
room_there count most (x ∷ xs) zero h room = room.0
room_there count most (x ∷ xs) (suc i) h room = room_there count most xs i (omega arith) room.1

-- where the cells of the dimensions from here on stand, for each place so far
abbrev pub from_places : List ℕ → List ℤ → List Bracket → List ℕ
from_places places ns bs = flat_map (λ p. map (place_from p ns) (covered ns bs)) places

map_flat : {A B C : Type 0} (h : B → C) (g : A → List B) (xs : List A) → map h (flat_map g xs) ≡ flat_map (λ x. map h (g x)) xs
map_flat h g [] = refl
map_flat h g (x ∷ xs) = map-append h (g x) (flat_map g xs) ∙ ap (λ ys. map h (g x) ++ ys) (map_flat h g xs)

map_twice : {A B C : Type 0} (h : B → C) (g : A → B) (xs : List A) → map h (map g xs) ≡ map (λ x. h (g x)) xs
map_twice h g [] = refl
map_twice h g (x ∷ xs) = ap (λ ys. h (g x) ∷ ys) (map_twice h g xs)

flat_same : {A B : Type 0} (f g : A → List B) → ((x : A) → f x ≡ g x) → (xs : List A) → flat_map f xs ≡ flat_map g xs
flat_same f g e [] = refl
flat_same f g e (x ∷ xs) = ap (λ ys. ys ++ flat_map f xs) (e x) ∙ ap (λ ys. g x ++ ys) (flat_same f g e xs)

flat_append : {A B : Type 0} (f : A → List B) (xs ys : List A) → flat_map f (xs ++ ys) ≡ flat_map f xs ++ flat_map f ys
flat_append f [] ys = refl
flat_append f (x ∷ xs) ys = ap (λ zs. f x ++ zs) (flat_append f xs ys) ∙ sym (append_assoc (f x) (flat_map f xs) (flat_map f ys))

flat_twice : {A B C : Type 0} (f : B → List C) (g : A → List B) (xs : List A) → flat_map f (flat_map g xs) ≡ flat_map (λ x. flat_map f (g x)) xs
flat_twice f g [] = refl
flat_twice f g (x ∷ xs) = flat_append f (g x) (flat_map g xs) ∙ ap (λ ys. flat_map f (g x) ++ ys) (flat_twice f g xs)

-- a run of places is that of the indices behind one place
shifted : (f : ℕ → List ℕ) (base a n : ℕ) → flat_map f (range_with_len (base + a) n) ≡ flat_map (λ i. f (base + i)) (range_with_len a n)
shifted f base a zero = refl
shifted f base a (suc n) =
    let s : (base + a) + 1 ≡ base + (a + 1) = omega arith in
    ap (λ ys. f (base + a) ++ ys) (ap (λ m. flat_map f (range_with_len m n)) s ∙ shifted f base (a + 1) n)

abbrev cells_behind : List ℤ → List Bracket → ℕ → List ℕ
cells_behind ns bs p = map (place_from p ns) (covered ns bs)

step_at : (n : ℤ) (ns : List ℤ) (b : Bracket) (bs : List Bracket) (p : ℕ) → flat_map (cells_behind ns bs) (range_with_len (p * places_of n + first_index b) (index_count n b)) ≡ map (place_from p (n ∷ ns)) (flat_map (λ i. map (λ t. i ∷ t) (covered ns bs)) (indices n b))
step_at n ns b bs p =
    shifted (cells_behind ns bs) (p * places_of n) (first_index b) (index_count n b)
    ∙ sym (map_flat (place_from p (n ∷ ns)) (λ i. map (λ t. i ∷ t) (covered ns bs)) (indices n b) ∙ flat_same (λ i. map (place_from p (n ∷ ns)) (map (λ t. i ∷ t) (covered ns bs))) (λ i. cells_behind ns bs (p * places_of n + i)) (λ i. map_twice (place_from p (n ∷ ns)) (λ t. i ∷ t) (covered ns bs)) (indices n b))

-- one dimension further
pub places_step : (places : List ℕ) (n : ℤ) (ns : List ℤ) (b : Bracket) (bs : List Bracket) → from_places (widened_by n b places) ns bs ≡ from_places places (n ∷ ns) (b ∷ bs)
places_step places n ns b bs =
    flat_twice (cells_behind ns bs) (λ p. range_with_len (p * places_of n + first_index b) (index_count n b)) places
    ∙ flat_same (λ p. flat_map (cells_behind ns bs) (range_with_len (p * places_of n + first_index b) (index_count n b))) (λ p. map (place_from p (n ∷ ns)) (covered (n ∷ ns) (b ∷ bs))) (step_at n ns b bs) places

pub places_done : (places : List ℕ) (bs : List Bracket) → from_places places [] bs ≡ places
places_done [] bs = refl
places_done (p ∷ ps) bs = ap (λ ys. p ∷ ys) (places_done ps bs)

extent_within : (n : ℤ) (b : Bracket) → pos 1 ≤ℤ n → is_inside n b ≡ true → first_index b + index_count n b ≤ places_of n
extent_within n (At k) h e = search rules
extent_within n (Between s) h e = search rules
extent_within n Every h e = search rules

cells_some : (ns : List ℤ) → AllByRecursion IsSize ns → 1 ≤ cell_count ns
cells_some [] h = omega arith
cells_some (negsuc m ∷ ns) h = absurd (omega (arith, ints, h.0))
cells_some (pos m ∷ ns) h =
    let one : 1 ≤ m = omega (arith, ints, h.0) in
    omega (arith, cells_some ns h.1, one, mul-le-mul_left m (cells_some ns h.1))

one_place : (n : ℤ) → pos 1 ≤ℤ n → 1 ≤ places_of n
one_place (pos m) h = omega (arith, ints, h)
one_place (negsuc m) h = absurd (omega (arith, ints, h))

run_room : (count most base n : ℕ) → (base + n) * count < most → AllByRecursion (λ p. (p + 1) * count < most) (range_with_len base n)
run_room count most base zero h = tt
run_room count most base (suc n) h =
    let first : (base + 1) * count ≤ (base + suc n) * count = mul-le-mul_right count (omega arith) in
    (omega (arith, first, h), run_room count most (base + 1) n (subst (λ m. m * count < most) (omega arith) h))

room_append : (count most : ℕ) (xs ys : List ℕ) → HaveRoom count most xs → HaveRoom count most ys → HaveRoom count most (xs ++ ys)
room_append count most [] ys h g = g
room_append count most (x ∷ xs) ys h g = (h.0, room_append count most xs ys h.1 g)

-- the room one dimension further
room_step : (n : ℤ) (b : Bracket) (count most : ℕ) (places : List ℕ) → pos 1 ≤ℤ n → is_inside n b ≡ true → HaveRoom (places_of n * count) most places → HaveRoom count most (widened_by n b places)
room_step n b count most [] h e room = tt
room_step n b count most (p ∷ ps) h e room =
    let inside : (p * places_of n + first_index b) + index_count n b ≤ (p + 1) * places_of n = omega (arith, extent_within n b h e) in
    let most_of : ((p * places_of n + first_index b) + index_count n b) * count ≤ ((p + 1) * places_of n) * count = mul-le-mul_right count inside in
    let regroup : ((p + 1) * places_of n) * count ≡ (p + 1) * (places_of n * count) = mul_assoc (p + 1) (places_of n) count in
    room_append count most (range_with_len (p * places_of n + first_index b) (index_count n b)) (widened_by n b ps)
    (run_room count most (p * places_of n + first_index b) (index_count n b) (omega (arith, most_of, regroup, room.0)))
    (room_step n b count most ps h e room.1)

room_less : (n count most : ℕ) (places : List ℕ) → 1 ≤ count → HaveRoom (n * count) most places → HaveRoom n most places
room_less n count most [] some h = tt
room_less n count most (p ∷ ps) some h =
    let less : (p + 1) * n ≤ ((p + 1) * n) * count = omega (arith, mul-le-mul_left ((p + 1) * n) some) in
    (omega (arith, less, mul_assoc (p + 1) n count, h.0), room_less n count most ps some h.1)

-- the places so far, of the cells that brackets cover: the sizes and the brackets from here on still fit
pub record Standing (places : List ℕ) (ns : List ℤ) (bs : List Bracket) (all : List ℕ) : Type 0 where
  pub same : length ns ≡ length bs
  pub sizes : AllByRecursion IsSize ns
  pub inside : are_inside ns bs ≡ true
  pub few : cell_count ns < 2 ^ 64
  pub room : HaveRoom (cell_count ns) (2 ^ 64) places
  pub so_far : from_places places ns bs ≡ all

pub standing_first : (ns : List ℤ) (bs : List Bracket) → length ns ≡ length bs → AllByRecursion IsSize ns → are_inside ns bs ≡ true → cell_count ns < 2 ^ 64 → Standing (0 ∷ []) ns bs (covered_places ns bs)
standing_first ns bs same sizes inside few = record {
  same = same;
  sizes = sizes;
  inside = inside;
  few = few;
  room = (omega (arith, few), tt);
  so_far = append-nil (covered_places ns bs);
}

pub standing_next : (places next : List ℕ) (n : ℤ) (ns : List ℤ) (b : Bracket) (bs : List Bracket) (all : List ℕ) → next ≡ widened_by n b places → Standing places (n ∷ ns) (b ∷ bs) all → Standing next ns bs all
standing_next places next n ns b bs all is s = record {
  same = omega (arith, s.same);
  sizes = s.sizes.1;
  inside = and_right _ _ s.inside;
  few = omega (arith, s.few, mul-le-mul_right (cell_count ns) (one_place n s.sizes.0));
  room = subst (HaveRoom (cell_count ns) (2 ^ 64)) (sym is) (room_step n b (cell_count ns) (2 ^ 64) places s.sizes.0 (and_left _ _ s.inside) s.room);
  so_far = ap (λ ps. from_places ps ns bs) is ∙ places_step places n ns b bs ∙ s.so_far;
}

-- what is asked of the dimension that is next
pub record FitsNext (places : List ℕ) (n : ℤ) (b : Bracket) : Type 0 where
  pub size : pos 1 ≤ℤ n
  pub few : places_of n < 2 ^ 64
  pub inside : is_inside n b ≡ true
  pub room : HaveRoom (places_of n) (2 ^ 64) places

pub fits_next : (places : List ℕ) (n : ℤ) (ns : List ℤ) (b : Bracket) (bs : List Bracket) (all : List ℕ) → Standing places (n ∷ ns) (b ∷ bs) all → FitsNext places n b
fits_next places n ns b bs all s =
    let some = cells_some ns s.sizes.1 in
    let less : places_of n ≤ places_of n * cell_count ns = omega (arith, mul-le-mul_left (places_of n) some) in
    record {
      size = s.sizes.0;
      few = omega (arith, less, s.few);
      inside = and_left _ _ s.inside;
      room = room_less (places_of n) (cell_count ns) (2 ^ 64) places some s.room;
    }

pub standing_cons : (places : List ℕ) (ns ms : List ℤ) (bs cs : List Bracket) (all : List ℕ) → ns ≡ ms → bs ≡ cs → Standing places ns bs all → Standing places ms cs all
standing_cons places ns ms bs cs all e f s = subst (λ (xs : List ℤ). Standing places xs cs all) e (subst (λ (xs : List Bracket). Standing places ns xs all) f s)

pub standing_done : (places : List ℕ) (ns : List ℤ) (bs : List Bracket) (all : List ℕ) → ns ≡ [] → Standing places ns bs all → places ≡ all
standing_done places ns bs all e s = sym (places_done places bs) ∙ ap (λ xs. from_places places xs bs) (sym e) ∙ s.so_far

pub inside_same : (ns : List ℤ) (bs : List Bracket) → are_inside ns bs ≡ true → length ns ≡ length bs
inside_same [] [] h = refl
inside_same [] (b ∷ bs) h = cc
inside_same (n ∷ ns) [] h = cc
inside_same (n ∷ ns) (b ∷ bs) h = omega (arith, inside_same ns bs (and_right (is_inside n b) (are_inside ns bs) h))
