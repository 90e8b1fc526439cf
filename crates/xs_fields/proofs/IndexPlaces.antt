-- The cell that one index for each size reaches.
use Rattle.std.proofs.Common.{◌≡◌, ℕ, zero, suc, ◌+◌, ◌*◌, ◌/◌, ◌%◌, ◌<◌, ◌≤◌, ◌^◌, Bool, true, ◌&&◌, List, [], ◌∷◌, ◌++◌, map, get_or, refl, ap, sym, subst, ◌∙◌, arith, ℤ, pos, negsuc, int_lt, div-le_self}
use Rattle.std.specs.List.{AllByRecursion, list_all}
use Rattle.std.proofs.lemmas.Nat.{div-add-mod', div_below, mod_below}
use Rattle.std.proofs.Math.Nat.{add-mul, mul_assoc}
use borrow.Author.Tests.{le-leb, lt-ltb}
use Rattle.xs_fields.specs.Cells.{are_inside, covered, covered_places, is_inside, place_from}
use Rattle.xs_fields.specs.Variables.{is_index}
use Rattle.xs_fields.specs.declared.variable.Bracket.{Bracket}
use Rattle.xs_fields.specs.declared.variable.Bracket.TheVariants.{At}
use Rattle.xs_model.specs.Names.{places_of, row_major}
use Rattle.xs_model.specs.Sound.{IsSize, cell_count}
use Rattle.xs_model.proofs.Places.{row_major-place, cell_count-pos}

-- a bracket for each index
abbrev pub at_each : List ℕ → List Bracket
at_each is = map (λ i. At (pos i)) is

-- indices are those of one cell
pub record IsCell (before : ℕ) (ns : List ℤ) (p : ℕ) (is : List ℕ) : Type 0 where
  pub inside : are_inside ns (at_each is) ≡ true
  pub alone : covered ns (at_each is) ≡ is ∷ []
  pub place : place_from before ns is ≡ before * cell_count ns + p
  pub few : AllByRecursion (λ i. i < 2 ^ 64) is

below-size : (i : ℕ) (n : ℤ) → i < places_of n → is_inside n (At (pos i)) ≡ true
below-size i (pos m) h = ap (λ (t : Bool). t && int_lt (pos i) (pos m)) (le-leb 0 i (omega arith)) ∙ lt-ltb i m h
below-size i (negsuc m) h = absurd (omega arith)

pub cell-of : (before : ℕ) (ns : List ℤ) (p : ℕ) → AllByRecursion IsSize ns → p < cell_count ns → p < 2 ^ 64 → IsCell before ns p (get_or (row_major ns) p [])
cell-of before [] zero a l f = record { inside = refl; alone = refl; place = omega arith; few = tt }
cell-of before [] (suc p) a l f = absurd (omega arith)
cell-of before (n ∷ ns) p a l f =
    let c = cell_count-pos ns a.1 in
    let i : ℕ = p / cell_count ns in
    let s = div-add-mod' p (cell_count ns) in
    let q : i ≤ p = div-le_self p (cell_count ns) in
    let below = cell-of (before * places_of n + i) ns (p % cell_count ns) a.1 (mod_below p (cell_count ns) c) (omega arith) in
    let is : List ℕ = get_or (row_major ns) (p % cell_count ns) [] in
    subst (IsCell before (n ∷ ns) p) (sym (row_major-place n ns p c l)) (record {
      inside = ap (λ (t : Bool). t && are_inside ns (at_each is)) (below-size i n (div_below p (cell_count ns) (places_of n) c l)) ∙ below.inside;
      alone = ap (λ ts. map (λ t. i ∷ t) ts ++ []) below.alone;
      place = below.place ∙ omega (arith, add-mul (before * places_of n) i (cell_count ns), mul_assoc before (places_of n) (cell_count ns), s);
      few = (omega arith, below.few);
    })

pub one-place : (ns : List ℤ) (p : ℕ) (is : List ℕ) → IsCell 0 ns p is → covered_places ns (at_each is) ≡ p ∷ []
one-place ns p is c = ap (λ ts. map (place_from 0 ns) ts) c.alone ∙ ap (λ q. q ∷ []) (c.place ∙ omega arith)

pub all-indices : (is : List ℕ) → list_all is_index (at_each is) ≡ true
all-indices [] = refl
all-indices (i ∷ is) = all-indices is
