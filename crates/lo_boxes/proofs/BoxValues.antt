-- What the truth values of two boxes say of their values.
use Rattle.std.proofs.Common.{◌≡◌, ◌↔◌, ℕ, ◌≤◌, ◌<◌, ℤ, pos, negsuc, ◌+ℤ◌, ◌≤ℤ◌, Bool, true, false, List, [], ◌∷◌, ◌++◌, length, map, refl, ap, ap₂, sym, subst, ◌∙◌, arith}
use Rattle.std.specs.Prelude.{int_le}
use Rattle.std.specs.List.{AllByRecursion, list_any, filter}
use Rattle.std.specs.Ordering.{int_eq}
use Rattle.std.proofs.lemmas.Int.{ints}
use Rattle.std.proofs.lemmas.List.{map-append}
use Rattle.fz_model.specs.Meaning.{at, truth, dot, is_one}
use Rattle.fz_model.proofs.Calls.{number-Int, number-Var}
use Rattle.lo_base.proofs.Solving.{at_front}
use Rattle.lo_boxes.specs.Boxes.{sides, gaps, asked, is_kept}
use Rattle.lo_boxes.specs.declared.placed.Placed.{Placed}
use Rattle.lo_boxes.specs.declared.placed.Side.{Side}
use Rattle.lo_boxes.proofs.Shared.{any_truths, map_twice, all_weaker, filter_none}
use Rattle.lo_emit.specs.Conditions.{term_of}
use Rattle.lo_emit.specs.declared.term.Term.{Term}
use Rattle.lo_emit.specs.declared.term.Term.TheVariants.{Int, Var}
use Rattle.lo_emit.specs.Loops.{Pairwise}
use Rattle.lo_rules.specs.Rule.{num}
use Rattle.lo_rules.proofs.Pairs.{pairwise_mapped, pairwise_unmapped}
use Rattle.lo_rules.proofs.Tests.{le_is, le_met, same_test}
use Rattle.xs_laws.specs.Boxes.{TermBox, term_boxes, kept_boxes, reasons, separations as value_separations, zeros as value_zeros}
use Rattle.xs_laws.specs.Neighbours.{Pairwise as IsPairwise}
use Rattle.xs_laws.proofs.Boxes.{no_overlap_is_clauses}
use Rattle.xs_model.specs.Conditions.{value_of}
use Rattle.xs_model.specs.declared.term.Term.{Term as Operand}
use Rattle.xs_model.specs.declared.term.Term.TheVariants as operand
use Rattle.xs_model.specs.Fields.{Variable, item_of}
use Rattle.xs_model.specs.Formed.{IsFormedItem}
use Rattle.xs_model.specs.Instance.{values, term_values, rows_of, term_rows}
use Rattle.xs_model.specs.Schedule.{IsNoOverlap}

-- sides

abbrev pub ones : List ℤ
ones = pos 1 ∷ pos 1 ∷ negsuc 0 ∷ []

abbrev pub terms_in : Side × Term → List Term
terms_in g = g.0.origin ∷ g.0.extent ∷ g.1 ∷ []

-- whether a side ends at the origin or before
abbrev pub ends : List ℤ → Side × Term → Bool
ends b g = int_le (dot ones (map (num b) (terms_in g))) (pos 0)

separated : (o l p : ℤ) → int_le (dot ones (o ∷ l ∷ p ∷ [])) (pos 0) ≡ int_le (o +ℤ l) p
separated o l p = same_test (int_le (dot ones (o ∷ l ∷ p ∷ [])) (pos 0)) (int_le (o +ℤ l) p)
    (λ h. le_met (o +ℤ l) p (to o l p (le_is (dot ones (o ∷ l ∷ p ∷ [])) (pos 0) h)))
    (λ h. le_met (dot ones (o ∷ l ∷ p ∷ [])) (pos 0) (from o l p (le_is (o +ℤ l) p h)))
  where
    to : (o l p : ℤ) → dot ones (o ∷ l ∷ p ∷ []) ≤ℤ pos 0 → (o +ℤ l) ≤ℤ p
    to o l p h = omega (arith, ints, h)

    from : (o l p : ℤ) → (o +ℤ l) ≤ℤ p → dot ones (o ∷ l ∷ p ∷ []) ≤ℤ pos 0
    from o l p h = omega (arith, ints, h)

num_of : (b : List ℤ) (t : Operand) → num b (term_of t) ≡ value_of b t
num_of b (operand.Int z) = number-Int b z
num_of b (operand.Var v) = number-Var b v

one_gap : (b : List ℤ) (o : ℕ) (l : Operand) (p : ℕ) → ends b (record { origin = Var o; extent = term_of l }, Var p) ≡ int_le (at b o +ℤ value_of b l) (at b p)
one_gap b o l p =
    let e = number-Var b o in
    let f = num_of b l in
    let g = number-Var b p in
    (λ i. int_le (dot ones (e i ∷ f i ∷ g i ∷ [])) (pos 0)) ∙ separated (at b o) (value_of b l) (at b p)

pub gaps_are : (b : List ℤ) (os : List ℕ) (ls : List Operand) (ps : List ℕ) (ms : List Operand)
    → map (ends b) (gaps (sides os ls) (sides ps ms)) ≡ value_separations (values b os) (term_values b ls) (values b ps) (term_values b ms)
gaps_are b [] ls ps ms = refl
gaps_are b (o ∷ os) [] ps ms = refl
gaps_are b (o ∷ os) (l ∷ ls) [] ms = refl
gaps_are b (o ∷ os) (l ∷ ls) (p ∷ ps) [] = refl
gaps_are b (o ∷ os) (l ∷ ls) (p ∷ ps) (m ∷ ms) =
    let e = one_gap b o l p in
    let f = one_gap b p m o in
    let rest = gaps_are b os ls ps ms in
    λ i. e i ∷ f i ∷ rest i

-- zeros

abbrev pub zero_is : List ℤ → ℕ → Bool
zero_is b v = int_eq (num b (Var v)) (num b (Int (pos 0)))

pub zeros_are : (b : List ℤ) (ignored : Bool) (ls : List Operand) → map (zero_is b) (asked ignored ls) ≡ value_zeros ignored b ls
zeros_are b false ls = refl
zeros_are b true [] = refl
zeros_are b true (operand.Int z ∷ ls) = zeros_are b true ls
zeros_are b true (operand.Var v ∷ ls) = let e = number-Var b v in let f = number-Int b (pos 0) in let rest = zeros_are b true ls in λ i. int_eq (e i) (f i) ∷ rest i

-- A box as it is placed, and as the constraint has it: its sides, and the numbers that tell which lengths are 0.

abbrev pub seen : List ℤ → Placed → List Side × List ℤ
seen b p = (p.sides, map (num b) p.zeros)

abbrev pub meant : Bool → List ℤ → TermBox → List Side × List ℤ
meant ignored b x = (sides x.origin x.lengths, map truth (value_zeros ignored b x.lengths))

-- the numbers that tell whether two boxes need not be apart any more
abbrev pub told : List ℤ → List Side × List ℤ → List Side × List ℤ → List ℤ
told b u v = map (λ g. truth (ends b g)) (gaps u.0 v.0) ++ (u.1 ++ v.1)

abbrev pub IsTold : List ℤ → List Side × List ℤ → List Side × List ℤ → Type 0
IsTold b u v = list_any is_one (told b u v) ≡ true

reasons_are : (ignored : Bool) (b : List ℤ) (x y : TermBox) → list_any is_one (told b (meant ignored b x) (meant ignored b y)) ≡ list_any (λ t. t) (reasons ignored b x y)
reasons_are ignored b x y =
    let gs : List (Side × Term) = gaps (sides x.origin x.lengths) (sides y.origin y.lengths) in
    let ss : List Bool = value_separations (values b x.origin) (term_values b x.lengths) (values b y.origin) (term_values b y.lengths) in
    let zs : List Bool = value_zeros ignored b x.lengths in
    let ws : List Bool = value_zeros ignored b y.lengths in
    let front : map (λ g. truth (ends b g)) gs ≡ map truth ss = map_twice truth (ends b) gs ∙ ap (map truth) (gaps_are b x.origin x.lengths y.origin y.lengths) in
    ap (list_any is_one) (ap₂ (λ (us vs : List ℤ). us ++ vs) front (sym (map-append truth zs ws)) ∙ sym (map-append truth ss (zs ++ ws))) ∙ any_truths (ss ++ (zs ++ ws))

module _ {X : Type 0} (R S : X → X → Type 0) where
  pairwise_to : ((x y : X) → R x y → S x y) → (xs : List X) → Pairwise R xs → IsPairwise S xs
  pairwise_to f [] h = tt
  pairwise_to f (x ∷ xs) h = (all_weaker (R x) (S x) xs (f x) h.0, pairwise_to f xs h.1)

  pairwise_from : ((x y : X) → S x y → R x y) → (xs : List X) → IsPairwise S xs → Pairwise R xs
  pairwise_from f [] h = tt
  pairwise_from f (x ∷ xs) h = (all_weaker (S x) (R x) xs (f x) h.0, pairwise_from f xs h.1)

-- the boxes that are not dropped
abbrev pub kept : Bool → List TermBox → List TermBox
kept ignored bs = filter (λ b. is_kept ignored b.lengths) bs

kept_are : (ignored : Bool) (bs : List TermBox) → kept ignored bs ≡ kept_boxes ignored bs
kept_are true bs = refl
kept_are false bs = filter_none bs

-- boxes that are placed as the constraint has them are apart where it holds
pub placed_mean : (ignored : Bool) (b : List ℤ) (origins : List (List ℕ)) (lengths : List (List Operand)) (all : List Placed) → map (seen b) all ≡ map (meant ignored b) (kept ignored (term_boxes origins lengths))
    → Pairwise (λ p q. IsTold b (seen b p) (seen b q)) all ↔ IsNoOverlap ignored (rows_of b origins) (term_rows b lengths)
placed_mean ignored b origins lengths all same =
    let xs : List TermBox = kept ignored (term_boxes origins lengths) in
    let C : TermBox → TermBox → Type 0 = λ x y. list_any (λ t. t) (reasons ignored b x y) ≡ true in
    let M : TermBox → TermBox → Type 0 = λ x y. IsTold b (meant ignored b x) (meant ignored b y) in
    let law = no_overlap_is_clauses ignored b origins lengths in
    let are = kept_are ignored (term_boxes origins lengths) in (
      λ h. law.1 (subst (IsPairwise C) are (pairwise_to M C (λ x y t. sym (reasons_are ignored b x y) ∙ t) xs (pairwise_unmapped (meant ignored b) (IsTold b) xs (subst (Pairwise (IsTold b)) same (pairwise_mapped (seen b) (IsTold b) all h))))),
      λ h. pairwise_unmapped (seen b) (IsTold b) all (subst (Pairwise (IsTold b)) (sym same) (pairwise_mapped (meant ignored b) (IsTold b) xs (pairwise_from M C (λ x y t. reasons_are ignored b x y ∙ t) xs (subst (IsPairwise C) (sym are) (law.0 h))))),
    )

-- more values behind change nothing

module _ (m : ℕ) (a d : List ℤ) (le : m ≤ length a) where
  values_front : (vs : List ℕ) → AllByRecursion (IsFormedItem m) (map Variable vs) → values (a ++ d) vs ≡ values a vs
  values_front [] h = refl
  values_front (v ∷ vs) h = let lt : v < m = h.0 in let e = at_front a d v (omega (arith, le, lt)) in let rest = values_front vs h.1 in λ i. e i ∷ rest i

  term_front : (t : Operand) → IsFormedItem m (item_of t) → value_of (a ++ d) t ≡ value_of a t
  term_front (operand.Int z) h = refl
  term_front (operand.Var v) h = at_front a d v (omega (arith, le, h))

  terms_front : (ts : List Operand) → AllByRecursion (IsFormedItem m) (map item_of ts) → term_values (a ++ d) ts ≡ term_values a ts
  terms_front [] h = refl
  terms_front (t ∷ ts) h = let e = term_front t h.0 in let rest = terms_front ts h.1 in λ i. e i ∷ rest i

  pub rows_front : (rows : List (List ℕ)) → AllByRecursion (λ r. AllByRecursion (IsFormedItem m) (map Variable r)) rows → rows_of (a ++ d) rows ≡ rows_of a rows
  rows_front [] h = refl
  rows_front (r ∷ rs) h = let e = values_front r h.0 in let rest = rows_front rs h.1 in λ i. e i ∷ rest i

  pub term_rows_front : (rows : List (List Operand)) → AllByRecursion (λ r. AllByRecursion (IsFormedItem m) (map item_of r)) rows → term_rows (a ++ d) rows ≡ term_rows a rows
  term_rows_front [] h = refl
  term_rows_front (r ∷ rs) h = let e = terms_front r h.0 in let rest = term_rows_front rs h.1 in λ i. e i ∷ rest i
