-- Boxes that do not overlap.
use Rattle.std.proofs.Common.{◌≡◌, ◌↔◌, ℕ, inl, inr, ℤ, pos, negsuc, ◌+ℤ◌, ◌≤ℤ◌, Bool, true, false, not, ◌||◌, List, [], ◌∷◌, ◌++◌, map, refl, ap, ap₂, sym, ◌∙◌, subst, arith}
use Rattle.std.specs.Prelude.{filter, int_le}
use Rattle.std.specs.List.{AllByRecursion, list_any}
use Rattle.std.specs.Ordering.{int_eq}
use Rattle.std.proofs.lemmas.Bool.{true≢false, cases_Bool, or_cases, or_left, or_right, or_from, not-true, not_from_false, or_parts}
use Rattle.std.proofs.lemmas.Int.{ints}
use Rattle.std.proofs.lemmas.List.Folds.{list_any-append}
use Rattle.xs_model.specs.declared.term.Term.{Term}
use Rattle.xs_model.specs.declared.term.Term.TheVariants.{Int, Var}
use Rattle.xs_model.specs.Counting.{weighted_sum}
use Rattle.xs_model.specs.Instance.{values, term_values, rows_of, term_rows}
use Rattle.xs_model.specs.Lists.{is_among}
use Rattle.xs_model.specs.Schedule.{Box, boxes, AreApartFrom, AreApart}
use Rattle.xs_model.specs.Value.{at}
use Rattle.xs_laws.specs.Neighbours.{Pairwise}
use Rattle.xs_laws.specs.Boxes.{separations, SeparationLaw, TermBox, term_boxes, has_zero, zeros, reasons, NoOverlapLaw}
use Rattle.xs_laws.proofs.Cumulative.{le_says, le_met}
use Rattle.xs_laws.proofs.Distinct.{eq_turned}
use Rattle.xs_laws.proofs.Channels.{both_same}
use Rattle.xs_laws.proofs.Neighbours.{pairwise_of, pairs_of, pairwise_map}

-- pairs in a filtered list, and in a mapped one
module _ {X : Type 0} (p : X → Bool) where
  kept_all : (P : X → Type 0) (xs : List X) → AllByRecursion P (filter p xs) → AllByRecursion (λ x. p x ≡ true → P x) xs
  kept_all P [] h = tt
  kept_all P (x ∷ xs) h = elim (cases_Bool (p x)) [
    | inl e ↦ let g = rw e at h in ((λ k. g.0), kept_all P xs g.1)
    | inr e ↦ let g = rw e at h in ((λ k. absurd (true≢false (sym k ∙ e))), kept_all P xs g)
  ]

  all_kept : (P : X → Type 0) (xs : List X) → AllByRecursion (λ x. p x ≡ true → P x) xs → AllByRecursion P (filter p xs)
  all_kept P [] h = tt
  all_kept P (x ∷ xs) h = elim (cases_Bool (p x)) [
    | inl e ↦ rw e (h.0 e, all_kept P xs h.1)
    | inr e ↦ rw e (all_kept P xs h.1)
  ]

  weaker : (P Q : X → Type 0) (xs : List X) → ((x : X) → P x → Q x) → AllByRecursion P xs → AllByRecursion Q xs
  weaker P Q [] f h = tt
  weaker P Q (x ∷ xs) f h = (f x h.0, weaker P Q xs f h.1)

  any_true : (P : X → Type 0) (xs : List X) → ((x : X) → P x) → AllByRecursion P xs
  any_true P [] f = tt
  any_true P (x ∷ xs) f = (f x, any_true P xs f)

  kept_pairs : (R : X → X → Type 0) (xs : List X) → Pairwise R (filter p xs) → Pairwise (λ x y. p x ≡ true → p y ≡ true → R x y) xs
  kept_pairs R [] h = tt
  kept_pairs R (x ∷ xs) h = elim (cases_Bool (p x)) [
    | inl e ↦ let g = rw e at h in (weaker (λ y. p y ≡ true → R x y) (λ y. p x ≡ true → p y ≡ true → R x y) xs (λ y f k. f) (kept_all (R x) xs g.0), kept_pairs R xs g.1)
    | inr e ↦ let g = rw e at h in (any_true (λ y. p x ≡ true → p y ≡ true → R x y) xs (λ y k. absurd (true≢false (sym k ∙ e))), kept_pairs R xs g)
  ]

  pairs_kept : (R : X → X → Type 0) (xs : List X) → Pairwise (λ x y. p x ≡ true → p y ≡ true → R x y) xs → Pairwise R (filter p xs)
  pairs_kept R [] h = tt
  pairs_kept R (x ∷ xs) h = elim (cases_Bool (p x)) [
    | inl e ↦ rw e (all_kept (R x) xs (weaker (λ y. p x ≡ true → p y ≡ true → R x y) (λ y. p y ≡ true → R x y) xs (λ y f. f e) h.0), pairs_kept R xs h.1)
    | inr e ↦ rw e (pairs_kept R xs h.1)
  ]

mapped_all : {X Y : Type 0} (f : X → Y) (P : Y → Type 0) (xs : List X) → AllByRecursion P (map f xs) ↔ AllByRecursion (λ x. P (f x)) xs
mapped_all f P [] = (λ h. tt, λ h. tt)
mapped_all f P (x ∷ xs) = let r = mapped_all f P xs in (λ h. (h.0, r.0 h.1), λ h. (h.0, r.1 h.1))

mapped_pairs : {X Y : Type 0} (f : X → Y) (R : Y → Y → Type 0) (xs : List X) → Pairwise R (map f xs) ↔ Pairwise (λ x y. R (f x) (f y)) xs
mapped_pairs f R [] = (λ h. tt, λ h. tt)
mapped_pairs f R (x ∷ xs) =
    let s = mapped_all f (R (f x)) xs in
    let r = mapped_pairs f R xs in
    (λ h. (s.0 h.0, r.0 h.1), λ h. (s.1 h.0, r.1 h.1))

-- two boxes are apart where a test finds a dimension
apart_found : (os ls ps ms : List ℤ) → AreApartFrom os ls ps ms → list_any (λ t. t) (separations os ls ps ms) ≡ true
apart_found (o ∷ os) (l ∷ ls) (p ∷ ps) (m ∷ ms) (inl (inl h)) = ap (λ (b : Bool). b || (int_le (p +ℤ m) o || list_any (λ t. t) (separations os ls ps ms))) (le_met (o +ℤ l) p h)
apart_found (o ∷ os) (l ∷ ls) (p ∷ ps) (m ∷ ms) (inl (inr h)) =
    or_right (int_le (o +ℤ l) p) (int_le (p +ℤ m) o || list_any (λ t. t) (separations os ls ps ms)) (or_left (int_le (p +ℤ m) o) (list_any (λ t. t) (separations os ls ps ms)) (le_met (p +ℤ m) o h))
apart_found (o ∷ os) (l ∷ ls) (p ∷ ps) (m ∷ ms) (inr h) =
    or_right (int_le (o +ℤ l) p) (int_le (p +ℤ m) o || list_any (λ t. t) (separations os ls ps ms)) (or_right (int_le (p +ℤ m) o) (list_any (λ t. t) (separations os ls ps ms)) (apart_found os ls ps ms h))
apart_found os ls ps ms h = absurd h

found_apart : (os ls ps ms : List ℤ) → list_any (λ t. t) (separations os ls ps ms) ≡ true → AreApartFrom os ls ps ms
found_apart (o ∷ os) (l ∷ ls) (p ∷ ps) (m ∷ ms) h = elim (or_cases (int_le (o +ℤ l) p) (int_le (p +ℤ m) o || list_any (λ t. t) (separations os ls ps ms)) h) [
  | inl a ↦ inl (inl (le_says (o +ℤ l) p a))
  | inr g ↦ elim (or_cases (int_le (p +ℤ m) o) (list_any (λ t. t) (separations os ls ps ms)) g) [
    | inl b ↦ inl (inr (le_says (p +ℤ m) o b))
    | inr rest ↦ inr (found_apart os ls ps ms rest)
  ]
]
found_apart os ls ps ms h = absurd (true≢false (sym h))

-- the zeros of a box
zero_is : (a : List ℤ) (ts : List Term) → is_among (term_values a ts) (pos 0) ≡ (has_zero ts || list_any (λ t. t) (zeros true a ts))
zero_is a [] = refl
zero_is a (Int z ∷ ts) = ap₂ (λ (b c : Bool). b || c) (eq_turned (pos 0) z) (zero_is a ts) ∙ joined (int_eq z (pos 0)) (has_zero ts) (list_any (λ t. t) (zeros true a ts))
  where
    joined : (a b c : Bool) → (a || (b || c)) ≡ ((a || b) || c)
    joined true b c = refl
    joined false b c = refl
zero_is a (Var v ∷ ts) = ap₂ (λ (b c : Bool). b || c) (eq_turned (pos 0) (at a v)) (zero_is a ts) ∙ moved (int_eq (at a v) (pos 0)) (has_zero ts) (list_any (λ t. t) (zeros true a ts))
  where
    moved : (a b c : Bool) → (a || (b || c)) ≡ (b || (a || c))
    moved true true c = refl
    moved true false c = refl
    moved false true c = refl
    moved false false c = refl

abbrev box_of : List ℤ → TermBox → Box
box_of a b = record { origin = values a b.origin; lengths = term_values a b.lengths }

boxes_are : (a : List ℤ) (origins : List (List ℕ)) (lengths : List (List Term)) → boxes (rows_of a origins) (term_rows a lengths) ≡ map (box_of a) (term_boxes origins lengths)
boxes_are a [] lengths = refl
boxes_are a (o ∷ origins) [] = refl
boxes_are a (o ∷ origins) (l ∷ lengths) = ap (λ (bs : List Box). record { origin = values a o; lengths = term_values a l } ∷ bs) (boxes_are a origins lengths)

-- what is found in the reasons
reasons_are : (z : Bool) (a : List ℤ) (b c : TermBox) → list_any (λ t. t) (reasons z a b c)
    ≡ (list_any (λ t. t) (separations (values a b.origin) (term_values a b.lengths) (values a c.origin) (term_values a c.lengths)) || (list_any (λ t. t) (zeros z a b.lengths) || list_any (λ t. t) (zeros z a c.lengths)))
reasons_are z a b c =
    let ss = separations (values a b.origin) (term_values a b.lengths) (values a c.origin) (term_values a c.lengths) in
    list_any-append (λ t. t) ss (zeros z a b.lengths ++ zeros z a c.lengths) ∙ ap (λ (x : Bool). list_any (λ t. t) ss || x) (list_any-append (λ t. t) (zeros z a b.lengths) (zeros z a c.lengths))

module _ (a : List ℤ) (b c : TermBox) where
  abbrev separated : Bool
  separated = list_any (λ t. t) (separations (values a b.origin) (term_values a b.lengths) (values a c.origin) (term_values a c.lengths))

  separated_from : AreApart (box_of a b) (box_of a c) → separated ≡ true
  separated_from h = apart_found (values a b.origin) (term_values a b.lengths) (values a c.origin) (term_values a c.lengths) h

  separated_is : separated ≡ true → AreApart (box_of a b) (box_of a c)
  separated_is h = found_apart (values a b.origin) (term_values a b.lengths) (values a c.origin) (term_values a c.lengths) h

  -- where zeros count
  plain_forth : AreApart (box_of a b) (box_of a c) → list_any (λ t. t) (reasons false a b c) ≡ true
  plain_forth h = reasons_are false a b c ∙ or_left separated false (separated_from h)

  plain_back : list_any (λ t. t) (reasons false a b c) ≡ true → AreApart (box_of a b) (box_of a c)
  plain_back h = elim (or_cases separated false (sym (reasons_are false a b c) ∙ h)) [ inl s ↦ separated_is s | inr f ↦ absurd (true≢false (sym f)) ]

  abbrev zero_in : TermBox → Bool
  zero_in d = list_any (λ t. t) (zeros true a d.lengths)

  -- where they are ignored
  forth : (not (is_among (term_values a b.lengths) (pos 0)) ≡ true → not (is_among (term_values a c.lengths) (pos 0)) ≡ true → AreApart (box_of a b) (box_of a c))
      → not (has_zero b.lengths) ≡ true → not (has_zero c.lengths) ≡ true → list_any (λ t. t) (reasons true a b c) ≡ true
  forth f hb hc = reasons_are true a b c ∙ by (zero_in b) refl (zero_in c) refl
    where
      by : (x : Bool) → zero_in b ≡ x → (y : Bool) → zero_in c ≡ y → (separated || (x || y)) ≡ true
      by true eb y ec = or_right separated true refl
      by false eb true ec = or_right separated true refl
      by false eb false ec = or_left separated false (separated_from (f
          (not_from_false (is_among (term_values a b.lengths) (pos 0)) (zero_is a b.lengths ∙ or_from (has_zero b.lengths) (zero_in b) (not-true (has_zero b.lengths) hb) eb))
          (not_from_false (is_among (term_values a c.lengths) (pos 0)) (zero_is a c.lengths ∙ or_from (has_zero c.lengths) (zero_in c) (not-true (has_zero c.lengths) hc) ec))))

  back : (not (has_zero b.lengths) ≡ true → not (has_zero c.lengths) ≡ true → list_any (λ t. t) (reasons true a b c) ≡ true)
      → not (is_among (term_values a b.lengths) (pos 0)) ≡ true → not (is_among (term_values a c.lengths) (pos 0)) ≡ true → AreApart (box_of a b) (box_of a c)
  back f hb hc =
      let pb = or_parts (has_zero b.lengths) (zero_in b) (sym (zero_is a b.lengths) ∙ not-true (is_among (term_values a b.lengths) (pos 0)) hb) in
      let pc = or_parts (has_zero c.lengths) (zero_in c) (sym (zero_is a c.lengths) ∙ not-true (is_among (term_values a c.lengths) (pos 0)) hc) in
      elim (or_cases separated (zero_in b || zero_in c) (sym (reasons_are true a b c) ∙ f (not_from_false (has_zero b.lengths) pb.0) (not_from_false (has_zero c.lengths) pc.0))) [
        | inl s ↦ separated_is s
        | inr z ↦ absurd (true≢false (sym z ∙ or_from (zero_in b) (zero_in c) pb.1 pc.1))
      ]

pub no_overlap_is_clauses : NoOverlapLaw
no_overlap_is_clauses false a origins lengths =
    let bs = term_boxes origins lengths in
    let e = boxes_are a origins lengths in
    let m = mapped_pairs (box_of a) AreApart bs in
    let C : TermBox → TermBox → Type 0 = λ b c. list_any (λ t. t) (reasons false a b c) ≡ true in (
      λ h. pairwise_map (λ b c. AreApart (box_of a b) (box_of a c)) C bs (plain_forth a) (m.0 (subst (Pairwise AreApart) e (pairwise_of AreApart (boxes (rows_of a origins) (term_rows a lengths)) h))),
      λ h. pairs_of AreApart (boxes (rows_of a origins) (term_rows a lengths)) (subst (Pairwise AreApart) (sym e) (m.1 (pairwise_map C (λ b c. AreApart (box_of a b) (box_of a c)) bs (plain_back a) h))),
    )
no_overlap_is_clauses true a origins lengths =
    let bs = term_boxes origins lengths in
    let vs = boxes (rows_of a origins) (term_rows a lengths) in
    let e = boxes_are a origins lengths in
    let p : Box → Bool = λ b. not (is_among b.lengths (pos 0)) in
    let k : TermBox → Bool = λ b. not (has_zero b.lengths) in
    let R : Box → Box → Type 0 = λ b c. p b ≡ true → p c ≡ true → AreApart b c in
    let L : TermBox → TermBox → Type 0 = λ b c. R (box_of a b) (box_of a c) in
    let C : TermBox → TermBox → Type 0 = λ b c. list_any (λ t. t) (reasons true a b c) ≡ true in
    let K : TermBox → TermBox → Type 0 = λ b c. k b ≡ true → k c ≡ true → C b c in
    let m = mapped_pairs (box_of a) R bs in (
      λ h. pairs_kept k C bs (pairwise_map L K bs (forth a) (m.0 (subst (Pairwise R) e (kept_pairs p AreApart vs (pairwise_of AreApart (filter p vs) h))))),
      λ h. pairs_of AreApart (filter p vs) (pairs_kept p AreApart vs (subst (Pairwise R) (sym e) (m.1 (pairwise_map K L bs (back a) (kept_pairs k C bs h))))),
    )

pub separation_is_linear : SeparationLaw
separation_is_linear o l p = both_same (int_le (weighted_sum (pos 1 ∷ pos 1 ∷ negsuc 0 ∷ []) (o ∷ l ∷ p ∷ [])) (pos 0)) (int_le (o +ℤ l) p)
    (λ h. le_met (o +ℤ l) p (to o l p (le_says (weighted_sum (pos 1 ∷ pos 1 ∷ negsuc 0 ∷ []) (o ∷ l ∷ p ∷ [])) (pos 0) h)))
    (λ h. le_met (weighted_sum (pos 1 ∷ pos 1 ∷ negsuc 0 ∷ []) (o ∷ l ∷ p ∷ [])) (pos 0) (from o l p (le_says (o +ℤ l) p h)))
  where
    to : (o l p : ℤ) → weighted_sum (pos 1 ∷ pos 1 ∷ negsuc 0 ∷ []) (o ∷ l ∷ p ∷ []) ≤ℤ pos 0 → (o +ℤ l) ≤ℤ p
    to o l p h = omega (arith, ints, h)

    from : (o l p : ℤ) → (o +ℤ l) ≤ℤ p → weighted_sum (pos 1 ∷ pos 1 ∷ negsuc 0 ∷ []) (o ∷ l ∷ p ∷ []) ≤ℤ pos 0
    from o l p h = omega (arith, ints, h)
