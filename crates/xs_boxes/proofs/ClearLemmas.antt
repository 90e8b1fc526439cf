-- Boxes that are clear of each other do not overlap.
use Rattle.std.proofs.Common.{◌≡◌, ◌↔◌, ℤ, pos, ◌+ℤ◌, Bool, true, false, not, ◌&&◌, ◌||◌, cond, List, [], ◌∷◌, refl, inl, inr}
use Rattle.std.specs.Prelude.{filter, int_le}
use Rattle.std.specs.List.{AllByRecursion, list_all}
use Rattle.std.proofs.lemmas.Bool.{or_cases, or_left, or_right}
use Rattle.xs_boxes.specs.Tests.{are_apart, are_clear, is_clear_of, sides}
use Rattle.xs_fields.proofs.IntegerLemmas.{and_left, and_right}
use Rattle.xs_laws.specs.Neighbours.{Pairwise}
use Rattle.xs_laws.proofs.Cumulative.{le_met, le_says}
use Rattle.xs_laws.proofs.Neighbours.{pairs_of, pairwise_of}
use Rattle.xs_model.specs.Lists.{is_among}
use Rattle.xs_model.specs.Schedule.{AreApart, AreApartFrom, Box, IsNoOverlap, boxes}
use Rattle.xs_tables.proofs.TableLemmas.{both_true}

-- two boxes
apart_from : (os ls ps ms : List ℤ) → are_apart (sides os ls) (sides ps ms) ≡ true → AreApartFrom os ls ps ms
apart_from [] ls ps ms h = cc
apart_from (o ∷ os) [] ps ms h = cc
apart_from (o ∷ os) (l ∷ ls) [] ms h = cc
apart_from (o ∷ os) (l ∷ ls) (p ∷ ps) [] h = cc
apart_from (o ∷ os) (l ∷ ls) (p ∷ ps) (m ∷ ms) h = elim (or_cases (int_le (o +ℤ l) p || int_le (p +ℤ m) o) (are_apart (sides os ls) (sides ps ms)) h) [
  | inl a ↦ elim (or_cases (int_le (o +ℤ l) p) (int_le (p +ℤ m) o) a) [
    | inl b ↦ inl (inl (le_says (o +ℤ l) p b))
    | inr b ↦ inl (inr (le_says (p +ℤ m) o b))
  ]
  | inr rest ↦ inr (apart_from os ls ps ms rest)
]

apart_to : (os ls ps ms : List ℤ) → AreApartFrom os ls ps ms → are_apart (sides os ls) (sides ps ms) ≡ true
apart_to (o ∷ os) (l ∷ ls) (p ∷ ps) (m ∷ ms) (inl (inl h)) =
    or_left (int_le (o +ℤ l) p || int_le (p +ℤ m) o) (are_apart (sides os ls) (sides ps ms)) (or_left (int_le (o +ℤ l) p) (int_le (p +ℤ m) o) (le_met (o +ℤ l) p h))
apart_to (o ∷ os) (l ∷ ls) (p ∷ ps) (m ∷ ms) (inl (inr h)) =
    or_left (int_le (o +ℤ l) p || int_le (p +ℤ m) o) (are_apart (sides os ls) (sides ps ms)) (or_right (int_le (o +ℤ l) p) (int_le (p +ℤ m) o) (le_met (p +ℤ m) o h))
apart_to (o ∷ os) (l ∷ ls) (p ∷ ps) (m ∷ ms) (inr h) = or_right (int_le (o +ℤ l) p || int_le (p +ℤ m) o) (are_apart (sides os ls) (sides ps ms)) (apart_to os ls ps ms h)
apart_to os ls ps ms h = absurd h

abbrev apart : Box → Box → Bool
apart b c = are_apart (sides b.origin b.lengths) (sides c.origin c.lengths)

are_from : (b c : Box) → apart b c ≡ true → AreApart b c
are_from b c h = apart_from b.origin b.lengths c.origin c.lengths h

are_to : (b c : Box) → AreApart b c → apart b c ≡ true
are_to b c h = apart_to b.origin b.lengths c.origin c.lengths h

-- where zeros count
module _ (b : Box) where
  all_from : (cs : List Box) → list_all (is_clear_of false b) cs ≡ true → AllByRecursion (AreApart b) cs
  all_from [] h = tt
  all_from (c ∷ cs) h = (are_from b c (and_left _ _ h), all_from cs (and_right (apart b c) _ h))

  all_to : (cs : List Box) → AllByRecursion (AreApart b) cs → list_all (is_clear_of false b) cs ≡ true
  all_to [] h = refl
  all_to (c ∷ cs) h = both_true (apart b c) _ (are_to b c h.0) (all_to cs h.1)

clear_from : (bs : List Box) → are_clear false bs ≡ true → Pairwise AreApart bs
clear_from [] h = tt
clear_from (b ∷ bs) h = (all_from b bs (and_left _ _ h), clear_from bs (and_right (list_all (is_clear_of false b) bs) _ h))

clear_to : (bs : List Box) → Pairwise AreApart bs → are_clear false bs ≡ true
clear_to [] h = refl
clear_to (b ∷ bs) h = both_true (list_all (is_clear_of false b) bs) _ (all_to b bs h.0) (clear_to bs h.1)

-- where they are ignored
abbrev keep : Box → Bool
keep b = not (is_among b.lengths (pos 0))

module _ (b : Box) where
  kept_from : (cs : List Box) → list_all (is_clear_of true b) cs ≡ true → AllByRecursion (AreApart b) (filter keep cs)
  kept_from [] h = tt
  kept_from (c ∷ cs) h = by (is_among c.lengths (pos 0)) (and_left _ _ h) (kept_from cs (and_right (is_clear_of true b c) _ h))
    where
      by : (v : Bool) → (v || apart b c) ≡ true → AllByRecursion (AreApart b) (filter keep cs) → AllByRecursion (AreApart b) (cond (not v) (c ∷ filter keep cs) (filter keep cs))
      by true g rest = rest
      by false g rest = (are_from b c g, rest)

  kept_to : (cs : List Box) → AllByRecursion (AreApart b) (filter keep cs) → list_all (is_clear_of true b) cs ≡ true
  kept_to [] h = refl
  kept_to (c ∷ cs) h = by (is_among c.lengths (pos 0)) h (kept_to cs)
    where
      by : (v : Bool) → AllByRecursion (AreApart b) (cond (not v) (c ∷ filter keep cs) (filter keep cs)) → (AllByRecursion (AreApart b) (filter keep cs) → list_all (is_clear_of true b) cs ≡ true)
          → ((v || apart b c) && list_all (is_clear_of true b) cs) ≡ true
      by true g rest = rest g
      by false g rest = both_true (apart b c) _ (are_to b c g.0) (rest g.1)

ignored_from : (bs : List Box) → are_clear true bs ≡ true → Pairwise AreApart (filter keep bs)
ignored_from [] h = tt
ignored_from (b ∷ bs) h = by (is_among b.lengths (pos 0)) h (ignored_from bs)
  where
    by : (v : Bool) → ((v || list_all (is_clear_of true b) bs) && are_clear true bs) ≡ true → (are_clear true bs ≡ true → Pairwise AreApart (filter keep bs)) → Pairwise AreApart (cond (not v) (b ∷ filter keep bs) (filter keep bs))
    by true g rest = rest g
    by false g rest = (kept_from b bs (and_left _ _ g), rest (and_right (list_all (is_clear_of true b) bs) _ g))

ignored_to : (bs : List Box) → Pairwise AreApart (filter keep bs) → are_clear true bs ≡ true
ignored_to [] h = refl
ignored_to (b ∷ bs) h = by (is_among b.lengths (pos 0)) h (ignored_to bs)
  where
    by : (v : Bool) → Pairwise AreApart (cond (not v) (b ∷ filter keep bs) (filter keep bs)) → (Pairwise AreApart (filter keep bs) → are_clear true bs ≡ true) → ((v || list_all (is_clear_of true b) bs) && are_clear true bs) ≡ true
    by true g rest = rest g
    by false g rest = both_true (list_all (is_clear_of true b) bs) _ (kept_to b bs g.0) (rest g.1)

pub clear_is : (zero_ignored : Bool) (origins lengths : List (List ℤ)) → (are_clear zero_ignored (boxes origins lengths) ≡ true) ↔ IsNoOverlap zero_ignored origins lengths
clear_is true origins lengths =
    let bs = boxes origins lengths in
    (λ h. pairs_of AreApart (filter keep bs) (ignored_from bs h), λ h. ignored_to bs (pairwise_of AreApart (filter keep bs) h))
clear_is false origins lengths =
    let bs = boxes origins lengths in
    (λ h. pairs_of AreApart bs (clear_from bs h), λ h. clear_to bs (pairwise_of AreApart bs h))
