-- Channels as tests of pairs of places.
use Rattle.std.proofs.Common.{◌≡◌, ℕ, ◌<◌, ◌⊎◌, inl, inr, ℤ, pos, ◌+ℤ◌, Bool, true, false, not, ◌&&◌, ◌||◌, List, [], ◌∷◌, length, map, refl, ap, ap₂, sym, ◌∙◌, subst, arith}
use Rattle.std.specs.List.{AllByRecursion, list_any}
use Rattle.std.specs.Ordering.{int_eq}
use Rattle.std.proofs.lemmas.Bool.{cases_eq}
use Rattle.std.proofs.lemmas.Bool.Decides.{Decides-int_eq, same_from_decides}
use Rattle.std.proofs.lemmas.Int.{ints}
use Rattle.xs_model.specs.Counting.{PointsTo}
use Rattle.xs_model.specs.Value.{at, sum_of, truth}
use Rattle.xs_laws.specs.Indices.{IsIndex, place_of}
use Rattle.xs_laws.specs.Channels.{points, ChannelLaw, ChannelOfTwoLaw, ChannelOfValueLaw, NoneLaw, ArePointedBack, ChannelByPlacesLaw, ChannelOfTwoByPlacesLaw}
use Rattle.xs_laws.proofs.Places.{index_place, place_of_index}
use Rattle.xs_laws.proofs.Distinct.{eq_turned, occurrences_sum}

says : (start : ℤ) (xs : List ℤ) (p q : ℕ) → points start xs p q ≡ true → PointsTo start xs p q
says start xs p q = (Decides-int_eq (at xs p) (start +ℤ pos q)).0

met : (start : ℤ) (xs : List ℤ) (p q : ℕ) → PointsTo start xs p q → points start xs p q ≡ true
met start xs p q = (Decides-int_eq (at xs p) (start +ℤ pos q)).1

pub channel_is_pairs : ChannelLaw
channel_is_pairs start xs = (
  λ h p q lp lq ne e. met start xs q p (h p q lp lq (says start xs p q e)),
  λ h p q lp lq e. elim (cases_eq p q) [
    | inl same ↦ subst (λ (r : ℕ). PointsTo start xs r p) same (subst (λ (r : ℕ). PointsTo start xs p r) (sym same) e)
    | inr ne ↦ says start xs q p (h p q lp lq ne (met start xs p q e))
  ],
)

pub both_same : (a b : Bool) → (a ≡ true → b ≡ true) → (b ≡ true → a ≡ true) → a ≡ b
both_same true b f g = sym (f refl)
both_same false true f g = g refl
both_same false false f g = refl

pub channel_of_two_is_pairs : ChannelOfTwoLaw
channel_of_two_is_pairs s xs t ys = (
  λ many. (
    λ h p q lp lq. both_same (points t xs p q) (points s ys q p) (λ e. met s ys q p ((h p q lp lq).0 (says t xs p q e))) (λ e. met t xs p q ((h p q lp lq).1 many (says s ys q p e))),
    λ h p q lp lq. (λ e. says s ys q p (sym (h p q lp lq) ∙ met t xs p q e), λ same e. says t xs p q (h p q lp lq ∙ met s ys q p e)),
  ),
  λ other. (
    λ h p q lp lq e. met s ys q p ((h p q lp lq).0 (says t xs p q e)),
    λ h p q lp lq. (λ e. says s ys q p (h p q lp lq (met t xs p q e)), λ same. absurd (other same)),
  ),
)

-- of bits the sum is how many are 1
bits_sum : (xs : List ℤ) → AllByRecursion (λ x. (x ≡ pos 0) ⊎ (x ≡ pos 1)) xs → sum_of (map (λ x. truth (int_eq x (pos 1))) xs) ≡ sum_of xs
bits_sum [] h = refl
bits_sum (x ∷ xs) h = ap₂ (λ (y z : ℤ). y +ℤ z) (bit x h.0) (bits_sum xs h.1)
  where
    bit : (x : ℤ) → (x ≡ pos 0) ⊎ (x ≡ pos 1) → truth (int_eq x (pos 1)) ≡ x
    bit x (inl e) = ap (λ (y : ℤ). truth (int_eq y (pos 1))) e ∙ sym e
    bit x (inr e) = ap (λ (y : ℤ). truth (int_eq y (pos 1))) e ∙ sym e

pub channel_of_value_is_sum : ChannelOfValueLaw
channel_of_value_is_sum start v xs = (
  λ h. (
    h.0,
    λ p lt. same_from_decides (int_eq (at xs p) (pos 1)) (int_eq v (start +ℤ pos p)) (λ e. (h.2 p lt).0 ((Decides-int_eq (at xs p) (pos 1)).0 e), λ e. (Decides-int_eq (at xs p) (pos 1)).1 ((h.2 p lt).1 e)) (Decides-int_eq v (start +ℤ pos p)),
    sym (occurrences_sum (pos 1) xs ∙ bits_sum xs h.0) ∙ ap pos h.1,
  ),
  λ h. (
    h.0,
    (let s = occurrences_sum (pos 1) xs ∙ bits_sum xs h.0 ∙ h.2 in omega (arith, ints, s)),
    λ p lt. (
      λ e. (Decides-int_eq v (start +ℤ pos p)).0 (sym (h.1 p lt) ∙ (Decides-int_eq (at xs p) (pos 1)).1 e),
      λ e. (Decides-int_eq (at xs p) (pos 1)).0 (h.1 p lt ∙ (Decides-int_eq v (start +ℤ pos p)).1 e),
    ),
  ),
)

pub none_is_all : NoneLaw
none_is_all x [] = refl
none_is_all x (v ∷ vs) = split (int_eq x v) (list_any (int_eq x) vs) ∙ ap₂ (λ (a b : Bool). not a && b) (eq_turned x v) (none_is_all x vs)
  where
    split : (a b : Bool) → not (a || b) ≡ (not a && not b)
    split true b = refl
    split false b = refl

-- by places
back_at : (s : ℤ) (xs : List ℤ) (t : ℤ) (ys : List ℤ) → ((p q : ℕ) → p < length xs → q < length ys → PointsTo t xs p q → PointsTo s ys q p) → ArePointedBack s xs t ys
back_at s xs t ys h p lt i =
    let r = index_place t (length ys) (at xs p) i.0 i.1 in
    subst (λ (q : ℕ). PointsTo s ys q p) (sym (ap (place_of t) r.2 ∙ place_of_index t r.0)) (h p r.0 lt r.1 r.2)

from_back : (s : ℤ) (xs : List ℤ) (t : ℤ) (ys : List ℤ) → ArePointedBack s xs t ys → (p q : ℕ) → p < length xs → q < length ys → PointsTo t xs p q → PointsTo s ys q p
from_back s xs t ys h p q lp lq e =
    subst (λ (r : ℕ). PointsTo s ys r p) (ap (place_of t) e ∙ place_of_index t q) (h p lp (inside t (length ys) (at xs p) q lq e))
  where
    inside : (t : ℤ) (n : ℕ) (i : ℤ) (q : ℕ) → q < n → i ≡ (t +ℤ pos q) → IsIndex t n i
    inside t n i q lt e = (omega (arith, ints, lt, e), omega (arith, ints, lt, e))

pub channel_is_places : ChannelByPlacesLaw
channel_is_places start xs = (back_at start xs start xs, from_back start xs start xs)

pub channel_of_two_is_places : ChannelOfTwoByPlacesLaw
channel_of_two_is_places s xs t ys = (
  λ many. (
    λ h. (back_at s xs t ys (λ p q lp lq. (h p q lp lq).0), back_at t ys s xs (λ q p lq lp. (h p q lp lq).1 many)),
    λ h p q lp lq. (from_back s xs t ys h.0 p q lp lq, λ same e. from_back t ys s xs h.1 q p lq lp e),
  ),
  λ other. (
    λ h. back_at s xs t ys (λ p q lp lq. (h p q lp lq).0),
    λ h p q lp lq. (from_back s xs t ys h p q lp lq, λ same e. absurd (other same)),
  ),
)
