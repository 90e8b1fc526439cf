-- Products of widths.
use Rattle.std.proofs.Common.{◌≡◌, ℕ, suc, ◌+◌, ◌*◌, ◌<◌, ◌≤◌, List, [], ◌∷◌, length, drop, get_or, false, refl, sym, ap, ◌∙◌, add-one, arith}
use Rattle.std.specs.Prelude.{nat_eq}
use Rattle.std.proofs.Math.Seq.{drop-cons}
use Rattle.std.proofs.lemmas.Bool.Decides.{nat_tests}
use Rattle.xf_num.specs.Span.{Bounds, width_of}
use Rattle.fz_model.specs.Sound.{places}

pub product_some : (n w : ℕ) → 1 ≤ n → 1 ≤ w → 1 ≤ n * w
product_some n w h g = grind arith

pub width_some : (s : Bounds) → 1 ≤ width_of s
width_some s = omega arith

pub places_some : (ss : List Bounds) → 1 ≤ places ss
places_some [] = omega arith
places_some (s ∷ ss) = product_some (width_of s) (places ss) (width_some s) (places_some ss)

pub next_place : (ss : List Bounds) (i : ℕ) (s : Bounds) → i < length ss → s ≡ get_or ss i s → places (drop i ss) ≡ width_of s * places (drop (i + 1) ss)
next_place ss i s l e =
    ap places (drop-cons ss i s l)
    ∙ (ap (λ b. width_of b * places (drop (suc i) ss)) (sym e) ∙ ap (λ k. width_of s * places (drop k ss)) (sym (add-one i)))

associates : (n w p : ℕ) → (n * w) * p ≡ n * (w * p)
associates n w p = grind arith

pub turned : (ss : List Bounds) (i : ℕ) (s : Bounds) (n m total : ℕ) → i < length ss → s ≡ get_or ss i s → m ≡ n * width_of s → n * places (drop i ss) ≡ total → m * places (drop (i + 1) ss) ≡ total
turned ss i s n m total l e is h =
    ap (λ k. k * places (drop (i + 1) ss)) is ∙ (associates n (width_of s) (places (drop (i + 1) ss)) ∙ (ap (λ k. n * k) (sym (next_place ss i s l e)) ∙ h))

no_less : (a p : ℕ) → 1 ≤ p → a ≤ a * p
no_less a p h = grind arith

other : (total count : ℕ) → count < total → false ≡ nat_eq total count
other total count h = grind (arith, nat_tests)

pub too_many : (ss : List Bounds) (i : ℕ) (s : Bounds) (n count total : ℕ) → i < length ss → s ≡ get_or ss i s → (n * width_of s ≤ count → ⊥) → n * places (drop i ss) ≡ total → false ≡ nat_eq total count
too_many ss i s n count total l e past h =
    let p = no_less (n * width_of s) (places (drop (i + 1) ss)) (places_some (drop (i + 1) ss)) in
    let t : (n * width_of s) * places (drop (i + 1) ss) ≡ total = turned ss i s n (n * width_of s) total l e refl h in
    other total count (grind (arith, p, t, past))
