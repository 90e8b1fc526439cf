-- The brackets of a word.
use Rattle.std.proofs.Common.{◌≡◌, ℕ, suc, ◌+◌, ◌<◌, List, [], ◌∷◌, length, drop, get_or, drop-cons, refl, sym, ap, ◌∙◌, arith, Bool, true, false, not, ◌&&◌, if◌then◌else◌, Some, None, position}
use Rattle.std.specs.List.{position_or_len}
use Rattle.std.proofs.lemmas.List.Sums.{prefix_len_stops}
use borrow.Author.Tests.{not-false}
use Rattle.xs_fields.specs.Conditions.{all_meet, first_missed}
use Rattle.xs_fields.specs.Sizes.{brackets_of, size_meets, sizes_meet, front_meets}
use Rattle.xs_fields.specs.Words.{is_byte, parts, onto_first}
use Rattle.xs_fields.proofs.PartLemmas.{parts_cut, parts_whole, position_some}

-- where no bracket begins there is none
pub none_begins : (w : List ℕ) → position (is_byte 91) w ≡ None → None ≡ first_missed (all_meet size_meets (brackets_of w))
none_begins w h = ap (λ ps. first_missed (all_meet size_meets (drop 1 ps))) (sym (parts_whole (is_byte 91) w h))

-- there is a first part
record IsParts (ps : List (List ℕ)) : Type 0 where
  first : List ℕ
  others : List (List ℕ)
  is : ps ≡ first ∷ others

onto_some : (b : ℕ) (ps : List (List ℕ)) → IsParts (onto_first b ps)
onto_some b [] = record { first = b ∷ []; others = []; is = refl }
onto_some b (p ∷ ps) = record { first = b ∷ p; others = ps; is = refl }

parts_some : (test : ℕ → Bool) (bytes : List ℕ) → IsParts (parts test bytes)
parts_some test [] = record { first = []; others = []; is = refl }
parts_some test (b ∷ bs) = by (test b)
  where
    by : (v : Bool) → IsParts (if v then [] ∷ parts test bs else onto_first b (parts test bs))
    by true = record { first = []; others = parts test bs; is = refl }
    by false = onto_some b (parts test bs)

-- the brackets from the first `[` on, of these parts
sized : (ps : List (List ℕ)) → IsParts ps → first_missed (λ k. front_meets ([] ∷ ps) k && all_meet size_meets ps k) ≡ first_missed (all_meet size_meets ps)
sized ps some =
    ap (λ qs. first_missed (λ k. front_meets ([] ∷ qs) k && all_meet size_meets qs k)) some.is
    ∙ ap (λ qs. first_missed (all_meet size_meets qs)) (sym some.is)

pub some_begins : (w rest : List ℕ) (at : ℕ) → position (is_byte 91) w ≡ Some at → rest ≡ drop at w → first_missed (sizes_meet rest) ≡ first_missed (all_meet size_meets (brackets_of w))
some_begins w rest at h is =
    let test : ℕ → Bool = is_byte 91 in
    let place = position_some test w at h in
    let stops : not (test (get_or w (position_or_len test w) 0)) ≡ false = prefix_len_stops (λ b. not (test b)) w 0 (omega (arith, place.0, place.1)) in
    let bracket : test (get_or w at 0) ≡ true = not-false _ (ap (λ m. not (test (get_or w m 0))) place.0 ∙ stops) in
    let s : at + 1 ≡ suc at = omega arith in
    let behind : List ℕ = drop (at + 1) w in
    let cut : parts test rest ≡ [] ∷ parts test behind =
    ap (parts test) (is ∙ drop-cons w at 0 place.1)
    ∙ ap (λ (v : Bool). if v then [] ∷ parts test (drop (suc at) w) else onto_first (get_or w at 0) (parts test (drop (suc at) w))) bracket
    ∙ ap (λ m. [] ∷ parts test (drop m w)) (sym s) in
    ap (λ ps. first_missed (λ k. front_meets ps k && all_meet size_meets (drop 1 ps) k)) cut
    ∙ sized (parts test behind) (parts_some test behind)
    ∙ ap (λ ps. first_missed (all_meet size_meets (drop 1 ps))) (sym (parts_cut test w at h))
