-- The brackets of a word, and the words of an expression.
use Rattle.std.proofs.Common.{◌≡◌, ℕ, suc, ◌+◌, ◌<◌, List, [], ◌∷◌, ◌++◌, map, length, drop, get_or, drop-cons, append_assoc, refl, sym, ap, ◌∙◌, arith, rules, Bool, true, false, not, ◌&&◌, if◌then◌else◌, Some, None, position}
use Rattle.std.specs.List.{flat_map, position_or_len}
use Rattle.std.proofs.lemmas.List.Sums.{prefix_len_stops}
use borrow.Author.Tests.{not-false}
use Rattle.xs_fields.specs.Conditions.{all_meet, first_missed}
use Rattle.xs_fields.specs.Sizes.{brackets_of, size_meets, sizes_meet, front_meets}
use Rattle.xs_fields.specs.Words.{is_byte, parts, onto_first}
use Rattle.xs_fields.proofs.PartLemmas.{parts_cut, parts_whole, position_some}
use Rattle.xs_model.specs.declared.expr.Op.{Op}
use Rattle.xs_notation.specs.declared.raw.Raw.{Raw, Word, Call, the_lemmas}
use Rattle.xs_notation.specs.Reading.{words_in}

-- where no bracket begins there is none
pub none-begins : (w : List ℕ) → position (is_byte 91) w ≡ None → None ≡ first_missed (all_meet size_meets (brackets_of w))
none-begins w h = ap (λ ps. first_missed (all_meet size_meets (drop 1 ps))) (sym (parts_whole (is_byte 91) w h))

-- there is a first part
record IsParts (ps : List (List ℕ)) : Type 0 where
  first : List ℕ
  others : List (List ℕ)
  is : ps ≡ first ∷ others

onto-some : (b : ℕ) (ps : List (List ℕ)) → IsParts (onto_first b ps)
onto-some b [] = record { first = b ∷ []; others = []; is = refl }
onto-some b (p ∷ ps) = record { first = b ∷ p; others = ps; is = refl }

parts-some : (test : ℕ → Bool) (bytes : List ℕ) → IsParts (parts test bytes)
parts-some test [] = record { first = []; others = []; is = refl }
parts-some test (b ∷ bs) = by (test b)
  where
    by : (v : Bool) → IsParts (if v then [] ∷ parts test bs else onto_first b (parts test bs))
    by true = record { first = []; others = parts test bs; is = refl }
    by false = onto-some b (parts test bs)

-- the brackets from the first `[` on, of these parts
sized : (ps : List (List ℕ)) → IsParts ps → first_missed (λ k. front_meets ([] ∷ ps) k && all_meet size_meets ps k) ≡ first_missed (all_meet size_meets ps)
sized ps some =
    ap (λ qs. first_missed (λ k. front_meets ([] ∷ qs) k && all_meet size_meets qs k)) some.is
    ∙ ap (λ qs. first_missed (all_meet size_meets qs)) (sym some.is)

pub some-begins : (w rest : List ℕ) (at : ℕ) → position (is_byte 91) w ≡ Some at → rest ≡ drop at w → first_missed (sizes_meet rest) ≡ first_missed (all_meet size_meets (brackets_of w))
some-begins w rest at h is =
    let test : ℕ → Bool = is_byte 91 in
    let place = position_some test w at h in
    let stops : not (test (get_or w (position_or_len test w) 0)) ≡ false = prefix_len_stops (λ b. not (test b)) w 0 (omega (arith, place.0, place.1)) in
    let bracket : test (get_or w at 0) ≡ true = not-false _ (ap (λ m. not (test (get_or w m 0))) place.0 ∙ stops) in
    let s : at + 1 ≡ suc at = omega arith in
    let behind : List ℕ = drop (at + 1) w in
    let cut : parts test rest ≡ [] ∷ parts test behind =
    ap (parts test) (is ∙ drop-cons w at 0 place.1)
    ∙ ap (λ (v : Bool). if v then [] ∷ parts test (drop (suc at) w) else onto_first (get_or w at 0) (parts test (drop (suc at) w))) bracket
    ∙ ap (λ m. [] ∷ parts test (drop m w)) (sym s) in
    ap (λ ps. first_missed (λ k. front_meets ps k && all_meet size_meets (drop 1 ps) k)) cut
    ∙ sized (parts test behind) (parts-some test behind)
    ∙ ap (λ ps. first_missed (all_meet size_meets (drop 1 ps))) (sym (parts_cut test w at h))

pub words-Word : (w : List ℕ) → words_in (Word w) ≡ w ∷ []
words-Word w = search (rules, the_lemmas)

kept : (rs : List Raw) → flat_map (λ w. w) (map words_in rs) ≡ flat_map words_in rs
kept [] = refl
kept (r ∷ rs) = ap (λ ws. words_in r ++ ws) (kept rs)

raw-Call : (op : Op) (rs : List Raw) → words_in (Call op rs) ≡ flat_map (λ w. w) (map words_in rs)
raw-Call op rs = search (rules, the_lemmas)

pub words-Call : (op : Op) (rs : List Raw) → words_in (Call op rs) ≡ flat_map words_in rs
words-Call op rs = raw-Call op rs ∙ kept rs

-- the words of operands from place i on
pub words-next : (i : ℕ) (rs : List Raw) (r : Raw) → i < length rs → r ≡ get_or rs i r → flat_map words_in (drop i rs) ≡ words_in r ++ flat_map words_in (drop (i + 1) rs)
words-next i rs r h is =
    let k : i + 1 ≡ suc i = omega arith in
    ap (flat_map words_in) (drop-cons rs i r h)
    ∙ ap (λ q. words_in q ++ flat_map words_in (drop (suc i) rs)) (sym is)
    ∙ ap (λ n. words_in r ++ flat_map words_in (drop n rs)) (sym k)

-- one item more of a list that is mapped
pub map-more : {A B : Type 0} (f : A → B) (xs : List A) (done new all : List B) (i : ℕ) (x : A) (y : B) → i < length xs → x ≡ get_or xs i x → y ≡ f x → new ≡ done ++ y ∷ [] → done ++ map f (drop i xs) ≡ all → new ++ map f (drop (i + 1) xs) ≡ all
map-more f xs done new all i x y h is value made so_far =
    let s : i + 1 ≡ suc i = omega arith in
    ap (λ ys. ys ++ map f (drop (i + 1) xs)) made
    ∙ append_assoc done (y ∷ []) (map f (drop (i + 1) xs))
    ∙ ap (λ z. done ++ (z ∷ map f (drop (i + 1) xs))) (value ∙ ap f is)
    ∙ ap (λ n. done ++ (f (get_or xs i x) ∷ map f (drop n xs))) s
    ∙ ap (λ ys. done ++ map f ys) (sym (drop-cons xs i x h))
    ∙ so_far
