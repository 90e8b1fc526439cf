-- Places past the limit are alike.
use Rattle.std.proofs.Common.{◌≡◌, ℕ, zero, suc, ◌+◌, ◌-◌, ◌≤◌, Bool, true, false, ◌||◌, ◌==◌, nat_le, nat_lt, nat_eq, min, max, List, [], ◌∷◌, ◌++◌, length, map, get_or, Option, None, Some, if◌then◌else◌, codes, refl, ap, sym, ◌∙◌, arith}
use Rattle.std.proofs.lemmas.List.{get_or_past}
use Rattle.std.specs.Char.{is_ascii_digit}
use Rattle.std.specs.List.{flat_map, list_any, starts_with, take_while}
use borrow.Author.Tests.{leb-true, leb-false, lt-leb, ltb-true, ltb-false, lt-ltb}
use Rattle.xf_markup.specs.declared.tree.Node.{Node}
use Rattle.xs_var.specs.Elements.{children_of, text_in}
use Rattle.xs_template.specs.Alike.{AreAlikePlaces}
use Rattle.xs_template.specs.Concrete.{asked_of, filled_text, greatest, is_open, made_of, own_part, pairs_of, part_of, texts_of}
use Rattle.xs_template.specs.Template.{as_written, asked_by, filled, gap_asks, gap_at, gap_behind, gap_text, has_rest, is_rest, most_words, number_after, numbered, onto_plain, put, spot_asks, spot_text, spots_of, spots_past, within_words}
use Rattle.xs_template.specs.declared.cutting.Gap.{Gap}
use Rattle.xs_template.specs.declared.cutting.Gap.TheVariants.{Place, Rest}
use Rattle.xs_template.specs.declared.cutting.Spot.{Spot}
use Rattle.xs_template.specs.declared.cutting.Spot.TheVariants.{Plain, Open}

-- a gap, its place told within the limit
near_gap : Gap → Gap
near_gap (Place i) = Place (within_words i)
near_gap Rest = Rest

near : Spot → Spot
near (Plain bytes) = Plain bytes
near (Open gap) = Open (near_gap gap)

near_some : Option (Gap × ℕ) → Option (Gap × ℕ)
near_some None = None
near_some (Some gap) = Some (near_gap gap.0, gap.1)

numbered_near : (ds : List ℕ) → numbered within_words ds ≡ near_some (numbered as_written ds)
unfolding near_some near_gap
numbered_near [] = refl
numbered_near (d ∷ ds) = refl

behind_near : (bytes : List ℕ) → gap_behind within_words bytes ≡ near_some (gap_behind as_written bytes)
unfolding near_some near_gap
behind_near bytes = by (starts_with nat_eq bytes (codes "..."))
  where
    by : (v : Bool) → (if v then Some (Rest, 4) else numbered within_words (take_while is_ascii_digit bytes)) ≡ near_some (if v then Some (Rest, 4) else numbered as_written (take_while is_ascii_digit bytes))
    by true = refl
    by false = numbered_near (take_while is_ascii_digit bytes)

at_near : (b : ℕ) (bytes : List ℕ) → gap_at within_words b bytes ≡ near_some (gap_at as_written b bytes)
unfolding near_some
at_near b bytes = by (b == 37)
  where
    by : (v : Bool) → (if v then gap_behind within_words bytes else None) ≡ near_some (if v then gap_behind as_written bytes else None)
    by true = behind_near bytes
    by false = refl

onto_near : (b : ℕ) (ss : List Spot) → onto_plain b (map near ss) ≡ map near (onto_plain b ss)
unfolding near
onto_near b [] = refl
onto_near b (Plain bytes ∷ ss) = refl
onto_near b (Open gap ∷ ss) = refl

put_near : (b : ℕ) (gap : Option (Gap × ℕ)) (f g : ℕ → List Spot) → ((k : ℕ) → f k ≡ map near (g k)) → put b (near_some gap) f ≡ map near (put b gap g)
unfolding near near_some
put_near b None f g same = ap (onto_plain b) (same 0) ∙ onto_near b (g 0)
put_near b (Some gap) f g same = ap (λ ss. Open (near_gap gap.0) ∷ ss) (same (gap.1 - 1))

past_near : (bs : List ℕ) (k : ℕ) → spots_past within_words bs k ≡ map near (spots_past as_written bs k)
past_near [] k = refl
past_near (b ∷ bs) zero = ap (λ gap. put b gap (spots_past within_words bs)) (at_near b bs) ∙ put_near b (gap_at as_written b bs) (spots_past within_words bs) (spots_past as_written bs) (λ k. past_near bs k)
past_near (b ∷ bs) (suc k) = past_near bs k

spots_near : (text : List ℕ) → spots_of within_words text ≡ map near (spots_of as_written text)
spots_near text = past_near text 0

-- the words that are asked for
spot_near : (s : Spot) → spot_asks (near s) ≡ min (spot_asks s) (most_words + 1)
unfolding near near_gap
spot_near (Plain bytes) = refl
spot_near (Open (Place i)) = omega arith
spot_near (Open Rest) = refl

asked_near : (ss : List Spot) → asked_by (map near ss) ≡ min (asked_by ss) (most_words + 1)
asked_near [] = refl
asked_near (s ∷ ss) = omega (arith, spot_near s, asked_near ss)

texts_near : (ts : List (List ℕ)) → greatest (map (λ t. asked_by (spots_of within_words t)) ts) ≡ min (greatest (map (λ t. asked_by (spots_of as_written t)) ts)) (most_words + 1)
texts_near [] = refl
texts_near (t ∷ ts) = omega (arith, ap asked_by (spots_near t), asked_near (spots_of as_written t), texts_near ts)

all_near : (t : Node) → asked_of within_words t ≡ min (asked_of as_written t) (most_words + 1)
all_near t = texts_near (texts_of t)

some_near : (a : ℕ) → nat_lt 0 (min a (most_words + 1)) ≡ nat_lt 0 a
some_near a = by (nat_lt 0 a) refl
  where
    by : (v : Bool) → nat_lt 0 a ≡ v → nat_lt 0 (min a (most_words + 1)) ≡ nat_lt 0 a
    by true e = lt-ltb 0 (min a (most_words + 1)) (omega (arith, ltb-true _ _ e)) ∙ sym e
    by false e =
        let none : a ≡ 0 = omega (arith, ltb-false _ _ e) in
        let same : min a (most_words + 1) ≡ a = omega (arith, none) in
        ap (λ n. nat_lt 0 n) same

enough_near : (a count : ℕ) → count ≤ most_words → nat_le (min a (most_words + 1)) count ≡ nat_le a count
enough_near a count few = by (nat_le a most_words) refl
  where
    by : (v : Bool) → nat_le a most_words ≡ v → nat_le (min a (most_words + 1)) count ≡ nat_le a count
    by true e =
        let same : min a (most_words + 1) ≡ a = omega (arith, leb-true _ _ e) in
        ap (λ i. nat_le i count) same
    by false e = lt-leb (min a (most_words + 1)) count (omega (arith, leb-false _ _ e)) ∙ sym (lt-leb a count (omega (arith, leb-false _ _ e)))

-- whether there is a gap for the rest
rest_near : (s : Spot) → is_rest (near s) ≡ is_rest s
unfolding near near_gap
rest_near (Plain bytes) = refl
rest_near (Open (Place i)) = refl
rest_near (Open Rest) = refl

rests_near : (ss : List Spot) → has_rest (map near ss) ≡ has_rest ss
rests_near [] = refl
rests_near (s ∷ ss) = ap (λ b. b || has_rest (map near ss)) (rest_near s) ∙ ap (λ b. is_rest s || b) (rests_near ss)

opens_near : (ts : List (List ℕ)) → list_any (λ t. has_rest (spots_of within_words t)) ts ≡ list_any (λ t. has_rest (spots_of as_written t)) ts
opens_near [] = refl
opens_near (t ∷ ts) =
    ap (λ b. b || list_any (λ u. has_rest (spots_of within_words u)) ts) (ap has_rest (spots_near t) ∙ rests_near (spots_of as_written t))
    ∙ ap (λ b. has_rest (spots_of as_written t) || b) (opens_near ts)

-- what words fill in
word_near : (n : ℕ) (words : List (List ℕ)) → length words ≤ most_words → get_or words (min n most_words) [] ≡ get_or words n []
word_near n words few = by (nat_le n most_words) refl
  where
    by : (v : Bool) → nat_le n most_words ≡ v → get_or words (min n most_words) [] ≡ get_or words n []
    by true e =
        let same : min n most_words ≡ n = omega (arith, leb-true _ _ e) in
        ap (λ i. get_or words i []) same
    by false e = get_or_past words (min n most_words) [] (omega (arith, leb-false _ _ e)) ∙ sym (get_or_past words n [] (omega (arith, leb-false _ _ e)))

text_near : (words : List (List ℕ)) (asked : ℕ) (s : Spot) → length words ≤ most_words → spot_text words asked (near s) ≡ spot_text words asked s
unfolding near near_gap
text_near words asked (Plain bytes) few = refl
text_near words asked (Open (Place i)) few = word_near i words few
text_near words asked (Open Rest) few = refl

filled_near : (words : List (List ℕ)) (asked : ℕ) (ss : List Spot) → length words ≤ most_words → filled words asked (map near ss) ≡ filled words asked ss
filled_near words asked [] few = refl
filled_near words asked (s ∷ ss) few = ap (λ t. t ++ filled words asked (map near ss)) (text_near words asked s few) ∙ ap (λ t. spot_text words asked s ++ t) (filled_near words asked ss few)

change_near : (words : List (List ℕ)) (asked : ℕ) (text : List ℕ) → length words ≤ most_words → filled_text within_words words asked text ≡ filled_text as_written words asked text
change_near words asked text few = ap (filled words asked) (spots_near text) ∙ filled_near words asked (spots_of as_written text) few

parts_near : (words : List (List ℕ)) (asked : ℕ) (cs : List Node) → length words ≤ most_words → map (part_of (filled_text within_words words asked)) cs ≡ map (part_of (filled_text as_written words asked)) cs
parts_near words asked [] few = refl
parts_near words asked (c ∷ cs) few =
    ap (λ t. record { name = c.name; attrs = pairs_of c.attrs; text = t } ∷ map (part_of (filled_text within_words words asked)) cs) (change_near words asked (text_in c.pieces) few)
    ∙ ap (λ ps. part_of (filled_text as_written words asked) c ∷ ps) (parts_near words asked cs few)

made_near : (t : Node) (words : List (List ℕ)) (asked place : ℕ) → length words ≤ most_words → made_of (filled_text within_words words asked) place t ≡ made_of (filled_text as_written words asked) place t
made_near t words asked place few =
    ap (λ x. record { name = t.name; attrs = pairs_of t.attrs; parts = own_part x ++ map (part_of (filled_text within_words words asked)) (children_of t.pieces); place = place }) (change_near words asked (text_in t.pieces) few)
    ∙ ap (λ ps. record { name = t.name; attrs = pairs_of t.attrs; parts = own_part (filled_text as_written words asked (text_in t.pieces)) ++ ps; place = place }) (parts_near words asked (children_of t.pieces) few)

pub alike_places : AreAlikePlaces
alike_places = record {
  some = λ t. ap (λ a. nat_lt 0 a) (all_near t) ∙ some_near (asked_of as_written t);
  open_ended = λ t. opens_near (texts_of t);
  enough = λ t count few. ap (λ a. nat_le a count) (all_near t) ∙ enough_near (asked_of as_written t) count few;
  asked = λ t count few enough. let within = leb-true _ _ enough in omega (arith, all_near t, within, few);
  made = made_near;
}
