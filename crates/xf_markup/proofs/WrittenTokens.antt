-- The tokens that a written tree is read as.
use Rattle.std.proofs.Common.{◌≡◌, ℕ, zero, suc, ◌+◌, ◌-◌, ◌<◌, ◌≤◌, ◌==◌, Bool, true, false, ◌&&◌, List, [], ◌∷◌, ◌++◌, length, drop, Option, Some, None, refl, ap, ◌∙◌, arith, append_assoc, if◌then◌else◌, length-append}
use Rattle.std.specs.Prelude.{slice_index}
use Rattle.std.specs.List.{list_all}
use Rattle.std.specs.Option.{option_map, unwrap_or}
use Rattle.std.proofs.Math.Seq.{take-append_seam, drop-append_seam}
use Rattle.std.proofs.lemmas.Bool.Decides.{nat_tests}
use Rattle.memchr.specs.Find.{is_byte2}
use Rattle.xf_markup.specs.declared.tree.Attr.{Attr}
use Rattle.xf_markup.specs.declared.tag.Tag.{Tag}
use Rattle.xf_markup.specs.declared.cut.Cut.{Cut}
use Rattle.xf_markup.specs.declared.cut.Cut.TheVariants.{Opens as opens, Closes as closes, Says as says}
use Rattle.xf_markup.specs.Names.{is_name, is_name_start}
use Rattle.xf_markup.specs.Tag.{Tail, with_front, tail_of, tail_on, named_at, attr_at, end_at, tail_at, tag_at, closing_at, ◌>>=◌}
use Rattle.xf_markup.specs.Tokens.{Token, Opens, Closes, Says, cut_at, token, size, text_at}
use Rattle.xf_markup.specs.Reading.{State, next, next_cut, fitting, fits}
use Rattle.xf_markup.specs.Written.{written_attr, written_attrs, is_spelt_name, is_spelt_attr, is_spelt_text, is_text_byte}
use Rattle.xf_markup.proofs.DistinctLemmas.{and_left, and_right}
use Rattle.xf_markup.proofs.TagLemmas.{tail_suc}
use Rattle.xf_markup.proofs.SpellingLemmas.{start_not, not_start, named_written, past_name, first_place, attr_parts, attr_written}

-- a tag does not end where an attribute begins
end_name : (name ys : List ℕ) → is_spelt_name name ≡ true → end_at (32 ∷ (name ++ ys)) ≡ None
unfolding end_at
end_name [] ys h = cc
end_name (n ∷ ns) ys h =
    let starts : is_name_start n ≡ true = and_left (is_name_start n) (list_all is_name ns) h in
    let ended : List ℕ → Option (Bool × List ℕ) = λ bs. if slice_index bs 0 == 62 then Some (false, drop 1 bs) else if slice_index bs 0 == 47 && slice_index bs 1 == 62 then Some (true, drop 2 bs) else None in
    let bytes : List ℕ = n ∷ (ns ++ ys) in
    ap ended (past_name n (ns ++ ys) starts)
    ∙ ap (λ t. if t then Some (false, drop 1 bytes) else if n == 47 && slice_index bytes 1 == 62 then Some (true, drop 2 bytes) else None) (start_not n 62 starts (omega arith))
    ∙ ap (λ t. if t && slice_index bytes 1 == 62 then Some (true, drop 2 bytes) else None) (start_not n 47 starts (omega arith))

end_written : (rest : List ℕ) → end_at (62 ∷ rest) ≡ Some (false, rest)
unfolding end_at
end_written rest = refl

attrs_parts : (a : Attr) (more : List Attr) (ys : List ℕ) → written_attrs (a ∷ more) ++ ys ≡ written_attr a ++ (written_attrs more ++ ys)
attrs_parts a more ys = append_assoc (written_attr a) (written_attrs more) ys

tail_written : (attrs : List Attr) (n : ℕ) (rest : List ℕ) → list_all is_spelt_attr attrs ≡ true → length attrs < n
    → tail_at n (written_attrs attrs ++ 62 ∷ rest) ≡ Some (record { attrs = attrs; is_empty = false; rest = rest })
tail_written attrs zero rest ok lt = absurd (omega arith)
tail_written [] (suc n) rest ok lt = ap (λ e. tail_of e (tail_on (attr_at (62 ∷ rest)) (tail_at n))) (end_written rest)
tail_written (a ∷ more) (suc n) rest ok lt =
    let after : List ℕ = written_attrs more ++ 62 ∷ rest in
    let spelt : is_spelt_attr a ≡ true = and_left (is_spelt_attr a) (list_all is_spelt_attr more) ok in
    let others : list_all is_spelt_attr more ≡ true = and_right (is_spelt_attr a) (list_all is_spelt_attr more) ok in
    let named : is_spelt_name a.name ≡ true = and_left (is_spelt_name a.name) _ spelt in
    let open_end : end_at (written_attr a ++ after) ≡ None = ap end_at (attr_parts a after) ∙ end_name a.name _ named in
    ap (tail_at (suc n)) (attrs_parts a more (62 ∷ rest))
    ∙ tail_suc n (written_attr a ++ after) a.name a.value after open_end (attr_written a after spelt)
    ∙ ap (with_front (a ∷ [])) (tail_written more n rest others (omega arith))

-- no attribute is written in no bytes
attrs_short : (attrs : List Attr) (ys : List ℕ) → length attrs ≤ length (written_attrs attrs ++ ys)
attrs_short [] ys = omega arith
attrs_short (a ∷ more) ys =
    let front : length (written_attrs (a ∷ more) ++ ys) ≡ length (written_attr a) + length (written_attrs more ++ ys) = ap length (attrs_parts a more ys) ∙ length-append (written_attr a) (written_attrs more ++ ys) in
    let some : 0 < length (written_attr a) = omega arith in
    omega (arith, front, attrs_short more ys)

named_tag : (name : List ℕ) (attrs : List Attr) (rest : List ℕ) → is_spelt_name name ≡ true → named_at (name ++ (written_attrs attrs ++ 62 ∷ rest)) ≡ Some (name, written_attrs attrs ++ 62 ∷ rest)
named_tag name [] rest h = named_written name 62 rest h refl
named_tag name (a ∷ more) rest h = named_written name 32 _ h refl

tag_written : (name : List ℕ) (attrs : List Attr) (rest : List ℕ) → is_spelt_name name ≡ true → list_all is_spelt_attr attrs ≡ true
    → tag_at (60 ∷ (name ++ (written_attrs attrs ++ 62 ∷ rest))) ≡ Some (record { name = length name; attrs = attrs; is_empty = false; size = length (60 ∷ (name ++ (written_attrs attrs ++ 62 ∷ rest))) - length rest })
tag_written name attrs rest h ok =
    let after : List ℕ = written_attrs attrs ++ 62 ∷ rest in
    let all : List ℕ = 60 ∷ (name ++ after) in
    let made : List ℕ → Tail → Option Tag = λ n t. Some (record { name = length n; attrs = t.attrs; is_empty = t.is_empty; size = length all - length t.rest }) in
    ap (λ o. o >>= (λ n. tail_at (length n.1 + 1) n.1 >>= (λ t. made n.0 t))) (named_tag name attrs rest h)
    ∙ ap (λ o. o >>= (λ t. made name t)) (tail_written attrs (length after + 1) rest ok (omega (arith, attrs_short attrs (62 ∷ rest))))

cut_open : (name : List ℕ) (attrs : List Attr) (rest : List ℕ) → is_spelt_name name ≡ true → list_all is_spelt_attr attrs ≡ true
    → cut_at (60 ∷ (name ++ (written_attrs attrs ++ 62 ∷ rest))) ≡ Some (opens (record { name = length name; attrs = attrs; is_empty = false; size = length (60 ∷ (name ++ (written_attrs attrs ++ 62 ∷ rest))) - length rest }))
unfolding cut_at
cut_open [] attrs rest h ok = cc
cut_open (n ∷ ns) attrs rest h ok =
    let starts : is_name_start n ≡ true = and_left (is_name_start n) (list_all is_name ns) h in
    rw (not_start n 33 starts (omega arith), not_start n 47 starts (omega arith)) (ap (option_map opens) (tag_written (n ∷ ns) attrs rest h ok))

cut_close : (name rest : List ℕ) → is_spelt_name name ≡ true → cut_at (60 ∷ 47 ∷ (name ++ 62 ∷ rest)) ≡ Some (closes (length name) (length (60 ∷ 47 ∷ (name ++ 62 ∷ rest)) - length rest))
unfolding cut_at
cut_close name rest h =
    let all : List ℕ = 60 ∷ 47 ∷ (name ++ 62 ∷ rest) in
    ap (λ o. option_map (λ (p : ℕ × ℕ). closes p.0 p.1) (o >>= (λ n. closing_at n.1 >>= (λ r. Some (length n.0, length all - length r))))) (named_written name 62 rest h refl)

text_written : (words rest : List ℕ) → list_all is_text_byte words ≡ true → text_at (words ++ 60 ∷ rest) ≡ length words
text_written words rest h = ap (λ r. unwrap_or r (length (words ++ 60 ∷ rest))) (first_place (is_byte2 60 38) words 60 rest h refl)

no_tag : (w : ℕ) → is_text_byte w ≡ true → (60 == w) ≡ false
no_tag w h = grind (arith, nat_tests)

not_zero : (n : ℕ) → (suc n == 0) ≡ false
not_zero n = grind (arith, nat_tests)

some_text : (n : ℕ) → (if suc n == 0 then None else Some (says (suc n))) ≡ Some (says (suc n))
some_text n = ap (λ t. if t then None else Some (says (suc n))) (not_zero n)

cut_text : (words rest : List ℕ) → is_spelt_text words ≡ true → cut_at (words ++ 60 ∷ rest) ≡ Some (says (length words))
unfolding cut_at
cut_text [] rest h = cc
cut_text (w ∷ ws) rest h =
    let other : (60 == w) ≡ false = no_tag w (and_left (is_text_byte w) (list_all is_text_byte ws) h) in
    rw other (ap (λ n. if n == 0 then None else Some (says n)) (text_written (w ∷ ws) rest h) ∙ some_text (length ws))

-- the next token, from its cut
drop_suffix : (bytes front rest : List ℕ) → bytes ≡ front ++ rest → drop (length bytes - length rest) bytes ≡ rest
drop_suffix bytes front rest e =
    let count : length bytes - length rest ≡ length front = omega (arith, ap length e, length-append front rest) in
    ap (λ k. drop k bytes) count ∙ ap (drop (length front)) e ∙ drop-append_seam front rest

next_by : (total : ℕ) (s : State) (bytes : List ℕ) (c : Cut) (t : Token) (rest : List ℕ) (after : State) → cut_at bytes ≡ Some c → token (total - length bytes) bytes c ≡ t → drop (size c) bytes ≡ rest → fits s t ≡ Some after
    → next total s bytes ≡ Some (record { token = t; state = after; rest = rest })
next_by total s bytes c t rest after cut is left fit =
    ap (next_cut s (total - length bytes) bytes) cut ∙ ap (λ x. fitting x (drop (size c) bytes) (fits s x)) is ∙ ap (λ r. fitting t r (fits s t)) left ∙ ap (fitting t rest) fit

pub next_open : (total : ℕ) (s after : State) (name : List ℕ) (attrs : List Attr) (rest : List ℕ) → is_spelt_name name ≡ true → list_all is_spelt_attr attrs ≡ true
    → fits s (Opens (total - length (60 ∷ (name ++ (written_attrs attrs ++ 62 ∷ rest)))) name attrs false) ≡ Some after
    → next total s (60 ∷ (name ++ (written_attrs attrs ++ 62 ∷ rest))) ≡ Some (record { token = Opens (total - length (60 ∷ (name ++ (written_attrs attrs ++ 62 ∷ rest)))) name attrs false; state = after; rest = rest })
next_open total s after name attrs rest h ok fit =
    let behind : List ℕ = written_attrs attrs ++ 62 ∷ rest in
    let all : List ℕ = 60 ∷ (name ++ behind) in
    let front : List ℕ = 60 ∷ (name ++ (written_attrs attrs ++ 62 ∷ [])) in
    let split : all ≡ front ++ rest = simp append_assoc in
    next_by total s all (opens (record { name = length name; attrs = attrs; is_empty = false; size = length all - length rest })) (Opens (total - length all) name attrs false) rest after
    (cut_open name attrs rest h ok) (ap (λ n. Opens (total - length all) n attrs false) (take-append_seam name behind)) (drop_suffix all front rest split) fit

pub next_close : (total : ℕ) (s after : State) (name rest : List ℕ) → is_spelt_name name ≡ true → fits s (Closes name) ≡ Some after
    → next total s (60 ∷ 47 ∷ (name ++ 62 ∷ rest)) ≡ Some (record { token = Closes name; state = after; rest = rest })
next_close total s after name rest h fit =
    let all : List ℕ = 60 ∷ 47 ∷ (name ++ 62 ∷ rest) in
    let front : List ℕ = 60 ∷ 47 ∷ (name ++ 62 ∷ []) in
    let split : all ≡ front ++ rest = simp append_assoc in
    next_by total s all (closes (length name) (length all - length rest)) (Closes name) rest after
    (cut_close name rest h) (ap Closes (take-append_seam name (62 ∷ rest))) (drop_suffix all front rest split) fit

pub next_text : (total : ℕ) (s after : State) (words rest : List ℕ) → is_spelt_text words ≡ true → fits s (Says words) ≡ Some after
    → next total s (words ++ 60 ∷ rest) ≡ Some (record { token = Says words; state = after; rest = 60 ∷ rest })
next_text total s after words rest h fit =
    next_by total s (words ++ 60 ∷ rest) (says (length words)) (Says words) (60 ∷ rest) after
    (cut_text words rest h) (ap Says (take-append_seam words (60 ∷ rest))) (drop-append_seam words (60 ∷ rest)) fit
