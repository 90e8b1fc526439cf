-- Texts of tuples and of words, as they are written, are cut again into these.
use Rattle.std.proofs.Common.{◌≡◌, ℕ, ◌<◌, Bool, true, false, not, ◌&&◌, ◌||◌, nat_eq, if◌then◌else◌, List, [], ◌∷◌, ◌++◌, length, map, codes, Option, None, Some, refl, ap, ap₂, ◌∙◌, is_some, append-nil, append_assoc, arith}
use Rattle.std.specs.List.{AllByRecursion, flat_map}
use Rattle.xs_boxes.specs.Boxes.{one_each, widths_of}
use Rattle.xs_boxes.specs.Tuples.{entries_of, tuple_meets, width_of}
use Rattle.xs_boxes.specs.Written.{box_word}
use Rattle.xs_boxes.proofs.WordLemmas.{IsText}
use Rattle.xs_expr.specs.Text.{joined_from}
use Rattle.xs_fields.specs.Conditions.{all_meet}
use Rattle.xs_fields.specs.Words.{is_space, words_of}
use Rattle.xs_fields.specs.declared.condition.Condition.{Condition}
use Rattle.xs_fields.proofs.IntegerLemmas.{and_left}
use Rattle.xs_language.specs.Written.{spaced}
use Rattle.xs_language.proofs.CutLemmas.{AreEntries, IsWord, between_commas, both, joined_close, lacks_space, next_behind, next_groups, some_inner, spaced_words}
use Rattle.xs_model.specs.Fitting.{HaveLength}
use Rattle.xs_tables.specs.Groups.{behind_of, groups_of, inner_of}
use Rattle.xs_tables.specs.Tables.{are_tuples}

-- rows of entries
abbrev pub IsRow : List (List ℕ) → Type 0
IsRow r = (0 < length r) × AllByRecursion IsText r

entries_plain : (r : List (List ℕ)) → AllByRecursion IsText r → AreEntries r
entries_plain [] h = tt
entries_plain (w ∷ ws) h = (h.0.plain, entries_plain ws h.1)

abbrev cut_row : List (List ℕ) → List ℕ
cut_row r = 32 ∷ 40 ∷ joined_from [] r

row_back : (r : List (List ℕ)) → IsRow r → entries_of (cut_row r) ≡ r
row_back r h = between_commas r h.0 (entries_plain r h.1)

abbrev pub tuples_text : List (List (List ℕ)) → List ℕ
tuples_text rs = spaced (map (box_word false) rs)

cut_next : (r : List (List ℕ)) (rs : List (List (List ℕ))) → IsRow r → groups_of (tuples_text (r ∷ rs)) ≡ cut_row r ∷ groups_of (tuples_text rs)
cut_next r rs h = next_groups (joined_from [] r) (map (box_word false) rs) (joined_close r (entries_plain r h.1))

pub tuples_back : {A : Type 0} (f : List ℕ → A) (rs : List (List (List ℕ))) → AllByRecursion IsRow rs → map (λ g. map f (entries_of g)) (groups_of (tuples_text rs)) ≡ map (map f) rs
tuples_back f [] h = refl
tuples_back f (r ∷ rs) h =
    ap (map (λ g. map f (entries_of g))) (cut_next r rs h.0) ∙ ap₂ (λ x xs. x ∷ xs) (ap (map f) (row_back r h.0)) (tuples_back f rs h.1)

pub tuple_widths : (rs : List (List (List ℕ))) → AllByRecursion IsRow rs → widths_of (tuples_text rs) ≡ map length rs
tuple_widths [] h = refl
tuple_widths (r ∷ rs) h = ap (map width_of) (cut_next r rs h.0) ∙ ap₂ (λ (n : ℕ) (ns : List ℕ). n ∷ ns) (ap length (row_back r h.0)) (tuple_widths rs h.1)

pub tuples_met : (test : List ℕ → Condition → Bool) (k : Condition) (rs : List (List (List ℕ))) → AllByRecursion IsRow rs → AllByRecursion (λ r. all_meet test r k ≡ true) rs → all_meet (tuple_meets test) (groups_of (tuples_text rs)) k ≡ true
tuples_met test k [] h met = refl
tuples_met test k (r ∷ rs) h met =
    ap (λ gs. all_meet (tuple_meets test) gs k) (cut_next r rs h.0)
    ∙ both (tuple_meets test (cut_row r) k) (all_meet (tuple_meets test) (groups_of (tuples_text rs)) k) (ap (λ ps. all_meet test ps k) (row_back r h.0) ∙ met.0) (tuples_met test k rs h.1 met.1)

pub tuples_end : (rs : List (List (List ℕ))) → AllByRecursion IsRow rs → behind_of (tuples_text rs) ≡ 32 ∷ []
tuples_end [] h = refl
tuples_end (r ∷ rs) h = next_behind (joined_from [] r) (map (box_word false) rs) (joined_close r (entries_plain r h.0.1)) ∙ tuples_end rs h.1

pub begins_tupled : (r : List (List ℕ)) (rs : List (List (List ℕ))) → are_tuples (tuples_text (r ∷ rs)) ≡ true
begins_tupled r rs = ap (λ (o : Option (List ℕ)). is_some o) (some_inner (joined_from [] r) (map (box_word false) rs))

-- words
no_bracket : (t more : List ℕ) → IsText t → inner_of (t ++ more) ≡ None
no_bracket [] more h = absurd (let some = h.some in omega (arith, some))
no_bracket (b ∷ bs) more h = by (is_space b) (nat_eq b 40) (nat_eq b 41) (nat_eq b 44) (and_left _ _ h.plain)
  where
    by : (s a x c : Bool) → (not s && not (a || x || c)) ≡ true → (if s then inner_of (bs ++ more) else (if a then Some (bs ++ more) else None)) ≡ None
    by true a x c h = cc
    by false true x c h = cc
    by false false x c h = refl

pub not_tupled : (ws : List (List ℕ)) → AllByRecursion IsText ws → inner_of (spaced ws) ≡ None
not_tupled [] h = refl
not_tupled (w ∷ ws) h = ap inner_of (append_assoc w (codes " ") (flat_map (λ v. v ++ codes " ") ws)) ∙ no_bracket w (32 ∷ flat_map (λ v. v ++ codes " ") ws) h.0

texts_are_words : (ws : List (List ℕ)) → AllByRecursion IsText ws → AllByRecursion IsWord ws
texts_are_words [] h = tt
texts_are_words (w ∷ ws) h = (record { some = h.0.some; plain = lacks_space w h.0.plain }, texts_are_words ws h.1)

pub list_back : (ws : List (List ℕ)) → AllByRecursion IsText ws → words_of (spaced ws) ≡ ws
list_back ws h = spaced_words ws (texts_are_words ws h)

pub one_word_boxes : (ws : List (List ℕ)) → map (box_word true) (one_each ws) ≡ ws
one_word_boxes [] = refl
one_word_boxes (w ∷ ws) = ap₂ (λ (v : List ℕ) (vs : List (List ℕ)). v ∷ vs) (append-nil (w ++ []) ∙ append-nil w) (one_word_boxes ws)

-- rows of one member each
abbrev pub heads : {A : Type 0} → List (List A) → List A
heads [] = []
heads ([] ∷ rs) = heads rs
heads ((x ∷ xs) ∷ rs) = x ∷ heads rs

pub are_heads : {A : Type 0} (rows : List (List A)) → HaveLength 1 rows → rows ≡ one_each (heads rows)
are_heads [] h = refl
are_heads ([] ∷ rs) h = absurd (let none = h.0 in omega (arith, none))
are_heads ((x ∷ []) ∷ rs) h = ap (λ ys. (x ∷ []) ∷ ys) (are_heads rs h.1)
are_heads ((x ∷ y ∷ xs) ∷ rs) h = absurd (let more = h.0 in omega (arith, more))
