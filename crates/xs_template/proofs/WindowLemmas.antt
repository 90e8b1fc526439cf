-- The multiples of a number, and the members of a window.
use Rattle.std.proofs.Common.{◌≡◌, ℕ, suc, zero, ◌+◌, ◌-◌, ◌%◌, ◌<◌, ◌≤◌, false, cond, ◌==◌, List, [], ◌∷◌, ◌++◌, length, drop, get_or, ap, ◌∙◌, arith, length-drop, length-take}
use Rattle.std.specs.List.{filter, range_with_len}
use Rattle.std.proofs.lemmas.Bool.{ne_eqb}
use Rattle.std.proofs.Math.Nat.{add-mod, mod-eq_of_lt, add-mod_right}
use Rattle.std.proofs.lemmas.List.{get_or-take, get_or-drop, get_or_append_left, get_or-append_right, get_or_past, drop_all}
use Rattle.xs_template.specs.Windows.{is_multiple, multiples_from, window}

not_zero : (j : ℕ) → 0 < j → (j == 0) ≡ false
not_zero j h = ne_eqb j 0 (λ e. absurd (omega (arith, e, h)))

-- no multiple stands strictly between a multiple and the next
between : (offset start j : ℕ) → start % offset ≡ 0 → 0 < j → j < offset → is_multiple offset (start + j) ≡ false
between offset start j is some few =
    let small : j % offset ≡ j = mod-eq_of_lt few in
    let none : 0 + j ≡ j = omega arith in
    let sum : (start + j) % offset ≡ j = add-mod start j offset ∙ ap (λ z. (z + j % offset) % offset) is ∙ ap (λ z. (0 + z) % offset) small ∙ ap (λ z. z % offset) none ∙ small in
    ap (λ z. z == 0) sum ∙ not_zero j some

none : (offset start t : ℕ) → start % offset ≡ 0 → start < t → t < start + offset → is_multiple offset t ≡ false
none offset start t is some few =
    let sum : t ≡ start + (t - start) = omega arith in
    ap (is_multiple offset) sum ∙ between offset start (t - start) is (omega arith) (omega arith)

-- numbers that are none
skip : (offset s m n k : ℕ) → n ≡ m + k → ((t : ℕ) → s ≤ t → t < s + m → is_multiple offset t ≡ false) → filter (is_multiple offset) (range_with_len s n) ≡ filter (is_multiple offset) (range_with_len (s + m) k)
skip offset s zero n k e none =
    let len : n ≡ k = omega arith in
    let place : s ≡ s + 0 = omega arith in
    ap (λ z. filter (is_multiple offset) (range_with_len s z)) len ∙ ap (λ z. filter (is_multiple offset) (range_with_len z k)) place
skip offset s (suc m) zero k e none = absurd (omega arith)
skip offset s (suc m) (suc n) k e none =
    let here : is_multiple offset s ≡ false = none s (omega arith) (omega arith) in
    let place : s + 1 + m ≡ s + suc m = omega arith in
    ap (λ v. cond v (s ∷ filter (is_multiple offset) (range_with_len (s + 1) n)) (filter (is_multiple offset) (range_with_len (s + 1) n))) here
    ∙ skip offset (s + 1) m n k (omega arith) (λ t h g. none t (omega arith) (omega arith))
    ∙ ap (λ z. filter (is_multiple offset) (range_with_len z k)) place

-- a multiple, and those behind it
front : (offset start n : ℕ) → start % offset ≡ 0 → filter (is_multiple offset) (range_with_len start (suc n)) ≡ start ∷ filter (is_multiple offset) (range_with_len (start + 1) n)
front offset start n is = ap (λ z. cond (z == 0) (start ∷ filter (is_multiple offset) (range_with_len (start + 1) n)) (filter (is_multiple offset) (range_with_len (start + 1) n))) is

pub first : (offset start end : ℕ) → start % offset ≡ 0 → start < end → multiples_from offset start end ≡ start ∷ multiples_from offset (start + 1) end
first offset start end is before =
    let len : end - start ≡ suc (end - (start + 1)) = omega arith in
    ap (λ z. filter (is_multiple offset) (range_with_len start z)) len ∙ front offset start (end - (start + 1)) is

pub next_within : (offset start end : ℕ) → 0 < offset → start % offset ≡ 0 → offset < end - start → multiples_from offset start end ≡ start ∷ multiples_from offset (start + offset) end
next_within offset start end some is few =
    let place : start + 1 + (offset - 1) ≡ start + offset = omega arith in
    first offset start end is (omega arith)
    ∙ ap (λ z. start ∷ z) (skip offset (start + 1) (offset - 1) (end - (start + 1)) (end - (start + offset)) (omega arith) (λ t h g. none offset start t is (omega arith) (omega arith)))
    ∙ ap (λ z. start ∷ filter (is_multiple offset) (range_with_len z (end - (start + offset)))) place

pub next_past : (offset start end : ℕ) → start % offset ≡ 0 → start < end → end - start ≤ offset → multiples_from offset start end ≡ start ∷ multiples_from offset end end
next_past offset start end is before few =
    let place : start + 1 + (end - (start + 1)) ≡ end = omega arith in
    first offset start end is before
    ∙ ap (λ z. start ∷ z) (skip offset (start + 1) (end - (start + 1)) (end - (start + 1)) (end - end) (omega arith) (λ t h g. none offset start t is (omega arith) (omega arith)))
    ∙ ap (λ z. start ∷ filter (is_multiple offset) (range_with_len z (end - end))) place

pub next_multiple : (offset start : ℕ) → start % offset ≡ 0 → (start + offset) % offset ≡ 0
next_multiple offset start is = add-mod_right start offset ∙ is

-- the members of a window
pub member_within : {A : Type 0} (list : List A) (start wide place : ℕ) (none : A) → place < wide → start + place < length list → get_or (window wide list start) place none ≡ get_or list (start + place) none
member_within list start wide place none few within =
    get_or-take wide (drop start list ++ list) place none few
    ∙ get_or_append_left (drop start list) list none place (omega (arith, length-drop start list))
    ∙ get_or-drop start list place none

pub member_round : {A : Type 0} (list : List A) (start wide place : ℕ) (none : A) → place < wide → start ≤ length list → length list - start ≤ place → get_or (window wide list start) place none ≡ get_or list (place - (length list - start)) none
member_round list start wide place none few within past =
    get_or-take wide (drop start list ++ list) place none few
    ∙ get_or-append_right (drop start list) list (length list - start) place none (length-drop start list) past

pub member_past : {A : Type 0} (list : List A) (start wide place : ℕ) (none : A) → wide ≤ place → get_or (window wide list start) place none ≡ none
member_past list start wide place none past = get_or_past (window wide list start) place none (omega (arith, length-take wide (drop start list ++ list)))

pub behind_window : {A : Type 0} (list : List A) (start wide : ℕ) → drop wide (window wide list start) ≡ []
behind_window list start wide = drop_all wide (window wide list start) (omega (arith, length-take wide (drop start list ++ list)))
