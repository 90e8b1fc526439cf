-- The direct word of a variable denotes it.
use Rattle.std.proofs.Common.{◌≡◌, ℕ, zero, suc, ◌+◌, ◌/◌, ◌%◌, ◌<◌, ◌≤◌, ◌^◌, List, [], ◌∷◌, ◌++◌, Option, None, Some, Bool, true, false, cond, length, map, get_or, slice_get, take, drop, is_some, refl, sym, ap, ◌∙◌, subst, arith, ℤ, pos, neg_ℤ, append-nil, div-le_self}
use Rattle.std.specs.Prelude.{IsSome, ◌==◌}
use Rattle.std.specs.Fmt.{decimal}
use Rattle.std.specs.List.{AllByRecursion, flat_map}
use Rattle.std.specs.Str.Parse.{IsNumeral, digits_value}
use Rattle.std.proofs.lemmas.Bool.{eqb-true}
use Rattle.std.proofs.lemmas.Fmt.{decimal_is_IsNumeral}
use Rattle.std.proofs.lemmas.List.Folds.{flat_map-map}
use Rattle.std.proofs.lemmas.Nat.{div-add-mod', mod_below}
use Rattle.std.proofs.lemmas.Str.Parse.{digit_at}
use Rattle.std.proofs.lemmas.Option.{slice_get-map, slice_get_read}
use Rattle.std.proofs.lemmas.Grind.{take_at_read}
use Rattle.std.proofs.lemmas.List.{map-append}
use Rattle.std.specs.Option.{option_map}
use Rattle.xf_num.specs.Span.{Bounds}
use Rattle.xs_model.specs.declared.decl.Decl.{Decl}
use Rattle.xs_model.specs.declared.decl.Decl.TheVariants.{One, Array}
use Rattle.xs_model.specs.Cells.{IsDefinedPlace}
use Rattle.xs_model.specs.Denotes.{bracketed, SpellsIndex, SpellIndices, Denotes, DenotesIn}
use Rattle.xs_model.specs.Names.{cell_word, row_major, defined, words_of}
use Rattle.xs_model.specs.Outline.{Outline, outline_of, outlines_of, defined_count, variables_in, number_cells, numbers_from, cell_numbers}
use Rattle.xs_model.specs.Sound.{IsSize, cell_count, IsSoundDecl}
use Rattle.xs_model.proofs.NamesLemmas.{variables_in-push}
use Rattle.xs_model.proofs.Places.{row_major-place, cell_count-pos, length-words_of}

-- digits have no sign
digits_plain : (b : ℕ) (bs : List ℕ) → IsNumeral 10 (b ∷ bs) → SpellsIndex (b ∷ bs) (digits_value 10 (b ∷ bs))
digits_plain b bs h = minus (b == 45) refl
  where
    P : Bool → Type 0
    P t = IsNumeral 10 (cond t (drop 1 (b ∷ bs)) (drop (cond (b == 43) 1 0) (b ∷ bs))) × (cond t (neg_ℤ (pos (digits_value 10 (cond t (drop 1 (b ∷ bs)) (drop (cond (b == 43) 1 0) (b ∷ bs)))))) (pos (digits_value 10 (cond t (drop 1 (b ∷ bs)) (drop (cond (b == 43) 1 0) (b ∷ bs))))) ≡ pos (digits_value 10 (b ∷ bs)))

    low : (48 ≤ b) × (b ≤ 57)
    low = let d = digit_at (b ∷ bs) 0 h.1 (omega arith) in (d.0, d.1)

    plus : (t : Bool) → (b == 43) ≡ t → IsNumeral 10 (drop (cond t 1 0) (b ∷ bs)) × (pos (digits_value 10 (drop (cond t 1 0) (b ∷ bs))) ≡ pos (digits_value 10 (b ∷ bs)))
    plus true e = absurd (omega (arith, eqb-true b 43 e, low.0))
    plus false e = (h, refl)

    minus : (t : Bool) → (b == 45) ≡ t → SpellsIndex (b ∷ bs) (digits_value 10 (b ∷ bs))
    minus true e = absurd (omega (arith, eqb-true b 45 e, low.0))
    minus false e = subst P (sym e) (plus (b == 43) refl)

numeral_plain : (ds : List ℕ) → IsNumeral 10 ds → SpellsIndex ds (digits_value 10 ds)
numeral_plain [] h = absurd (omega (arith, h.0))
numeral_plain (b ∷ bs) h = digits_plain b bs h

decimal_spells : (n : ℕ) → n < 2 ^ 64 → SpellsIndex (decimal n) n
decimal_spells n l =
    let d = decimal_is_IsNumeral n l in
    subst (SpellsIndex (decimal n)) d.1 (numeral_plain (decimal n) d.0)

-- the indices of a place, as they are written
pub indices_spelt : (ns : List ℤ) (p : ℕ) → AllByRecursion IsSize ns → p < cell_count ns → p < 2 ^ 64 → SpellIndices (map decimal (get_or (row_major ns) p [])) (get_or (row_major ns) p [])
indices_spelt [] zero a l f = tt
indices_spelt [] (suc p) a l f = absurd (omega arith)
indices_spelt (n ∷ ns) p a l f =
    let c = cell_count-pos ns a.1 in
    let s = div-add-mod' p (cell_count ns) in
    let q : p / cell_count ns ≤ p = div-le_self p (cell_count ns) in
    let r : p % cell_count ns ≤ p = omega arith in
    let first = decimal_spells (p / cell_count ns) (omega arith) in
    let others = indices_spelt ns (p % cell_count ns) a.1 (mod_below p (cell_count ns) c) (omega arith) in
    let P : List ℕ → Type 0 = λ is. SpellIndices (map decimal is) is in
    subst P (sym (row_major-place n ns p c l)) (first, others)

pub cell_word-texts : (name is : List ℕ) → cell_word name is ≡ name ++ flat_map bracketed (map decimal is)
cell_word-texts name is = ap (λ xs. name ++ xs) (sym (flat_map-map bracketed decimal is))

-- the number of a defined cell
pub number_of : (n : ℕ) (cells : List (Option (List Bounds))) (p : ℕ) → IsSome (get_or cells p None) → get_or (number_cells n (map is_some cells)) p None ≡ Some (n + length (defined (take p cells)))
number_of n [] p h = cc
number_of n (None ∷ cells) zero h = cc
number_of n (None ∷ cells) (suc p) h = number_of n cells p h
number_of n (Some d ∷ cells) zero h = ap Some (omega arith)
number_of n (Some d ∷ cells) (suc p) h = number_of (n + 1) cells p h ∙ ap Some (omega arith)

within_cells : (cells : List (Option (List Bounds))) (p : ℕ) → IsSome (get_or cells p None) → p < length cells
within_cells [] p h = cc
within_cells (c ∷ cells) zero h = omega arith
within_cells (c ∷ cells) (suc p) h = let l = within_cells cells p h in omega arith

pub one_denotes : (d : Decl) (name : List ℕ) (domain : List Bounds) (nth : ℕ) (word : List ℕ) → d ≡ One name domain → nth < length (words_of d) → word ≡ name → DenotesIn (outline_of d) word nth
one_denotes d name domain nth word e l w = subst (λ x. DenotesIn (outline_of x) word nth) (sym e) (made nth (subst (λ x. nth < length (words_of x)) e l))
  where
    made : (n : ℕ) → n < 1 → DenotesIn (outline_of (One name domain)) word n
    made zero l = record { place = 0; texts = []; numbered = refl; spelt = w ∙ sym (append-nil name); reads = tt }
    made (suc n) l = absurd (omega arith)

pub array_denotes : (d : Decl) (name : List ℕ) (sizes : List ℤ) (cells : List (Option (List Bounds))) (nth p : ℕ) (word : List ℕ) → d ≡ Array name sizes cells → IsSoundDecl d → IsDefinedPlace cells nth p → p < 2 ^ 64 → word ≡ cell_word name (get_or (row_major sizes) p []) → DenotesIn (outline_of d) word nth
array_denotes d name sizes cells nth p word e h place l w =
    let s = subst IsSoundDecl e h in
    let within : p < cell_count sizes = omega (arith, within_cells cells p place.0, s.3) in
    subst (λ x. DenotesIn (outline_of x) word nth) (sym e) (record {
      place = p;
      texts = map decimal (get_or (row_major sizes) p []);
      numbered = number_of 0 cells p place.0 ∙ ap Some (omega (arith, place.1));
      spelt = w ∙ cell_word-texts name (get_or (row_major sizes) p []);
      reads = indices_spelt sizes p s.2 within l;
    })

-- numbers count on from those before
shifted : (before n : ℕ) (cells : List Bool) (p k : ℕ) → get_or (number_cells n cells) p None ≡ Some k → get_or (number_cells (before + n) cells) p None ≡ Some (before + k)
shifted before n [] p k h = cc
shifted before n (true ∷ cells) zero k h = let e : n ≡ k = cc in ap (λ x. Some (before + x)) e
shifted before n (true ∷ cells) (suc p) k h = ap (λ x. get_or (number_cells x cells) p None) (omega arith) ∙ shifted before (n + 1) cells p k h
shifted before n (false ∷ cells) zero k h = cc
shifted before n (false ∷ cells) (suc p) k h = shifted before n cells p k h

numbers_at : (n : ℕ) (os : List Outline) (at : ℕ) (o : Outline) → slice_get os at ≡ Some o → get_or (numbers_from n os) at [] ≡ number_cells (n + variables_in (take at os)) o.cells
numbers_at n [] at o h = cc
numbers_at n (x ∷ os) zero o h = let s : x ≡ o = cc in ap (λ m. number_cells m x.cells) (omega arith) ∙ ap (λ y. number_cells (n + 0) y.cells) s
numbers_at n (x ∷ os) (suc at) o h = numbers_at (n + defined_count x.cells) os at o h ∙ ap (λ m. number_cells m o.cells) (omega arith)

outline_taken : (ds : List Decl) (i : ℕ) → outlines_of (take i ds) ≡ take i (outlines_of ds)
outline_taken ds zero = refl
outline_taken [] (suc i) = refl
outline_taken (d ∷ ds) (suc i) = ap (λ os. outline_of d ∷ os) (outline_taken ds i)

-- the nth variable of the ith declaration
pub denotes_at : (ds : List Decl) (i nth : ℕ) (d : Decl) (word : List ℕ) → i < length ds → d ≡ get_or ds i d → DenotesIn (outline_of d) word nth → Denotes (outlines_of ds) word (variables_in (outlines_of (take i ds)) + nth)
denotes_at ds i nth d word l e h =
    let there : slice_get (outlines_of ds) i ≡ Some (outline_of d) = slice_get-map outline_of ds i ∙ ap (option_map outline_of) (slice_get_read ds (length ds) i d refl l e) in
    let before : ℕ = variables_in (take i (outlines_of ds)) in
    let numbers : cell_numbers (outlines_of ds) i ≡ number_cells before (outline_of d).cells = numbers_at 0 (outlines_of ds) i (outline_of d) there ∙ ap (λ m. number_cells m (outline_of d).cells) (omega arith) in
    record {
      at = i;
      outline = outline_of d;
      place = h.place;
      texts = h.texts;
      declared = there;
      numbered =
          ap (λ ns. get_or ns h.place None) numbers
          ∙ (ap (λ m. get_or (number_cells m (outline_of d).cells) h.place None) (omega arith)
          ∙ (shifted before 0 (outline_of d).cells h.place nth h.numbered
          ∙ ap (λ os. Some (variables_in os + nth)) (sym (outline_taken ds i))));
      spelt = h.spelt;
      reads = h.reads;
    }

count_true : (cells : List (Option (List Bounds))) → defined_count (map is_some cells) ≡ length (defined cells)
count_true [] = refl
count_true (None ∷ cells) = count_true cells
count_true (Some d ∷ cells) = let h = count_true cells in omega arith

pub count_is : (d : Decl) → IsSoundDecl d → defined_count (outline_of d).cells ≡ length (words_of d)
count_is (One name domain) h = refl
count_is (Array name sizes cells) h = count_true cells ∙ sym (length-words_of (Array name sizes cells) name sizes cells refl h)

-- the variables of one more declaration
pub counted_more : (ds : List Decl) (i : ℕ) (d : Decl) → i < length ds → d ≡ get_or ds i d → IsSoundDecl d → variables_in (outlines_of (take (i + 1) ds)) ≡ variables_in (outlines_of (take i ds)) + length (words_of d)
counted_more ds i d l e h =
    let t : take (i + 1) ds ≡ take i ds ++ d ∷ [] = (take_at_read ds i d l).1 ∙ ap (λ x. take i ds ++ x ∷ []) (sym e) in
    ap (λ x. variables_in (outlines_of x)) t
    ∙ (ap variables_in (map-append outline_of (take i ds) (d ∷ []))
    ∙ (variables_in-push (outlines_of (take i ds)) (outline_of d)
    ∙ ap (λ n. variables_in (outlines_of (take i ds)) + n) (count_is d h)))
