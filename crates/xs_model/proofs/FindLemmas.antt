-- What a word denotes, by its identifier and its brackets.
use Rattle.std.proofs.Common.{◌≡◌, ℕ, zero, suc, ◌+◌, ◌*◌, ◌/◌, ◌%◌, ◌<◌, ◌≤◌, List, [], ◌∷◌, ◌++◌, Option, None, Some, Bool, true, false, cond, length, get_or, slice_get, take, drop, refl, sym, ap, ◌∙◌, subst, arith, ℤ, pos, negsuc, inl, inr, ◌<ℤ◌}
use Rattle.std.specs.Prelude.{◌⊎◌, ◌&&◌, ◌||◌}
use Rattle.std.specs.List.{AllByRecursion, flat_map, list_all, prefix_len}
use Rattle.std.specs.Option.{option_map}
use Rattle.std.proofs.lemmas.Bool.{cases_lt}
use Rattle.std.proofs.lemmas.Int.{ints}
use Rattle.std.proofs.lemmas.List.{get_or_past, take-append-drop, take_at, drop_at}
use Rattle.std.proofs.lemmas.Nat.{div-add-mod', div_below, mod_below, mul-add-lt}
use Rattle.std.proofs.lemmas.Option.{slice_get-map}
use Rattle.std.proofs.Math.Nat.{add-mul, mul_assoc}
use Rattle.xs_model.specs.Denotes.{bracketed, SpellIndices, Denotes}
use Rattle.xs_model.specs.Identifier.{is_word, is_digit, IsIdentifier}
use Rattle.xs_model.specs.Names.{places_of, row_major}
use Rattle.xs_model.specs.Outline.{Outline, number_cells, numbers_from, cell_numbers, defined_count, sizes_at, IsNamed, IsSoundOutline}
use Rattle.xs_model.specs.Places.{SpellsFrom, SpellsPlace, DenotesCell}
use Rattle.xs_model.specs.Sound.{IsSize, cell_count}
use Rattle.xs_model.proofs.NamesLemmas.{sizes_of_outline}
use Rattle.xs_model.proofs.Places.{row_major-at, row_major-place, cell_count-pos}

-- brackets read one after another, as a list of texts and the place whose indices they spell
pub record Spelt (before : ℕ) (sizes : List ℤ) (text : List ℕ) (p : ℕ) : Type 0 where
  pub texts : List (List ℕ)
  pub place : ℕ
  pub whole : text ≡ flat_map bracketed texts
  pub is : p ≡ before * cell_count sizes + place
  pub within : place < cell_count sizes
  pub reads : SpellIndices texts (get_or (row_major sizes) place [])

below_size : (i : ℕ) (n : ℤ) → pos i <ℤ n → i < places_of n
below_size i (pos m) h = omega (arith, ints)
below_size i (negsuc m) h = absurd (omega (arith, ints))

within_product : (n i c q : ℕ) → i < n → q < c → i * c + q < n * c
within_product n i c q h l = omega (arith, mul-add-lt i c q n h l)

pub spelt : (before : ℕ) (sizes : List ℤ) (text : List ℕ) (p : ℕ) → SpellsFrom before sizes text p → Spelt before sizes text p
spelt before [] text p h = record { texts = []; place = 0; whole = h.0; is = omega (arith, h.1); within = omega arith; reads = tt }
spelt before (n ∷ ns) text p h =
    let i = h.0 in
    let b = h.1.1.0 in
    let s = spelt (before * places_of n + i) ns h.1.0 p h.1.1.1 in
    let l = below_size i n b.below in
    record {
      texts = b.inner ∷ s.texts;
      place = i * cell_count ns + s.place;
      whole = b.cut ∙ ap (λ xs. bracketed b.inner ++ xs) s.whole;
      is = omega (arith, s.is, add-mul (before * places_of n) i (cell_count ns), mul_assoc before (places_of n) (cell_count ns));
      within = within_product (places_of n) i (cell_count ns) s.place l s.within;
      reads = subst (SpellIndices (b.inner ∷ s.texts)) (sym (row_major-at n ns i s.place l s.within)) (b.spells, s.reads);
    }

index_below : (i : ℕ) (n : ℤ) → i < places_of n → pos i <ℤ n
index_below i (pos m) h = omega (arith, ints)
index_below i (negsuc m) h = absurd (omega arith)

pub spells : (before : ℕ) (sizes : List ℤ) (texts : List (List ℕ)) (q : ℕ) → AllByRecursion IsSize sizes → q < cell_count sizes → SpellIndices texts (get_or (row_major sizes) q []) → SpellsFrom before sizes (flat_map bracketed texts) (before * cell_count sizes + q)
spells before [] [] q a l h = (refl, omega arith)
spells before [] (t ∷ ts) q a l h = absurd (subst (SpellIndices (t ∷ ts)) (only_row q l) h)
  where
    only_row : (q : ℕ) → q < 1 → get_or (row_major []) q [] ≡ []
    only_row zero l = refl
    only_row (suc q) l = absurd (omega arith)
spells before (n ∷ ns) texts q a l h =
    let c = cell_count-pos ns a.1 in
    next texts (subst (SpellIndices texts) (row_major-place n ns q c l) h) (λ ts r. spells (before * places_of n + q / cell_count ns) ns ts (q % cell_count ns) a.1 (mod_below q (cell_count ns) c) r)
  where
    next : (texts : List (List ℕ)) → SpellIndices texts ((q / cell_count ns) ∷ get_or (row_major ns) (q % cell_count ns) []) → ((ts : List (List ℕ)) → SpellIndices ts (get_or (row_major ns) (q % cell_count ns) []) → SpellsFrom (before * places_of n + q / cell_count ns) ns (flat_map bracketed ts) ((before * places_of n + q / cell_count ns) * cell_count ns + q % cell_count ns)) → SpellsFrom before (n ∷ ns) (flat_map bracketed texts) (before * cell_count (n ∷ ns) + q)
    next [] h more = absurd h
    next (t ∷ ts) h more =
        let c = cell_count-pos ns a.1 in
        let i = div_below q (cell_count ns) (places_of n) c l in
        let e : (before * places_of n + q / cell_count ns) * cell_count ns + q % cell_count ns ≡ before * (places_of n * cell_count ns) + q = omega (arith, add-mul (before * places_of n) (q / cell_count ns) (cell_count ns), mul_assoc before (places_of n) (cell_count ns), div-add-mod' q (cell_count ns)) in
        (q / cell_count ns, (flat_map bracketed ts, (record { inner = t; cut = refl; spells = h.0; below = index_below (q / cell_count ns) n i }, subst (SpellsFrom (before * places_of n + q / cell_count ns) ns (flat_map bracketed ts)) e (more ts h.1))))

length-number_cells : (n : ℕ) (cells : List Bool) → length (number_cells n cells) ≡ length cells
length-number_cells n [] = refl
length-number_cells n (true ∷ cells) = ap suc (length-number_cells (n + 1) cells)
length-number_cells n (false ∷ cells) = ap suc (length-number_cells n cells)

length-numbers : (n : ℕ) (os : List Outline) (at : ℕ) (o : Outline) → slice_get os at ≡ Some o → length (get_or (numbers_from n os) at []) ≡ length o.cells
length-numbers n [] at o h = cc
length-numbers n (x ∷ os) zero o h = let s : x ≡ o = cc in length-number_cells n x.cells ∙ ap (λ y. length y.cells) s
length-numbers n (x ∷ os) (suc at) o h = length-numbers (n + defined_count x.cells) os at o h

within_some : (ns : List (Option ℕ)) (q k : ℕ) → get_or ns q None ≡ Some k → q < length ns
within_some ns q k h = by (cases_lt q (length ns))
  where
    by : (q < length ns) ⊎ (length ns ≤ q) → q < length ns
    by (inl l) = l
    by (inr l) = let e : Some k ≡ None = sym h ∙ get_or_past ns q None l in absurd (cc e)

pub sound_at : (os : List Outline) (at : ℕ) (o : Outline) → AllByRecursion IsSoundOutline os → slice_get os at ≡ Some o → IsSoundOutline o
sound_at [] at o a h = cc
sound_at (x ∷ os) zero o a h = let s : x ≡ o = cc in subst IsSoundOutline s a.0
sound_at (x ∷ os) (suc at) o a h = sound_at os at o a.1 h

-- the identifier that a word begins with ends before a bracket
brackets_stop : (texts : List (List ℕ)) → prefix_len is_word (flat_map bracketed texts) ≡ 0
brackets_stop [] = refl
brackets_stop (t ∷ ts) = refl

test_true : (b : ℕ) (bs : List ℕ) → list_all is_word (b ∷ bs) ≡ true → (is_word b ≡ true) × (list_all is_word bs ≡ true)
test_true b bs h = by (is_word b) refl h
  where
    by : (s : Bool) → is_word b ≡ s → (s && list_all is_word bs) ≡ true → (is_word b ≡ true) × (list_all is_word bs ≡ true)
    by true e g = (e, g)
    by false e g = cc

prefix_run : (name : List ℕ) (texts : List (List ℕ)) → list_all is_word name ≡ true → prefix_len is_word (name ++ flat_map bracketed texts) ≡ length name
prefix_run [] texts h = brackets_stop texts
prefix_run (b ∷ bs) texts h =
    let t = test_true b bs h in
    ap (λ s. cond s (1 + prefix_len is_word (bs ++ flat_map bracketed texts)) 0) t.0 ∙ (ap (λ n. 1 + n) (prefix_run bs texts t.1) ∙ omega arith)

identifier_words : (name : List ℕ) → IsIdentifier name → list_all is_word name ≡ true
identifier_words [] h = absurd h
identifier_words (b ∷ bs) h = ap (λ s. (s || is_digit b) && list_all is_word bs) h.0 ∙ h.1

pub identifier_len : (word name : List ℕ) (texts : List (List ℕ)) → IsIdentifier name → word ≡ name ++ flat_map bracketed texts → prefix_len is_word word ≡ length name
identifier_len word name texts h e = ap (prefix_len is_word) e ∙ prefix_run name texts (identifier_words name h)

module _ (os : List Outline) (sound : AllByRecursion IsSoundOutline os) (word : List ℕ) (k : ℕ) (d : Denotes os word k) where
  own : IsSoundOutline d.outline
  own = sound_at os d.at d.outline sound d.declared

  -- a word's identifier, and the declaration that has it
  pub front_is : take (prefix_len is_word word) word ≡ d.outline.name
  front_is = ap (λ n. take n word) (identifier_len word d.outline.name d.texts own.identifier d.spelt) ∙ (ap (take (length d.outline.name)) d.spelt ∙ take_at d.outline.name (flat_map bracketed d.texts) (length d.outline.name) refl)

  pub rest_is : drop (prefix_len is_word word) word ≡ flat_map bracketed d.texts
  rest_is = ap (λ n. drop n word) (identifier_len word d.outline.name d.texts own.identifier d.spelt) ∙ (ap (drop (length d.outline.name)) d.spelt ∙ drop_at d.outline.name (flat_map bracketed d.texts) (length d.outline.name) refl)

  pub declared_is : IsNamed os d.at (take (prefix_len is_word word) word)
  declared_is = slice_get-map (λ o. o.name) os d.at ∙ (ap (option_map (λ o. o.name)) d.declared ∙ ap Some (sym front_is))

  pub cell_is : DenotesCell os d.at (drop (prefix_len is_word word) word) k
  cell_is =
      let s = sizes_of_outline os d.at d.outline d.declared in
      let l : d.place < cell_count d.outline.sizes = omega (arith, within_some (cell_numbers os d.at) d.place k d.numbered, length-numbers 0 os d.at d.outline d.declared, own.cells) in
      let p = spells 0 d.outline.sizes d.texts d.place own.sizes l d.reads in
      let q : 0 * cell_count d.outline.sizes + d.place ≡ d.place = omega arith in
      let r = subst (SpellsPlace d.outline.sizes (flat_map bracketed d.texts)) q p in
      (d.place, (subst (λ ns. SpellsPlace ns (drop (prefix_len is_word word) word) d.place) (sym s) (subst (λ xs. SpellsPlace d.outline.sizes xs d.place) (sym rest_is) r), d.numbered))

-- and the other way round
outline_named : (os : List Outline) (at : ℕ) (name : List ℕ) → IsNamed os at name → (o : Outline) × ((slice_get os at ≡ Some o) × (o.name ≡ name))
outline_named [] at name h = cc
outline_named (o ∷ os) zero name h = (o, (refl, cc))
outline_named (o ∷ os) (suc at) name h = outline_named os at name h

pub denotes_from : (os : List Outline) (word : List ℕ) (end at k : ℕ) → IsNamed os at (take end word) → DenotesCell os at (drop end word) k → Denotes os word k
denotes_from os word end at k h d =
    let o = outline_named os at (take end word) h in
    let s = spelt 0 (sizes_at os at) (drop end word) d.0 d.1.0 in
    let z = sizes_of_outline os at o.0 o.1.0 in
    let p : d.0 ≡ s.place = omega (arith, s.is) in
    record {
      at = at;
      outline = o.0;
      place = s.place;
      texts = s.texts;
      declared = o.1.0;
      numbered = subst (λ q. get_or (cell_numbers os at) q None ≡ Some k) p d.1.1;
      spelt = sym (take-append-drop end word) ∙ (ap (λ n. n ++ drop end word) (sym o.1.1) ∙ ap (λ xs. o.0.name ++ xs) s.whole);
      reads = subst (λ ns. SpellIndices s.texts (get_or (row_major ns) s.place [])) z s.reads;
    }
