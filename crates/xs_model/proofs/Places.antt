-- Places of cells in row-major order, and the cells that are defined.
use Rattle.std.proofs.Common.{◌≡◌, ℕ, zero, suc, ◌+◌, ◌*◌, ◌/◌, ◌%◌, ◌<◌, ◌≤◌, ℤ, pos, negsuc, List, [], ◌∷◌, ◌++◌, Option, None, Some, length, map, take, drop, get_or, refl, sym, ap, ◌∙◌, arith, length-append, subst, true, false, is_some, nat_abs, zero-add}
use Rattle.std.specs.Prelude.{IsSome}
use Rattle.std.specs.List.{AllByRecursion, flat_map, range_with_len}
use Rattle.std.proofs.lemmas.Nat.{div-add-mod', div_below, mod_below}
use Rattle.std.proofs.lemmas.List.{get_or_append_left, get_or-append-add, get_or-map, length-map, drop_more}
use Rattle.std.proofs.lemmas.Int.{ints}
use Rattle.std.proofs.Math.Nat.{mul-pos, mul-div_cancel_left}
use Rattle.std.proofs.lemmas.Grind.{take_at_read}
use Rattle.xf_num.specs.Span.{Bounds}
use Rattle.xs_model.specs.declared.decl.Decl.{Decl}
use Rattle.xs_model.specs.declared.decl.Decl.TheVariants.{Array}
use Rattle.xs_model.specs.Names.{places_of, row_major, cell_word, cell_words, defined, words_of}
use Rattle.xs_model.specs.Sound.{IsSize, IsSoundDecl, cell_count}
use Rattle.xs_model.specs.Cells.{IsDefinedPlace}

-- lists of one length, one after another
module _ {X : Type 0} (f : ℕ → List X) (c : ℕ) (same : (i : ℕ) → length (f i) ≡ c) where
  pub length_of_blocks : (a n : ℕ) → length (flat_map f (range_with_len a n)) ≡ n * c
  length_of_blocks a zero = omega arith
  length_of_blocks a (suc n) =
      let e = length-append (f a) (flat_map f (range_with_len (a + 1) n)) in
      let h = length_of_blocks (a + 1) n in
      let s = same a in
      omega arith

  pub at_in_block : (a n i j : ℕ) (d : X) → i < n → j < c → get_or (flat_map f (range_with_len a n)) (i * c + j) d ≡ get_or (f (a + i)) j d
  at_in_block a zero i j d l k = absurd (omega arith)
  at_in_block a (suc n) zero j d l k =
      let s = same a in
      let e : zero * c + j ≡ j = omega arith in
      let r : a ≡ a + zero = omega arith in
      ap (λ p. get_or (f a ++ flat_map f (range_with_len (a + 1) n)) p d) e
      ∙ (get_or_append_left (f a) (flat_map f (range_with_len (a + 1) n)) d j (omega arith)
      ∙ ap (λ p. get_or (f p) j d) r)
  at_in_block a (suc n) (suc i) j d l k =
      let s = same a in
      let e : suc i * c + j ≡ length (f a) + (i * c + j) = omega arith in
      let r : a + 1 + i ≡ a + suc i = omega arith in
      ap (λ p. get_or (f a ++ flat_map f (range_with_len (a + 1) n)) p d) e
      ∙ (get_or-append-add (f a) (flat_map f (range_with_len (a + 1) n)) (i * c + j) d
      ∙ (at_in_block (a + 1) n i j d (omega arith) k
      ∙ ap (λ p. get_or (f p) j d) r))

pub length-row_major : (ns : List ℤ) → length (row_major ns) ≡ cell_count ns
length-row_major [] = refl
length-row_major (n ∷ ns) =
    length_of_blocks (λ i. map (λ t. i ∷ t) (row_major ns)) (cell_count ns) (λ i. length-map (row_major ns) (λ t. i ∷ t) ∙ length-row_major ns) 0 (places_of n)

-- the indices of a place: the first tells which part of the cells, the others the place in it
pub row_major-at : (n : ℤ) (ns : List ℤ) (i j : ℕ) → i < places_of n → j < cell_count ns → get_or (row_major (n ∷ ns)) (i * cell_count ns + j) [] ≡ i ∷ get_or (row_major ns) j []
row_major-at n ns i j l k =
    let s = length-row_major ns in
    at_in_block (λ i. map (λ t. i ∷ t) (row_major ns)) (cell_count ns) (λ i. length-map (row_major ns) (λ t. i ∷ t) ∙ length-row_major ns) 0 (places_of n) i j [] l k
    ∙ (ap (λ q. get_or (map (λ t. q ∷ t) (row_major ns)) j []) (zero-add i)
    ∙ get_or-map (λ t. i ∷ t) (row_major ns) j [] [] (omega arith))

pub row_major-place : (n : ℤ) (ns : List ℤ) (p : ℕ) → 0 < cell_count ns → p < cell_count (n ∷ ns) → get_or (row_major (n ∷ ns)) p [] ≡ (p / cell_count ns) ∷ get_or (row_major ns) (p % cell_count ns) []
row_major-place n ns p h l =
    ap (λ q. get_or (row_major (n ∷ ns)) q []) (sym (div-add-mod' p (cell_count ns)))
    ∙ row_major-at n ns (p / cell_count ns) (p % cell_count ns) (div_below p (cell_count ns) (places_of n) h l) (mod_below p (cell_count ns) h)

pub cell_count-pos : (ns : List ℤ) → AllByRecursion IsSize ns → 0 < cell_count ns
cell_count-pos [] h = omega arith
cell_count-pos (pos n ∷ ns) h = mul-pos (omega (arith, ints, h.0)) (cell_count-pos ns h.1)
cell_count-pos (negsuc n ∷ ns) h = absurd (omega (arith, ints, h.0))

-- what a step over one size makes of the number of cells and of a place in them
pub record Step (n : ℤ) (ns : List ℤ) (span left size : ℕ) : Type 0 where
  pub rest : span / size ≡ cell_count ns
  pub some : 0 < cell_count ns
  pub indices : get_or (row_major (n ∷ ns)) left [] ≡ (left / (span / size)) ∷ get_or (row_major ns) (left % (span / size)) []

pub step : (n : ℤ) (ns : List ℤ) (span left size : ℕ) → IsSize n → AllByRecursion IsSize ns → span ≡ cell_count (n ∷ ns) → left < span → size ≡ places_of n → Step n ns span left size
step (pos m) ns span left size h hs e l k =
    let c = cell_count-pos ns hs in
    let p : 0 < m = omega (arith, ints) in
    let q : span / size ≡ cell_count ns = ap (λ s. s / size) e ∙ (ap (λ s. (m * cell_count ns) / s) k ∙ mul-div_cancel_left (cell_count ns) p) in
    record {
      rest = q;
      some = c;
      indices = row_major-place (pos m) ns left c (subst (λ s. left < s) e l) ∙ ap (λ s. (left / s) ∷ get_or (row_major ns) (left % s) []) (sym q);
    }
step (negsuc m) ns span left size h hs e l k = absurd (omega (arith, ints))

-- the domain of a cell, if it has one
abbrev pub here : Option (List Bounds) → List (List Bounds)
here None = []
here (Some d) = d ∷ []

pub defined-cons : (c : Option (List Bounds)) (cs : List (Option (List Bounds))) → defined (c ∷ cs) ≡ here c ++ defined cs
defined-cons None cs = refl
defined-cons (Some d) cs = refl

pub defined-append : (xs ys : List (Option (List Bounds))) → defined (xs ++ ys) ≡ defined xs ++ defined ys
defined-append [] ys = refl
defined-append (None ∷ xs) ys = defined-append xs ys
defined-append (Some d ∷ xs) ys = ap (λ ds. d ∷ ds) (defined-append xs ys)

pub length-here_some : (c : Option (List Bounds)) → is_some c ≡ true → length (here c) ≡ 1
length-here_some None h = cc
length-here_some (Some d) h = refl

pub length-here_none : (c : Option (List Bounds)) → is_some c ≡ false → length (here c) ≡ 0
length-here_none None h = refl
length-here_none (Some d) h = cc

module _ (cells : List (Option (List Bounds))) (p : ℕ) (c : Option (List Bounds)) where
  pub defined-take_more : p < length cells → c ≡ get_or cells p c → length (defined (take (p + 1) cells)) ≡ length (defined (take p cells)) + length (here c)
  defined-take_more l e =
      let t : take (p + 1) cells ≡ take p cells ++ c ∷ [] = (take_at_read cells p c l).1 ∙ ap (λ x. take p cells ++ x ∷ []) (sym e) in
      let d = defined-append (take p cells) (c ∷ []) in
      let o = defined-cons c [] in
      let a = length-append (defined (take p cells)) (defined (c ∷ [])) in
      let b = length-append (here c) [] in
      omega (arith, ap (λ xs. length (defined xs)) t, ap length d, ap length o)

  pub defined-drop_more : p < length cells → c ≡ get_or cells p c → length (defined (drop p cells)) ≡ length (here c) + length (defined (drop (p + 1) cells))
  defined-drop_more l e =
      let t : drop p cells ≡ c ∷ drop (p + 1) cells = drop_more cells p c l ∙ ap (λ x. x ∷ drop (p + 1) cells) (sym e) in
      let o = defined-cons c (drop (p + 1) cells) in
      let a = length-append (here c) (defined (drop (p + 1) cells)) in
      omega (arith, ap (λ xs. length (defined xs)) t, ap length o)

-- as many words as there are defined cells
pub length-cell_words : (name : List ℕ) (ts : List (List ℕ)) (cells : List (Option (List Bounds))) → length cells ≤ length ts → length (cell_words name ts cells) ≡ length (defined cells)
length-cell_words name [] [] l = refl
length-cell_words name [] (c ∷ cells) l = absurd (omega arith)
length-cell_words name (t ∷ ts) [] l = refl
length-cell_words name (t ∷ ts) (None ∷ cells) l = length-cell_words name ts cells (omega arith)
length-cell_words name (t ∷ ts) (Some d ∷ cells) l = ap (λ n. suc n) (length-cell_words name ts cells (omega arith))

-- the word of a defined cell
pub cell_words-at : (name : List ℕ) (ts : List (List ℕ)) (cells : List (Option (List Bounds))) (p : ℕ) → length cells ≤ length ts → IsSome (get_or cells p None) → get_or (cell_words name ts cells) (length (defined (take p cells))) [] ≡ cell_word name (get_or ts p [])
cell_words-at name ts [] p l h = cc
cell_words-at name [] (c ∷ cells) p l h = absurd (omega arith)
cell_words-at name (t ∷ ts) (None ∷ cells) zero l h = cc
cell_words-at name (t ∷ ts) (None ∷ cells) (suc p) l h = cell_words-at name ts cells p (omega arith) h
cell_words-at name (t ∷ ts) (Some d ∷ cells) zero l h = refl
cell_words-at name (t ∷ ts) (Some d ∷ cells) (suc p) l h = cell_words-at name ts cells p (omega arith) h

-- a sound array
pub sound_array : (d : Decl) (name : List ℕ) (sizes : List ℤ) (cells : List (Option (List Bounds))) → d ≡ Array name sizes cells → IsSoundDecl d → IsSoundDecl (Array name sizes cells)
sound_array d name sizes cells e h = subst IsSoundDecl e h

pub length-words_of : (d : Decl) (name : List ℕ) (sizes : List ℤ) (cells : List (Option (List Bounds))) → d ≡ Array name sizes cells → IsSoundDecl d → length (words_of d) ≡ length (defined cells)
length-words_of d name sizes cells e h =
    let s = sound_array d name sizes cells e h in
    let r = length-row_major sizes in
    ap (λ x. length (words_of x)) e ∙ length-cell_words name (row_major sizes) cells (omega (arith, s.3))

-- the word of a variable of an array
pub words_of-at : (d : Decl) (name : List ℕ) (sizes : List ℤ) (cells : List (Option (List Bounds))) (nth p : ℕ) → d ≡ Array name sizes cells → IsSoundDecl d → IsDefinedPlace cells nth p → get_or (words_of d) nth [] ≡ cell_word name (get_or (row_major sizes) p [])
words_of-at d name sizes cells nth p e h place =
    let s = sound_array d name sizes cells e h in
    let r = length-row_major sizes in
    ap (λ x. get_or (words_of x) nth []) e
    ∙ (ap (λ n. get_or (cell_words name (row_major sizes) cells) n []) (sym place.1)
    ∙ cell_words-at name (row_major sizes) cells p (omega (arith, s.3)) place.0)

-- the step of the loop over the sizes
pub step_at : (sizes : List ℤ) (k span left size : ℕ) → k < length sizes → AllByRecursion IsSize (drop k sizes) → span ≡ cell_count (drop k sizes) → left < span → size ≡ places_of (get_or sizes k (pos 0)) → Step (get_or sizes k (pos 0)) (drop (k + 1) sizes) span left size
step_at sizes k span left size l h e r z =
    let d = drop_more sizes k (pos 0) l in
    let s = subst (AllByRecursion IsSize) d h in
    step (get_or sizes k (pos 0)) (drop (k + 1) sizes) span left size s.0 s.1 (e ∙ ap cell_count d) r z

pub rest_sizes : (sizes : List ℤ) (k : ℕ) → k < length sizes → AllByRecursion IsSize (drop k sizes) → IsSize (get_or sizes k (pos 0)) × AllByRecursion IsSize (drop (k + 1) sizes)
rest_sizes sizes k l h = subst (AllByRecursion IsSize) (drop_more sizes k (pos 0) l) h

pub magnitude_is : (z : ℤ) → IsSize z → nat_abs z ≡ places_of z
magnitude_is (pos n) h = refl
magnitude_is (negsuc n) h = absurd (omega (arith, ints))
