-- The array that is declared is sound.
use Rattle.std.proofs.Common.{◌≡◌, ℕ, zero, suc, ◌+◌, ◌<◌, ◌≤◌, Bool, true, false, not, ◌&&◌, nat_le, List, [], ◌∷◌, ◌++◌, drop, length, map, sum, replicate, ℤ, Option, None, Some, is_some, Result, Ok, Err, IfOk, codes, refl, ap, sym, subst, ◌∙◌, arith, if◌then◌else◌}
use Rattle.std.specs.List.{AllByRecursion, flat_map, fold, list_all, list_any, range_with_len}
use Rattle.std.proofs.lemmas.Bool.{false≢true}
use Rattle.std.proofs.lemmas.List.{length-replicate}
use Rattle.std.proofs.lemmas.List.FromFn.{length-map-range_with_len}
use borrow.Author.Tests.{leb-true}
use Rattle.xf_markup.specs.declared.tree.Node.{Node}
use Rattle.xf_num.specs.Span.{Bounds}
use Rattle.xs_fields.specs.Conditions.{judged, meets}
use Rattle.xs_fields.specs.Integers.{is_small}
use Rattle.xs_fields.specs.Sizes.{brackets_of, front_meets, size_list, size_meets as part_meets, size_of, sizes_of, value_list}
use Rattle.xs_fields.specs.Words.{is_byte, parts}
use Rattle.xs_fields.specs.declared.condition.Condition.{Condition}
use Rattle.xs_fields.specs.declared.condition.Condition.TheVariants.{Spelling, Magnitude, Naming, Counting, Fitting}
use Rattle.xs_fields.proofs.IntegerLemmas.{and_left, and_right}
use Rattle.xs_model.specs.Identifier.{IsIdentifier, is_letter, is_word}
use Rattle.xs_model.specs.declared.decl.Decl.{Decl}
use Rattle.xs_model.specs.declared.decl.Decl.TheVariants.{One, Array}
use Rattle.xs_model.specs.Names.{defined}
use Rattle.xs_model.specs.Sound.{IsSoundDecl, IsSoundDomain, cell_count, most_cells, most_items, names_of, values_of}
use Rattle.xs_var.specs.declared.counted.Counted.{Counted}
use Rattle.xs_var.specs.Elements.{children_of, is_one_of, text_in, text_or_none, value_in}
use Rattle.xs_var.specs.Like.{declaration, has_domain, one_domain}
use Rattle.xs_var.specs.Taken.{IsSoundTaken}
use Rattle.xs_var.specs.VarDomain.{text_domain, values_in}
use Rattle.xs_var.specs.VarUnit.{Declared}
use Rattle.xs_var.specs.Variable.{id_meets, is_earlier, is_new, names_meet}
use Rattle.xs_array.specs.ArrayUnit.{size_meets}
use Rattle.xs_array.specs.Cells.{are_positive, array_cells, cells_by, cells_from, cells_like, cells_named, is_content_full, is_same_list, one_for_all, stated_sizes}
use Rattle.xs_array.specs.DomainChild.{cell_at, named_by, names_place}
use Rattle.xs_array.specs.Reading.{with_content}
use Rattle.xs_array.proofs.CountLemmas.{are_sizes}
use Rattle.xs_array.proofs.DomainLemmas.{IsSoundCell, text_sound}
use Rattle.xs_array.proofs.FieldLemmas.{parts_met}
use Rattle.xs_fields.proofs.FirstLemmas.{met_at}
use Rattle.xs_array.proofs.OwnerLemmas.{all_given, all_map}
use Rattle.xs_array.proofs.TakenLemmas.{IsClear, declared_sound, same_sizes}

identifier_of : (v : Option (List ℕ)) → id_meets v Spelling ≡ true → IsIdentifier (text_or_none v)
identifier_of None h = absurd (false≢true h)
identifier_of (Some []) h = absurd (false≢true h)
identifier_of (Some (b ∷ bs)) h = (and_left (is_letter b) (list_all is_word bs) h, and_right (is_letter b) (list_all is_word bs) h)

new_name : (names : List (List ℕ)) (v : Option (List ℕ)) → id_meets v Spelling ≡ true → is_new names v ≡ true → is_one_of names (text_or_none v) ≡ false
new_name names None h g = absurd (false≢true h)
new_name names (Some id) h g = by (is_one_of names id) g
  where
    by : (b : Bool) → not b ≡ true → b ≡ false
    by true e = absurd (false≢true e)
    by false e = refl

size_some : (p : List ℕ) (more : List ℤ) → ((k : Condition) → part_meets p k ≡ true) → 0 < length (size_list p ++ more)
size_some p more h = by (size_of p) h
  where
    small : (z : ℤ) (v : Bool) → is_small z ≡ v → v ≡ true → 0 < length (value_list (if v then Ok z else Err Magnitude) ++ more)
    small z true e g = omega arith
    small z false e g = absurd (false≢true g)

    by : (o : Option ℤ) → ((k : Condition) → meets is_small o k ≡ true) → 0 < length (value_list (judged is_small o) ++ more)
    by None g = absurd (false≢true (g Spelling))
    by (Some z) g = small z (is_small z) refl (g Magnitude)

parts_some : (ps : List (List ℕ)) → front_meets ps Spelling ≡ true → ((k : Condition) → list_all (λ w. part_meets w k) (drop 1 ps) ≡ true) → 0 < length (flat_map size_list (drop 1 ps))
parts_some [] h g = absurd (false≢true h)
parts_some ([] ∷ []) h g = absurd (false≢true h)
parts_some ((x ∷ xs) ∷ ps) h g = absurd (false≢true h)
parts_some ([] ∷ p ∷ ps) h g = size_some p (flat_map size_list ps) (λ k. and_left (part_meets p k) (list_all (λ w. part_meets w k) ps) (g k))

sizes_some : (v : Option (List ℕ)) → ((k : Condition) → size_meets v k ≡ true) → 0 < length (sizes_of (text_or_none v))
sizes_some None h = absurd (false≢true (h Spelling))
sizes_some (Some text) h =
    parts_some (parts (is_byte 91) text) (and_left (front_meets (parts (is_byte 91) text) Spelling) (list_all (λ w. part_meets w Spelling) (brackets_of text)) (h Spelling))
    (λ k. and_right (front_meets (parts (is_byte 91) text) k) (list_all (λ w. part_meets w k) (brackets_of text)) (h k))

-- as many cells as places, and sound domains
pub record AreSoundCells (sizes : List ℤ) (cells : List (Option (List Bounds))) : Type 0 where
  pub count : length cells ≡ cell_count sizes
  pub domains : AllByRecursion IsSoundDomain (defined cells)

defined_sound : (cells : List (Option (List Bounds))) → AllByRecursion IsSoundCell cells → AllByRecursion IsSoundDomain (defined cells)
defined_sound [] h = tt
defined_sound (None ∷ cells) h = defined_sound cells h.1
defined_sound (Some d ∷ cells) h = (h.0, defined_sound cells h.1)

all_replicate : (k : ℕ) (cell : Option (List Bounds)) → IsSoundCell cell → AllByRecursion IsSoundCell (replicate k cell)
all_replicate zero cell h = tt
all_replicate (suc k) cell h = (h, all_replicate k cell h)

equal_sound : (sizes : List ℤ) (cell : Option (List Bounds)) → IsSoundCell cell → AreSoundCells sizes (replicate (cell_count sizes) cell)
equal_sound sizes cell h = record { count = length-replicate (cell_count sizes) cell; domains = defined_sound (replicate (cell_count sizes) cell) (all_replicate (cell_count sizes) cell h) }

cell_sound : (sizes : List ℤ) (ns : List Node) (p : ℕ) → IsSoundCell (cell_at (map (named_by sizes) ns) p)
cell_sound sizes [] p = tt
cell_sound sizes (n ∷ ns) p = by (names_place (named_by sizes n) p) (cell_sound sizes ns p)
  where
    by : (v : Bool) → IsSoundCell (cell_at (map (named_by sizes) ns) p) → IsSoundCell (if v then text_domain (text_in n.pieces) else cell_at (map (named_by sizes) ns) p)
    by true h = text_sound (text_in n.pieces)
    by false h = h

named_sound : (sizes : List ℤ) (ns : List Node) (text : List ℕ) → AreSoundCells sizes (cells_named sizes (map (named_by sizes) ns) text)
named_sound sizes [] text = equal_sound sizes (text_domain text) (text_sound text)
named_sound sizes (n ∷ ns) text = record {
  count = length-map-range_with_len (cell_at (map (named_by sizes) (n ∷ ns))) 0 (cell_count sizes);
  domains = defined_sound (map (cell_at (map (named_by sizes) (n ∷ ns))) (range_with_len 0 (cell_count sizes))) (all_map IsSoundCell (cell_at (map (named_by sizes) (n ∷ ns))) (range_with_len 0 (cell_count sizes)) (all_given (λ p. IsSoundCell (cell_at (map (named_by sizes) (n ∷ ns)) p)) (cell_sound sizes (n ∷ ns)) (range_with_len 0 (cell_count sizes))));
}

-- cells, where there are some
abbrev AreSound : List ℤ → Option (List (Option (List Bounds))) → Type 0
AreSound sizes None = Unit {0}
AreSound sizes (Some cells) = AreSoundCells sizes cells

one_sound : (sizes : List ℤ) (o : Option (List Bounds)) → IsSoundCell o → AreSound sizes (one_for_all sizes o)
one_sound sizes None h = tt
one_sound sizes (Some d) h = equal_sound sizes (Some d) h

single_sound : (cells : List (Option (List Bounds))) → AllByRecursion IsSoundDomain (defined cells) → IsSoundCell (one_domain cells)
single_sound [] h = tt
single_sound (None ∷ cells) h = tt
single_sound (Some d ∷ cells) h = by (list_all (has_domain d) cells)
  where
    by : (v : Bool) → IsSoundCell (if v then Some d else None)
    by true = h.0
    by false = tt

like_sound : (sizes : List ℤ) (d : Decl) → IsSoundDecl d → AreSound sizes (cells_like sizes d)
like_sound sizes (One name domain) h = equal_sound sizes (Some domain) h.1
like_sound sizes (Array name others cells) h = by (is_same_list sizes others) refl
  where
    by : (v : Bool) → is_same_list sizes others ≡ v → AreSound sizes (if v then Some cells else one_for_all sizes (one_domain cells))
    by true e = record { count = h.3 ∙ ap cell_count (sym (same_sizes sizes others e)); domains = h.5 }
    by false e = one_sound sizes (one_domain cells) (single_sound cells h.5)

cells_sound : (ds : List Decl) (like : Option (List ℕ)) (n : Node) → AllByRecursion IsSoundDecl ds → AreSound (stated_sizes n) (cells_by ds like n)
cells_sound ds None n h = named_sound (stated_sizes n) (children_of n.pieces) (text_in n.pieces)
cells_sound ds (Some like) n h = by (declaration ds like) refl
  where
    by : (o : Option Decl) → declaration ds like ≡ o → AreSound (stated_sizes n) (cells_from (stated_sizes n) o)
    by None e = tt
    by (Some d) e = like_sound (stated_sizes n) d (declared_sound ds like d h e)

some_defined : (cells : List (Option (List Bounds))) → list_any is_some cells ≡ true → 0 < length (defined cells)
some_defined [] h = absurd (false≢true h)
some_defined (None ∷ cells) h = some_defined cells h
some_defined (Some d ∷ cells) h = omega arith

values_onto : (a : ℕ) (cells : List (Option (List Bounds))) → fold ◌+◌ a (map values_in cells) ≡ fold ◌+◌ a (map values_of (defined cells))
values_onto a [] = refl
values_onto a (None ∷ cells) = let same : a + 0 ≡ a = omega arith in ap (λ (b : ℕ). fold ◌+◌ b (map values_in cells)) same ∙ values_onto a cells
values_onto a (Some d ∷ cells) = values_onto (a + values_of d) cells

values_defined : (cells : List (Option (List Bounds))) → sum (map values_in cells) ≡ sum (map values_of (defined cells))
values_defined cells = values_onto 0 cells

-- what is declared is sound, and new
pub sound_with : (s : Declared) (n : Node) (r : Result Counted Condition) → IsClear s n → AllByRecursion IsSoundDecl s.decls → are_positive (stated_sizes n) ≡ true → s.cells + cell_count (stated_sizes n) ≤ most_cells → r ≡ with_content (text_or_none (value_in (codes "id") n.attrs)) (stated_sizes n) (array_cells s.decls n) (is_content_full (value_in (codes "as") n.attrs) n) (s.cells + cell_count (stated_sizes n)) s.values → IfOk r (λ c. IsSoundTaken s c)
sound_with s n r c decls positive few is = subst (λ (q : Result Counted Condition). IfOk q (λ c. IsSoundTaken s c)) (sym is) (by (array_cells s.decls n) (cells_sound s.decls (value_in (codes "as") n.attrs) n decls))
  where
    full : Bool
    full = is_content_full (value_in (codes "as") n.attrs) n

    name : List ℕ
    name = text_or_none (value_in (codes "id") n.attrs)

    id_met : id_meets (value_in (codes "id") n.attrs) Spelling ≡ true
    id_met = (parts_met n c.fields).id Spelling

    is_new_name : is_one_of (names_of s.decls) name ≡ false
    is_new_name = new_name (names_of s.decls) (value_in (codes "id") n.attrs) id_met (and_left (is_new (names_of s.decls) (value_in (codes "id") n.attrs)) (is_earlier (names_of s.decls) (value_in (codes "as") n.attrs)) (met_at (names_meet (names_of s.decls) n) c.named Naming))

    items_by : (items : List (Option (List Bounds))) → AreSoundCells (stated_sizes n) items → (v w : Bool) → nat_le (s.values + sum (map values_in items)) most_items ≡ v → (full && list_any is_some items) ≡ w → IfOk (if v then (if w then Ok (record { decl = Array name (stated_sizes n) items; cells = s.cells + cell_count (stated_sizes n); values = s.values + sum (map values_in items) }) else Err Fitting) else Err Counting) (λ c. IsSoundTaken s c)
    items_by items sound false w g h = tt
    items_by items sound true false g h = tt
    items_by items sound true true g h = record {
      decl = (identifier_of (value_in (codes "id") n.attrs) id_met, sizes_some (value_in (codes "size") n.attrs) (parts_met n c.fields).size, are_sizes (stated_sizes n) positive, sound.count, some_defined items (and_right full (list_any is_some items) h), sound.domains);
      new = is_new_name;
      cells = ap (λ k. s.cells + k) (sym sound.count);
      values = ap (λ k. s.values + k) (values_defined items);
      few_cells = few;
      few_values = leb-true (s.values + sum (map values_in items)) most_items g;
    }

    by : (o : Option (List (Option (List Bounds)))) → AreSound (stated_sizes n) o → IfOk (with_content name (stated_sizes n) o full (s.cells + cell_count (stated_sizes n)) s.values) (λ c. IsSoundTaken s c)
    by None h = tt
    by (Some items) h = items_by items h (nat_le (s.values + sum (map values_in items)) most_items) (full && list_any is_some items) refl refl
