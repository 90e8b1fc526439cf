-- What a table of names says of the outlines that it is seen as.
use Rattle.std.proofs.Common.{◌≡◌, ℕ, zero, suc, ◌+◌, ◌<◌, ◌^◌, List, [], ◌∷◌, ◌++◌, Some, Bool, true, false, length, map, get_or, slice_get, is_some, refl, sym, ap, ◌∙◌, subst, arith, zero-add, ℤ}
use Rattle.std.specs.List.{AllByRecursion}
use Rattle.std.proofs.lemmas.List.{length-map}
use Rattle.xs_model.specs.declared.decl.Decl.{Decl}
use Rattle.xs_model.specs.declared.decl.Decl.TheVariants.{One as OneDecl, Array as ArrayDecl}
use Rattle.xs_model.specs.declared.table.Entry.{Entry}
use Rattle.xs_model.specs.Outline.{Outline, outline_of, names_in, defined_count, variables_in, number_cells, numbers_from, cell_numbers, sizes_at, IsNamed, IsSoundOutline}
use Rattle.xs_model.specs.Sound.{IsSize, cell_count, IsSoundDecl, name_of}
use Rattle.xs_model.specs.Table.{sizes_of, numbers_of, outline_at, outlines, IsTable, IsAddressable, HasName}

pub names_are : (rows : List (List ℕ × Entry)) → names_in (outlines rows) ≡ map (λ r. r.0) rows
names_are [] = refl
names_are (r ∷ rows) = ap (λ ns. r.0 ∷ ns) (names_are rows)

pub named : (rows : List (List ℕ × Entry)) (at : ℕ) (name : List ℕ) → HasName rows at name → IsNamed (outlines rows) at name
named rows at name h = subst (λ ns. slice_get ns at ≡ Some name) (sym (names_are rows)) h

pub has_name : (rows : List (List ℕ × Entry)) (at : ℕ) (name : List ℕ) → IsNamed (outlines rows) at name → HasName rows at name
has_name rows at name h = subst (λ ns. slice_get ns at ≡ Some name) (names_are rows) h

pub sizes_are : (rows : List (List ℕ × Entry)) (at : ℕ) (e : Entry) → slice_get (map (λ r. r.1) rows) at ≡ Some e → sizes_of e ≡ sizes_at (outlines rows) at
sizes_are [] at e h = cc
sizes_are (r ∷ rows) zero e h = let s : r.1 ≡ e = cc in ap sizes_of (sym s)
sizes_are (r ∷ rows) (suc at) e h = sizes_are rows at e h

entry_numbers : (rows : List (List ℕ × Entry)) (at : ℕ) (e : Entry) → slice_get (map (λ r. r.1) rows) at ≡ Some e → numbers_of e ≡ get_or (map (λ r. numbers_of r.1) rows) at []
entry_numbers [] at e h = cc
entry_numbers (r ∷ rows) zero e h = let s : r.1 ≡ e = cc in ap numbers_of (sym s)
entry_numbers (r ∷ rows) (suc at) e h = entry_numbers rows at e h

pub numbers_are : (rows : List (List ℕ × Entry)) (next at : ℕ) (e : Entry) → IsTable rows next → slice_get (map (λ r. r.1) rows) at ≡ Some e → numbers_of e ≡ cell_numbers (outlines rows) at
numbers_are rows next at e t h = entry_numbers rows at e h ∙ ap (λ ns. get_or ns at []) t.numbers

-- what is asked of every outline, of one of them
pub outline_within : (P : Outline → Type 0) (os : List Outline) (at : ℕ) → at < length os → AllByRecursion P os → (o : Outline) × ((slice_get os at ≡ Some o) × P o)
outline_within P [] at l h = absurd (omega arith)
outline_within P (o ∷ os) zero l h = (o, (refl, h.0))
outline_within P (o ∷ os) (suc at) l h = outline_within P os at (omega arith) h.1

pub sizes_of_outline : (os : List Outline) (at : ℕ) (o : Outline) → slice_get os at ≡ Some o → sizes_at os at ≡ o.sizes
sizes_of_outline [] at o h = cc
sizes_of_outline (x ∷ os) zero o h = let s : x ≡ o = cc in ap (λ y. y.sizes) s
sizes_of_outline (x ∷ os) (suc at) o h = sizes_of_outline os at o h

pub length-outlines : (rows : List (List ℕ × Entry)) → length (outlines rows) ≡ length rows
length-outlines rows = length-map rows outline_at

pub sound_sizes : (os : List Outline) (at : ℕ) → at < length os → AllByRecursion IsSoundOutline os → AllByRecursion IsSize (sizes_at os at)
sound_sizes os at l h =
    let o = outline_within IsSoundOutline os at l h in
    subst (AllByRecursion IsSize) (sym (sizes_of_outline os at o.0 o.1.0)) o.1.1.sizes

pub few_cells : (os : List Outline) (at : ℕ) → at < length os → AllByRecursion IsSoundOutline os → AllByRecursion IsAddressable os → cell_count (sizes_at os at) < 2 ^ 64
few_cells os at l h f =
    let o = outline_within IsSoundOutline os at l h in
    let p = outline_within IsAddressable os at l f in
    let same : o.0 ≡ p.0 = cc (o.1.0, p.1.0) in
    omega (arith, ap cell_count (sizes_of_outline os at o.0 o.1.0), o.1.1.cells, p.1.1, ap (λ x. length x.cells) same)

-- one more declaration
pub numbers_from-push : (n : ℕ) (os : List Outline) (o : Outline) → numbers_from n (os ++ o ∷ []) ≡ numbers_from n os ++ number_cells (n + variables_in os) o.cells ∷ []
numbers_from-push n [] o = ap (λ m. number_cells m o.cells ∷ []) (omega arith)
numbers_from-push n (p ∷ os) o =
    ap (λ ns. number_cells n p.cells ∷ ns) (numbers_from-push (n + defined_count p.cells) os o ∙ ap (λ m. numbers_from (n + defined_count p.cells) os ++ number_cells m o.cells ∷ []) (omega arith))

pub variables_in-push : (os : List Outline) (o : Outline) → variables_in (os ++ o ∷ []) ≡ variables_in os + defined_count o.cells
variables_in-push [] o = omega arith
variables_in-push (p ∷ os) o = let h = variables_in-push os o in omega arith

pub outlines-push : (rows : List (List ℕ × Entry)) (r : List ℕ × Entry) → outlines (rows ++ r ∷ []) ≡ outlines rows ++ outline_at r ∷ []
outlines-push [] r = refl
outlines-push (x ∷ rows) r = ap (λ os. outline_at x ∷ os) (outlines-push rows r)

numbers-push : (rows : List (List ℕ × Entry)) (r : List ℕ × Entry) → map (λ x. numbers_of x.1) (rows ++ r ∷ []) ≡ map (λ x. numbers_of x.1) rows ++ numbers_of r.1 ∷ []
numbers-push [] r = refl
numbers-push (x ∷ rows) r = ap (λ ns. numbers_of x.1 ∷ ns) (numbers-push rows r)

all-push : (P : Outline → Type 0) (os : List Outline) (o : Outline) → AllByRecursion P os → P o → AllByRecursion P (os ++ o ∷ [])
all-push P [] o h p = (p, tt)
all-push P (x ∷ os) o h p = (h.0, all-push P os o h.1 p)

pub is_some-numbers : (n : ℕ) (cells : List Bool) → map is_some (number_cells n cells) ≡ cells
is_some-numbers n [] = refl
is_some-numbers n (true ∷ cells) = ap (λ cs. true ∷ cs) (is_some-numbers (n + 1) cells)
is_some-numbers n (false ∷ cells) = ap (λ cs. false ∷ cs) (is_some-numbers n cells)

pub sound_outline : (d : Decl) → IsSoundDecl d → IsSoundOutline (outline_of d)
sound_outline (OneDecl name domain) h = record { identifier = h.0; sizes = tt; cells = refl }
sound_outline (ArrayDecl name sizes cells) h = record { identifier = h.0; sizes = h.2; cells = length-map cells is_some ∙ h.3 }

abbrev made : List ℕ → List ℤ → List Bool → Outline
made n z c = record { name = n; sizes = z; cells = c }

pub outline_is : (d : Decl) (n : ℕ) (e : Entry) → numbers_of e ≡ number_cells n (outline_of d).cells → sizes_of e ≡ (outline_of d).sizes → outline_at (name_of d, e) ≡ outline_of d
outline_is d n e h s = named_outline (name_of d) (outline_of d) (name_is d) (sizes_of e) (map is_some (numbers_of e)) s (ap (map is_some) h ∙ is_some-numbers n (outline_of d).cells)
  where
    name_is : (x : Decl) → name_of x ≡ (outline_of x).name
    name_is (OneDecl name domain) = refl
    name_is (ArrayDecl name sizes cells) = refl

    named_outline : (name : List ℕ) (o : Outline) → name ≡ o.name → (sizes : List ℤ) (cells : List Bool) → sizes ≡ o.sizes → cells ≡ o.cells → record { name = name; sizes = sizes; cells = cells } ≡ o
    named_outline name o p sizes cells q r =
        ap (λ n. made n sizes cells) p ∙ (ap (λ z. made o.name z cells) q ∙ ap (λ c. made o.name o.sizes c) r)

pub table-push : (rows : List (List ℕ × Entry)) (next : ℕ) (d : Decl) (e : Entry) → IsTable rows next → IsSoundDecl d → length (outline_of d).cells < 2 ^ 64 → numbers_of e ≡ number_cells next (outline_of d).cells → sizes_of e ≡ (outline_of d).sizes → IsTable (rows ++ (name_of d, e) ∷ []) (next + defined_count (outline_of d).cells)
table-push rows next d e t h f n s =
    let o : outlines (rows ++ (name_of d, e) ∷ []) ≡ outlines rows ++ outline_of d ∷ [] = outlines-push rows (name_of d, e) ∙ ap (λ x. outlines rows ++ x ∷ []) (outline_is d next e n s) in
    record {
      numbers =
          numbers-push rows (name_of d, e)
          ∙ (ap (λ ns. ns ++ numbers_of e ∷ []) t.numbers
          ∙ (ap (λ m. numbers_from 0 (outlines rows) ++ m ∷ []) (n ∙ ap (λ k. number_cells k (outline_of d).cells) (t.count ∙ sym (zero-add (variables_in (outlines rows)))))
          ∙ (sym (numbers_from-push 0 (outlines rows) (outline_of d))
          ∙ ap (numbers_from 0) (sym o))));
      count = ap (λ k. k + defined_count (outline_of d).cells) t.count ∙ (sym (variables_in-push (outlines rows) (outline_of d)) ∙ ap variables_in (sym o));
      sound = subst (AllByRecursion IsSoundOutline) (sym o) (all-push IsSoundOutline (outlines rows) (outline_of d) t.sound (sound_outline d h));
      few = subst (AllByRecursion IsAddressable) (sym o) (all-push IsAddressable (outlines rows) (outline_of d) t.few f);
    }

pub outlines_are : (rows new : List (List ℕ × Entry)) (next : ℕ) (d : Decl) (e : Entry) → new ≡ rows ++ (name_of d, e) ∷ [] → numbers_of e ≡ number_cells next (outline_of d).cells → sizes_of e ≡ (outline_of d).sizes → outlines new ≡ outlines rows ++ outline_of d ∷ []
outlines_are rows new next d e h n s = ap outlines h ∙ (outlines-push rows (name_of d, e) ∙ ap (λ x. outlines rows ++ x ∷ []) (outline_is d next e n s))
