-- How many items fields have.
use Rattle.std.proofs.Common.{◌≡◌, ℕ, ◌+◌, ◌*◌, List, [], ◌∷◌, ◌++◌, length, map, refl, arith}
use Rattle.std.proofs.lemmas.List.{length-map, length-append}
use Rattle.std.specs.List.{flat_map}
use Rattle.xf_num.specs.Span.{Bounds}
use Rattle.xs_model.specs.declared.instance.Edge.{Edge}
use Rattle.xs_model.specs.declared.term.Occurrence.{Occurrence}
use Rattle.xs_model.specs.Fields.{Item, Field, Items, end_items, edge_items, occurrence_items}
use Rattle.xs_model.specs.Formed.{total, count_in}
use Rattle.xs_forms.specs.Seen.{seen, items_seen}
use Rattle.xs_forms.specs.declared.borrowed.FieldView.{FieldView as Borrowed}

pub total-append : (ms ns : List ℕ) → total (ms ++ ns) ≡ total ms + total ns
total-append [] ns = omega arith
total-append (m ∷ ms) ns = omega (arith, total-append ms ns)

pub count_in-append : (fs gs : List Field) → count_in (fs ++ gs) ≡ count_in fs + count_in gs
count_in-append [] gs = omega arith
count_in-append (f ∷ fs) gs = omega (arith, count_in-append fs gs)

-- rows, each of which is a field of as many items as it has members
pub count_in-rows : {X : Type 0} (f : X → Item) (rows : List (List X)) → count_in (map (λ row. Items (map f row)) rows) ≡ total (map length rows)
count_in-rows f [] = refl
count_in-rows f (row ∷ rows) = omega (arith, count_in-rows f rows, length-map row f)

-- each has so many items
pub length-of_each : {X : Type 0} (f : X → List Item) (n : ℕ) → ((x : X) → length (f x) ≡ n) → (xs : List X) → length (flat_map f xs) ≡ n * length xs
length-of_each f n each [] = omega arith
length-of_each f n each (x ∷ xs) = omega (arith, length-of_each f n each xs, each x, length-append (f x) (flat_map f xs))

pub length-ends : (bs : List Bounds) → length (flat_map end_items bs) ≡ 2 * length bs
length-ends bs = length-of_each end_items 2 (λ b. refl) bs

pub length-edges : (es : List Edge) → length (flat_map edge_items es) ≡ 3 * length es
length-edges es = length-of_each edge_items 3 (λ e. refl) es

pub length-occurrences : (os : List Occurrence) → length (flat_map occurrence_items os) ≡ total (map (λ o. length (occurrence_items o)) os)
length-occurrences [] = refl
length-occurrences (o ∷ os) = omega (arith, length-occurrences os, length-append (occurrence_items o) (flat_map occurrence_items os))

-- the fields that borrowed fields stand for have as many items
pub count_in-seen : (fs : List Borrowed) → count_in (flat_map seen fs) ≡ total (map items_seen fs)
count_in-seen [] = refl
count_in-seen (f ∷ fs) = omega (arith, count_in-append (seen f) (flat_map seen fs), count_in-seen fs)
