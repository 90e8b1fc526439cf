-- The variables that a text denotes are declared.
use Rattle.std.proofs.Common.{ℕ, zero, suc, ◌+◌, ◌<◌, ◌≤◌, Bool, true, false, if◌then◌else◌, List, [], ◌∷◌, ◌++◌, Option, None, Some, IfSome, Result, Err, get_or, arith}
use Rattle.std.specs.List.{AllByRecursion, filter_map, cons_option, flat_map}
use Rattle.xs_fields.specs.Cells.{are_inside, covered_places, declared_at, reached_at, unless_none, variables_at, variables_in as variables_told, variables_of, vars_of}
use Rattle.xs_fields.specs.Variables.{is_direct, word_of}
use Rattle.xs_fields.specs.Words.{words_of}
use Rattle.xs_fields.specs.declared.condition.Condition.{Condition}
use Rattle.xs_fields.specs.declared.condition.Condition.TheVariants.{Naming}
use Rattle.xs_fields.specs.declared.variable.Word.{Word}
use Rattle.xs_model.specs.Outline.{Outline, cell_numbers, defined_count, number_cells, numbers_from, sizes_at, variables_in}

abbrev Below : ℕ → Option ℕ → Type 0
Below most x = IfSome x (λ v. v < most)

abbrev AllBelow : ℕ → List ℕ → Type 0
AllBelow most vs = AllByRecursion (λ v. v < most) vs

-- the numbers of the cells
cells_below : (most n : ℕ) (cells : List Bool) → n + defined_count cells ≤ most → AllByRecursion (Below most) (number_cells n cells)
cells_below most n [] h = tt
cells_below most n (true ∷ cells) h = (omega (arith, h), cells_below most (n + 1) cells (omega (arith, h)))
cells_below most n (false ∷ cells) h = (tt, cells_below most n cells h)

from_below : (most n : ℕ) (os : List Outline) → n + variables_in os ≤ most → AllByRecursion (λ row. AllByRecursion (Below most) row) (numbers_from n os)
from_below most n [] h = tt
from_below most n (o ∷ os) h = (cells_below most n o.cells (omega (arith, h)), from_below most (n + defined_count o.cells) os (omega (arith, h)))

one_of : {A : Type 0} (P : A → Type 0) (xs : List A) (at : ℕ) (other : A) → P other → AllByRecursion P xs → P (get_or xs at other)
one_of P [] at other h all = h
one_of P (x ∷ xs) zero other h all = all.0
one_of P (x ∷ xs) (suc at) other h all = one_of P xs at other h all.1

kept_below : (most : ℕ) (x : Option ℕ) (vs : List ℕ) → Below most x → AllBelow most vs → AllBelow most (cons_option x vs)
kept_below most None vs h all = all
kept_below most (Some v) vs h all = (h, all)

at_below : (most : ℕ) (row : List (Option ℕ)) (places : List ℕ) → AllByRecursion (Below most) row → AllBelow most (filter_map (λ p. get_or row p None) places)
at_below most row [] h = tt
at_below most row (p ∷ ps) h = kept_below most (get_or row p None) (filter_map (λ q. get_or row q None) ps) (one_of (Below most) row p None tt h) (at_below most row ps h)

some_below : (most : ℕ) (test : Bool) (vs : List ℕ) → AllBelow most vs → AllBelow most (variables_told (unless_none test vs))
some_below most true [] h = tt
some_below most true (v ∷ vs) h = h
some_below most false vs h = h

if_below : (most : ℕ) (test : Bool) (r : Result (List ℕ) Condition) → AllBelow most (variables_told r) → AllBelow most (variables_told (if test then r else Err Naming))
if_below most true r h = h
if_below most false r h = tt

reached_below : (os : List Outline) (word : Word) (at : Option ℕ) → AllBelow (variables_in os) (variables_told (reached_at os word at))
reached_below os word None = tt
reached_below os word (Some at) =
    let most = variables_in os in
    let row = one_of (λ row. AllByRecursion (Below most) row) (numbers_from 0 os) at [] tt (from_below most 0 os (omega arith)) in
    let vs = variables_at os at (covered_places (sizes_at os at) word.brackets) in
    if_below most (are_inside (sizes_at os at) word.brackets) (unless_none (is_direct word) vs) (some_below most (is_direct word) vs (at_below most (cell_numbers os at) (covered_places (sizes_at os at) word.brackets) row))

all_append : {A : Type 0} (P : A → Type 0) (xs ys : List A) → AllByRecursion P xs → AllByRecursion P ys → AllByRecursion P (xs ++ ys)
all_append P [] ys h g = g
all_append P (x ∷ xs) ys h g = (h.0, all_append P xs ys h.1 g)

words_below : (os : List Outline) (words : List (List ℕ)) → AllBelow (variables_in os) (flat_map (variables_of os) words)
words_below os [] = tt
words_below os (w ∷ ws) = all_append (λ v. v < variables_in os) (variables_of os w) (flat_map (variables_of os) ws) (reached_below os (word_of w) (declared_at os (word_of w).name)) (words_below os ws)

pub vars_below : (os : List Outline) (text : List ℕ) → AllByRecursion (λ v. v < variables_in os) (vars_of os text)
vars_below os text = words_below os (words_of text)
