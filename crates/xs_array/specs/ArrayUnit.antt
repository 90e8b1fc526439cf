-- The unit of an `array` with its `domain` children (XCSP3-core, "Arrays of variables"): its conditions, and the
-- declaration that it makes.
use Rattle.std.specs.Prelude.{ℕ, ◌+◌, Bool, false, ◌&&◌, nat_le, ℤ, List, [], ◌∷◌, ◌++◌, map, sum, Option, None, Some, codes}
use Rattle.std.specs.List.{list_all}
use Rattle.xf_markup.specs.declared.tree.Node.{Node}
use Rattle.xf_num.specs.Span.{Bounds}
use Rattle.xs_fields.specs.Lists.{pieces_meet}
use Rattle.xs_fields.specs.Sizes.{sizes_meet}
use Rattle.xs_fields.specs.declared.condition.Condition.{Condition}
use Rattle.xs_model.specs.declared.decl.Decl.TheVariants.{Array}
use Rattle.xs_model.specs.Sound.{cell_count, most_cells, most_items, names_of}
use Rattle.xs_var.specs.Container.{are_children_known}
use Rattle.xs_var.specs.Elements.{children_of, has_only, text_in, text_or_none, value_in}
use Rattle.xs_var.specs.Units.{UnitOf, unjudged}
use Rattle.xs_var.specs.VarDomain.{counting_meets, fitting_meets, values_in}
use Rattle.xs_var.specs.VarUnit.{Declared}
use Rattle.xs_var.specs.Variable.{as_meets, has_no_child, id_meets, is_blank, is_integer_type, known_meets, names_meet, spelling_meets}
use Rattle.xs_array.specs.Cells.{array_cells, does_fit, stated_sizes}
use Rattle.xs_array.specs.DomainChild.{domain_child_meets, is_domain_known}

abbrev pub array_attributes : List (List ℕ)
array_attributes = codes "id" ∷ codes "type" ∷ codes "as" ∷ codes "size" ∷ codes "class" ∷ codes "note" ∷ []

abbrev pub is_array_known : Node → Bool
is_array_known n =
    has_only array_attributes n.attrs && is_integer_type (value_in (codes "type") n.attrs)
    && are_children_known (codes "domain" ∷ []) n.pieces && list_all is_domain_known (children_of n.pieces)

-- sizes that have to be there
abbrev pub size_meets : Option (List ℕ) → Condition → Bool
size_meets None k = spelling_meets false k
size_meets (Some text) k = sizes_meet text k

-- a domain text without children; a blank text beside `domain` children
abbrev pub domains_meet : List ℕ → List ℤ → List Node → List ℕ → Condition → Bool
domains_meet name sizes [] text k = pieces_meet text k
domains_meet name sizes (c ∷ cs) text k = spelling_meets (is_blank text) k && list_all (λ d. domain_child_meets name sizes d k) (c ∷ cs)

-- beside `as` a blank text and no child
abbrev pub content_meets : Option (List ℕ) → Node → Condition → Bool
content_meets None n k = domains_meet (text_or_none (value_in (codes "id") n.attrs)) (stated_sizes n) (children_of n.pieces) (text_in n.pieces) k
content_meets (Some like) n k = spelling_meets (is_blank (text_in n.pieces) && has_no_child n.pieces) k

-- what the element of an array meets by itself
abbrev pub array_fields_meet : Node → Condition → Bool
array_fields_meet n k =
    known_meets (is_array_known n) k
    && (id_meets (value_in (codes "id") n.attrs) k
    && (as_meets (value_in (codes "as") n.attrs) k
    && (size_meets (value_in (codes "size") n.attrs) k
    && content_meets (value_in (codes "as") n.attrs) n k)))

-- how many values of cells are counted; none where `as` does not fit
abbrev pub values_among : Option (List (Option (List Bounds))) → ℕ
values_among None = 0
values_among (Some cells) = sum (map values_in cells)

-- the limits on what is read hold with the cells and the values of the array
abbrev pub is_array_counted : Declared → Node → Bool
is_array_counted s n = nat_le (s.cells + cell_count (stated_sizes n)) most_cells && nat_le (s.values + values_among (array_cells s.decls n)) most_items

-- what an array meets
abbrev pub array_meets : Declared → Node → Condition → Bool
array_meets s n k =
    array_fields_meet n k
    && (names_meet (names_of s.decls) n k
    && (counting_meets (is_array_counted s n) k && fitting_meets (does_fit s.decls n) k))

abbrev pub with_cells : Declared → List ℕ → List ℤ → Option (List (Option (List Bounds))) → Declared
with_cells s name sizes None = s
with_cells s name sizes (Some cells) = record { decls = s.decls ++ Array name sizes cells ∷ []; cells = s.cells + cell_count sizes; values = s.values + values_among (Some cells) }

-- what is declared with the array
abbrev pub with_array : Declared → Node → Declared
with_array s n = with_cells s (text_or_none (value_in (codes "id") n.attrs)) (stated_sizes n) (array_cells s.decls n)

abbrev pub array_unit : Node → UnitOf Declared
array_unit n = record { place = n.place; meets = λ s. array_meets s n; judged = unjudged; behind = λ s. with_array s n }
