-- The cells of an array: their domains, by the text, by `domain` children or by `as` (XCSP3-core, "Arrays of
-- variables").
use Rattle.std.specs.Prelude.{ℕ, Bool, true, false, ◌&&◌, int_le, pos, ℤ, List, [], ◌∷◌, map, replicate, Option, None, Some, is_some, if◌then◌else◌, codes}
use Rattle.std.specs.List.{list_all, list_any, range_with_len}
use Rattle.std.specs.Ordering.{int_eq}
use Rattle.xf_markup.specs.declared.tree.Node.{Node}
use Rattle.xf_num.specs.Span.{Bounds}
use Rattle.xs_fields.specs.Sizes.{sizes_of}
use Rattle.xs_model.specs.declared.decl.Decl.{Decl}
use Rattle.xs_model.specs.declared.decl.Decl.TheVariants.{One, Array}
use Rattle.xs_model.specs.Sound.{cell_count}
use Rattle.xs_var.specs.Elements.{children_of, text_in, text_or_none, value_in}
use Rattle.xs_var.specs.Like.{declaration, single_domain}
use Rattle.xs_var.specs.VarDomain.{text_domain}
use Rattle.xs_array.specs.DomainChild.{Named, are_apart, cell_at, named_by}

-- the sizes that an array states
abbrev pub stated_sizes : Node → List ℤ
stated_sizes n = sizes_of (text_or_none (value_in (codes "size") n.attrs))

-- each size is at least 1
abbrev pub are_positive : List ℤ → Bool
are_positive sizes = list_all (int_le (pos 1)) sizes

abbrev pub is_same_list : List ℤ → List ℤ → Bool
is_same_list [] [] = true
is_same_list [] (z ∷ zs) = false
is_same_list (y ∷ ys) [] = false
is_same_list (y ∷ ys) (z ∷ zs) = int_eq y z && is_same_list ys zs

-- every cell with one domain
abbrev pub all_cells : List ℤ → Option (List Bounds) → List (Option (List Bounds))
all_cells sizes domain = replicate (cell_count sizes) domain

abbrev pub one_for_all : List ℤ → Option (List Bounds) → Option (List (Option (List Bounds)))
one_for_all sizes None = None
one_for_all sizes (Some d) = Some (all_cells sizes (Some d))

-- the cells that are taken from a declaration: those of an array of the same sizes, else its single domain for all
abbrev pub cells_like : List ℤ → Decl → Option (List (Option (List Bounds)))
cells_like sizes (One name domain) = one_for_all sizes (Some domain)
cells_like sizes (Array name others cells) = if is_same_list sizes others then Some cells else one_for_all sizes (single_domain (Array name others cells))

abbrev pub cells_from : List ℤ → Option Decl → Option (List (Option (List Bounds)))
cells_from sizes None = None
cells_from sizes (Some d) = cells_like sizes d

-- the `domain` children, as what they name
abbrev pub named_in : Node → List Named
named_in n = map (named_by (stated_sizes n)) (children_of n.pieces)

-- the cells by `domain` children; without such, each has the domain of the text
abbrev pub cells_named : List ℤ → List Named → List ℕ → List (Option (List Bounds))
cells_named sizes [] text = all_cells sizes (text_domain text)
cells_named sizes (c ∷ cs) text = map (cell_at (c ∷ cs)) (range_with_len 0 (cell_count sizes))

abbrev pub cells_by : List Decl → Option (List ℕ) → Node → Option (List (Option (List Bounds)))
cells_by ds None n = Some (cells_named (stated_sizes n) (named_in n) (text_in n.pieces))
cells_by ds (Some like) n = cells_from (stated_sizes n) (declaration ds like)

-- the domains of the cells in row-major order; None where `as` does not fit
abbrev pub array_cells : List Decl → Node → Option (List (Option (List Bounds)))
array_cells ds n = cells_by ds (value_in (codes "as") n.attrs) n

-- no domain is empty: that of the text, or those of the `domain` children
abbrev pub are_full : List Named → List ℕ → Bool
are_full [] text = is_some (text_domain text)
are_full (c ∷ cs) text = list_all (λ d. is_some d.domain) (c ∷ cs)

abbrev pub is_content_full : Option (List ℕ) → Node → Bool
is_content_full None n = are_full (named_in n) (text_in n.pieces) && are_apart (named_in n)
is_content_full (Some like) n = true

abbrev pub has_cell : Option (List (Option (List Bounds))) → Bool
has_cell None = false
has_cell (Some cells) = list_any is_some cells

-- sizes of at least 1, no empty domain, no cell named by two children, `as` fits, and some cell is defined
abbrev pub does_fit : List Decl → Node → Bool
does_fit ds n = are_positive (stated_sizes n) && is_content_full (value_in (codes "as") n.attrs) n && has_cell (array_cells ds n)
