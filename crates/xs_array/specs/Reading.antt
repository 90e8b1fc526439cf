-- What the reading of an array keeps from step to step.
use Rattle.std.specs.Prelude.{◌≡◌, ℕ, ◌+◌, ◌&&◌, Bool, nat_le, ℤ, List, [], map, sum, Option, None, Some, is_some, Result, Ok, Err, if◌then◌else◌, codes}
use Rattle.std.specs.List.{AllByRecursion, list_any}
use Rattle.xf_markup.specs.declared.tree.Node.{Node}
use Rattle.xf_num.specs.Span.{Bounds}
use Rattle.xs_fields.specs.Conditions.{first_missed}
use Rattle.xs_fields.specs.Sizes.{sizes_of}
use Rattle.xs_fields.specs.declared.condition.Condition.{Condition}
use Rattle.xs_fields.specs.declared.condition.Condition.TheVariants.{Counting, Fitting}
use Rattle.xs_model.specs.declared.decl.Decl.{Decl}
use Rattle.xs_model.specs.declared.decl.Decl.TheVariants.{One, Array}
use Rattle.xs_model.specs.Sound.{most_items}
use Rattle.xs_var.specs.declared.counted.Counted.{Counted}
use Rattle.xs_var.specs.Elements.{children_of, text_in, text_or_none, value_in}
use Rattle.xs_var.specs.VarDomain.{values_in}
use Rattle.xs_var.specs.Variable.{has_no_child, is_blank, spelling_meets}
use Rattle.xs_array.specs.ArrayUnit.{domains_meet, size_meets}
use Rattle.xs_array.specs.Cells.{is_same_list, stated_sizes}
use Rattle.xs_array.specs.Owners.{HasCells}

-- the sizes where nothing is missed
abbrev pub where_none : Option Condition → List ℤ → List ℤ
where_none None sizes = sizes
where_none (Some k) sizes = []

-- the sizes that a value spells; none where it is misspelt
abbrev pub spelt_sizes : Option (List ℕ) → List ℤ
spelt_sizes value = where_none (first_missed (size_meets value)) (sizes_of (text_or_none value))

-- what the content of an array of this name and these sizes meets
abbrev pub content_within : Option (List ℕ) → List ℕ → List ℤ → Node → Condition → Bool
content_within None name sizes n k = domains_meet name sizes (children_of n.pieces) (text_in n.pieces) k
content_within (Some like) name sizes n k = spelling_meets (is_blank (text_in n.pieces) && has_no_child n.pieces) k

-- the cells of a declaration of an array of these sizes
abbrev pub same_cells : List ℤ → Decl → Option (List (Option (List Bounds)))
same_cells sizes (One name domain) = None
same_cells sizes (Array name others cells) = if is_same_list sizes others then Some cells else None

-- without `as` each `domain` child names cells of the array
abbrev pub HasContent : Node → Type 0
HasContent n = value_in (codes "as") n.attrs ≡ None → AllByRecursion (HasCells (stated_sizes n)) (children_of n.pieces)

-- the declaration of an array with these cells and counts, or what it misses
abbrev pub with_content : List ℕ → List ℤ → Option (List (Option (List Bounds))) → Bool → ℕ → ℕ → Result Counted Condition
with_content name sizes None full cells values = Err Fitting
with_content name sizes (Some items) full cells values =
    if nat_le (values + sum (map values_in items)) most_items then (if full && list_any is_some items then Ok (record { decl = Array name sizes items; cells = cells; values = values + sum (map values_in items) }) else Err Fitting) else Err Counting
