-- The cells of an array (XCSP3-core, "Arrays of variables").
use Rattle.std.specs.Prelude.{◌≡◌, ℕ, List, Option, None, IsSome, length, take, slice_index_or}
use Rattle.xf_num.specs.Span.{Bounds}
use Rattle.xs_model.specs.Names.{defined}

-- place p is that of the nth defined cell: its cell is defined, and nth of the cells before it are
abbrev pub IsDefinedPlace : List (Option (List Bounds)) → ℕ → ℕ → Type 0
IsDefinedPlace cells nth p = IsSome (slice_index_or cells p None) × (length (defined (take p cells)) ≡ nth)
