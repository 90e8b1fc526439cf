-- When integers, domains and declarations are well formed, and what is counted of declarations.
use Rattle.std.specs.Prelude.{◌≡◌, ℕ, ◌*◌, ◌-◌, ◌^◌, ◌<◌, ◌≤◌, ℤ, pos, ◌≤ℤ◌, nat_abs, List, [], ◌∷◌, length, map}
use Rattle.std.specs.List.{AllByRecursion}
use Rattle.xf_num.specs.Domain.{IsDomain, size_of}
use Rattle.xf_num.specs.Span.{Bounds}
use Rattle.xs_model.specs.declared.decl.Decl.{Decl}
use Rattle.xs_model.specs.declared.decl.Decl.TheVariants.{One, Array}
use Rattle.xs_model.specs.Identifier.{IsIdentifier}
use Rattle.xs_model.specs.Names.{places_of, defined}
use Rattle.xf_num.specs.Limits as limits

-- the greatest magnitude of an integer
abbrev pub magnitudes : ℕ
magnitudes = limits.greatest_magnitude

abbrev pub IsSmall : ℤ → Type 0
IsSmall z = nat_abs z ≤ magnitudes

abbrev pub HasSmallEnds : Bounds → Type 0
HasSmallEnds b = IsSmall b.lo × IsSmall b.hi

-- a list of ranges that is a domain, of integers of at most that magnitude
abbrev pub IsSoundDomain : List Bounds → Type 0
IsSoundDomain d = IsDomain d × AllByRecursion HasSmallEnds d

-- a size of an array
abbrev pub IsSize : ℤ → Type 0
IsSize n = pos 1 ≤ℤ n

-- the number of cells of an array of these sizes
abbrev pub cell_count : List ℤ → ℕ
cell_count [] = 1
cell_count (n ∷ ns) = places_of n * cell_count ns

-- a declaration: an identifier; of an array sizes of at least 1, a cell for each place, and a defined cell
abbrev pub IsSoundDecl : Decl → Type 0
IsSoundDecl (One name domain) = IsIdentifier name × IsSoundDomain domain
IsSoundDecl (Array name sizes cells) =
    IsIdentifier name × (0 < length sizes) × AllByRecursion IsSize sizes × (length cells ≡ cell_count sizes) × (0 < length (defined cells)) × AllByRecursion IsSoundDomain (defined cells)

-- the name of a declaration
abbrev pub name_of : Decl → List ℕ
name_of (One name domain) = name
name_of (Array name sizes cells) = name

abbrev pub names_of : List Decl → List (List ℕ)
names_of ds = map name_of ds

-- how many variables and array cells a declaration has, undefined cells included
abbrev pub cells_of : Decl → ℕ
cells_of (One name domain) = 1
cells_of (Array name sizes cells) = length cells

-- how many values of a domain are counted: all where it is more than one range, else none
abbrev pub values_of : List Bounds → ℕ
values_of [] = 0
values_of (b ∷ []) = 0
values_of (b ∷ c ∷ bs) = size_of (b ∷ c ∷ bs)

abbrev pub most_cells : ℕ
most_cells = limits.most_variables

abbrev pub most_items : ℕ
most_items = limits.most_items
