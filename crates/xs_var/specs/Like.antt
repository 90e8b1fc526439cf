-- The domain that a variable takes from an earlier declaration, by `as` (XCSP3-core, "Variables").
use Rattle.std.specs.Prelude.{ℕ, Bool, true, false, ◌&&◌, List, [], ◌∷◌, Option, None, Some, if◌then◌else◌}
use Rattle.std.specs.List.{find, list_all}
use Rattle.std.specs.Ordering.{int_eq}
use Rattle.std.specs.Str.{bytes_eq}
use Rattle.xf_num.specs.Span.{Bounds}
use Rattle.xs_model.specs.declared.decl.Decl.{Decl}
use Rattle.xs_model.specs.declared.decl.Decl.TheVariants.{One, Array}
use Rattle.xs_model.specs.Sound.{name_of}

abbrev pub is_same_range : Bounds → Bounds → Bool
is_same_range b c = int_eq b.lo c.lo && int_eq b.hi c.hi

-- the same ranges in the same order
abbrev pub is_same : List Bounds → List Bounds → Bool
is_same [] [] = true
is_same [] (c ∷ cs) = false
is_same (b ∷ bs) [] = false
is_same (b ∷ bs) (c ∷ cs) = is_same_range b c && is_same bs cs

abbrev pub has_domain : List Bounds → Option (List Bounds) → Bool
has_domain d None = false
has_domain d (Some e) = is_same d e

-- the one domain of cells that are all defined with it
abbrev pub one_domain : List (Option (List Bounds)) → Option (List Bounds)
one_domain [] = None
one_domain (None ∷ cells) = None
one_domain (Some d ∷ cells) = if list_all (has_domain d) cells then Some d else None

-- the domain of a variable, and of an array whose cells are all defined with one
abbrev pub single_domain : Decl → Option (List Bounds)
single_domain (One name domain) = Some domain
single_domain (Array name sizes cells) = one_domain cells

-- the declaration of a name
abbrev pub declaration : List Decl → List ℕ → Option Decl
declaration ds name = find (λ d. bytes_eq (name_of d) name) ds

abbrev pub single_in : Option Decl → Option (List Bounds)
single_in None = None
single_in (Some d) = single_domain d

-- the domain that a variable takes from the declaration of a name
abbrev pub like_domain : List Decl → List ℕ → Option (List Bounds)
like_domain ds name = single_in (declaration ds name)
