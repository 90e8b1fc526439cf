-- The root and the leaf of a diagram (XCSP3-core, "Constraint mdd"): its one state that is no target, and its one state that
-- is no source. The first is then a source, and the other a target.
use Rattle.std.specs.Prelude.{ℕ, Bool, not, ◌&&◌, nat_eq, is_some, List, [], ◌∷◌, map, filter, Option, None, Some, if◌then◌else◌}
use Rattle.std.specs.List.{list_all, list_any}
use Rattle.xs_model.specs.declared.instance.Edge.{Edge}

abbrev pub is_target : List Edge → ℕ → Bool
is_target edges q = list_any (λ e. nat_eq e.to q) edges

abbrev pub is_source : List Edge → ℕ → Bool
is_source edges q = list_any (λ e. nat_eq e.from q) edges

-- the one state of a list, in which it may stand more than once
abbrev pub only_of : List ℕ → Option ℕ
only_of [] = None
only_of (q ∷ qs) = if list_all (nat_eq q) qs then Some q else None

abbrev pub root_of : List Edge → Option ℕ
root_of edges = only_of (filter (λ q. not (is_target edges q)) (map (λ e. e.from) edges))

abbrev pub leaf_of : List Edge → Option ℕ
leaf_of edges = only_of (filter (λ q. not (is_source edges q)) (map (λ e. e.to) edges))

-- there are both
abbrev pub has_ends : List Edge → Bool
has_ends edges = is_some (root_of edges) && is_some (leaf_of edges)

abbrev pub told : Option ℕ → ℕ
told None = 0
told (Some q) = q
