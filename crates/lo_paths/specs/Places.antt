-- Where states stand in a list, and a table of that by their numbers.
use Rattle.std.specs.Prelude.{◌≡◌, ℕ, suc, List, [], ◌∷◌, Option, None, Some, if◌then◌else◌, eqb, get_or}
use Rattle.std.specs.Option.{option_map}

-- the place at which a state first stands
abbrev pub place : List ℕ → ℕ → Option ℕ
place [] q = None
place (p ∷ ps) q = if eqb q p then Some 0 else option_map suc (place ps q)

-- a table has the place of each state by its number, and none of a state that is not in the list
abbrev pub ArePlaces : List ℕ → List (Option ℕ) → Type 0
ArePlaces qs table = (q : ℕ) → get_or table q None ≡ place qs q
