-- The term at a place.
use Rattle.std.proofs.Common.{ℕ, zero, suc, List, [], ◌∷◌, map, get_or}
use Rattle.std.specs.List.{AllByRecursion}
use Rattle.xs_model.specs.Fields.{item_of}
use Rattle.xs_model.specs.Formed.{IsFormedItem}
use Rattle.xs_model.specs.declared.term.Term.{Term}

pub item_at : (n : ℕ) (ts : List Term) (at : ℕ) (other : Term) → AllByRecursion (IsFormedItem n) (map item_of ts) → IsFormedItem n (item_of other) → IsFormedItem n (item_of (get_or ts at other))
item_at n [] at other h o = o
item_at n (t ∷ ts) zero other h o = h.0
item_at n (t ∷ ts) (suc at) other h o = item_at n ts at other h.1 o
