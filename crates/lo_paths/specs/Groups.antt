-- Arrivals by their states.
use Rattle.std.specs.Prelude.{◌≡◌, ℕ, List, map}
use Rattle.fz_model.specs.declared.builtin.Builtin.TheVariants.{ArrayBoolOr}
use Rattle.lo_emit.specs.declared.term.Term.{Term}
use Rattle.lo_emit.specs.Emitted.{Outs, truth_of_list}
use Rattle.lo_emit.specs.Loops.{each}
use Rattle.lo_paths.specs.declared.groups.Groups.{Groups}
use Rattle.lo_paths.specs.declared.path.Arrival.{Arrival}
use Rattle.lo_paths.specs.Path.{arriving, targets_of}

-- the states that are arrived at, in order of first target, and for each what tells of the transitions there
pub record IsGrouped (rs : List Arrival) (g : Groups) : Type 0 where
  pub states : g.states ≡ targets_of rs
  pub ways : g.ways ≡ map (λ q. arriving q rs) (targets_of rs)

-- of each list of truth values, whether one of them is true
abbrev pub any_of : ℕ → List (List Term) → Outs
any_of n ways = each (λ m ts. truth_of_list m ArrayBoolOr ts) n ways
